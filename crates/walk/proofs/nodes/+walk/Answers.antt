-- `walk` meets its contract: the children that are left give the rest of the list. The levels left fall.
use lib.Bits.{bit_or}
use Prim.Native.Nat.{ℕ, ◌+◌, ◌-◌, ◌*◌, ◌^◌, ◌%◌, ◌<◌, ◌≤◌}
use native.Mathlib.Nat.{mul-le-mul_left}
use lib.ListN.{length, set}
use lib.Seq.{sets}
use mathlib.Core.Path.{◌≡◌, sym, ap, ◌∙◌}
use mathlib.Core.Bool.{Bool, true, false}
use mathlib.Core.List.{List, [], ◌∷◌}
use native.Mathlib.Omega.{arith}
use Rattle.sets.specs.Sets.{member, insert}
use Rattle.sets.proofs.Collect.{insert-byte}
use Rattle.walk.specs.Listing.{Written}
use Rattle.internal.specs.Numbers.{pack}
use Rattle.internal.specs.Tests.{is_open}
use Rattle.walk.specs.Walk.{walked}
use Rattle.walk.proofs.Steps.{walked-shut, walked-last, walked-inner, number_fits, child-number, child-small, walking_start, walking_skip, walking_here, walking-room, walking-end}
use Rattle.walk.proofs.nodes.+walk.Goals as goal
use Rattle.walk.proofs.nodes.+walk.Goals.{After-node_of, In-loop-c, then-is_open+then-left-eq1, then-is_open+else-left-eq1, else-is_open, then-not-member, else-not-member}

pub returns-then-not-is_open : goal.returns-then-not-is_open
returns-then-not-is_open t c =
    let a = c.args in
    let e = walked-shut (is_open (a.holders).now a.without) a.n a.spare a.left a.index a.last a.boards (sym c.is_open.ensures ∙ c.if-not-is_open.true) in
    record { counted = omega (arith, ap length e); content = ap (sets (a.nodes).now a.used) (sym e) }

-- A node of the level is written.
here : (t : ℕ) (c : After-node_of t) → walked (is_open c.args.holders.now c.args.without) c.args.n c.args.spare c.args.left c.args.index c.args.last c.args.boards ≡ pack c.args.index c.args.last c.args.boards ∷ []
here t c =
    let a = c.args in
    walked-last (is_open (a.holders).now a.without) a.n a.spare a.left a.index a.last a.boards c.if-left-eq0.true
    (sym c.is_open.ensures ∙ c.if-not-is_open.false)

pub bounds-nodes-used : goal.bounds-nodes-used
bounds-nodes-used t c = omega (arith, c.requires.room, ap length (here t (goal.at.bounds-nodes-used t c).After-node_of))

pub returns-then-left-eq0 : goal.returns-then-left-eq0
returns-then-left-eq0 t c =
    let a = c.args in
    let h = here t (goal.at.returns-then-left-eq0 t c).After-node_of in
    record {
      counted = omega (arith, ap length h);
      content = ap (set (a.nodes).now a.used) c.node_of.ensures ∙ ap (sets (a.nodes).now a.used) (sym h);
    }

pub overflow_mul-next : goal.overflow_mul-next
overflow_mul-next t c =
    let p = c.requires in
    record {
      fits = omega (
        arith,
        number_fits c.args.left c.args.index c.if-left-eq0.false (omega (arith, p.width)) p.number,
        mul-le-mul_left c.args.index p.width,
        ap (λ w. c.args.index * w) c.from.ensures,
      );
    }

pub loop-c-init : goal.loop-c-init
loop-c-init t c =
    let a = c.args in
    let test = is_open (a.holders).now a.without in
    walking_start (walked test a.n a.spare (a.left - 1)) a.boards a.n (a.index * (a.spare + a.left)) a.used _ (a.nodes).now
    _ (ap (λ w. a.index * w) c.from.ensures) (walked-inner test a.n a.spare a.left a.index a.last a.boards c.if-left-eq0.false (sym c.is_open.ensures ∙ c.if-not-is_open.false))

-- The children so far, at a child.
module _ {t : ℕ} (x : In-loop-c t) where
  abbrev test : ℕ → Bool
  test = is_open x.args.holders.now x.args.without

  -- What stands below a child.
  abbrev part : ℕ → List ℕ
  part s = walked test x.args.n x.args.spare (x.args.left - 1) x.loop-c.next x.loop-c.c s

  -- The child's boards.
  abbrev grown : ℕ
  grown = bit_or x.args.boards (1 * 2 ^ x.loop-c.c % 256)

  joined : grown ≡ insert x.loop-c.c x.args.boards
  joined = insert-byte x.args.boards x.loop-c.c (omega (arith, x.requires.most-boards))

  small : grown < 128
  small = child-small x.args.boards x.loop-c.c x.requires.small (omega (arith, x.requires.most-boards))

  number : x.loop-c.next < 8 ^ (7 - (x.args.left - 1))
  number =
      let a = x.args in
      let p = x.requires in
      let l = x.loop-c in
      child-number a.left a.index (a.spare + a.left) l.c l.next x.if-left-eq0.false (omega (arith, p.width)) p.width (omega (arith, p.most-boards)) p.number l.invariant.number

  room : member x.loop-c.c x.args.boards ≡ false → x.loop-c.at + length (part grown) ≤ length x.loop-c.nodes
  room out =
      let a = x.args in
      let l = x.loop-c in
      rw joined
      (walking-room (walked test a.n a.spare (a.left - 1)) a.boards a.n (a.index * (a.spare + a.left)) a.used _ (a.nodes).now l.c l.next l.at l.nodes l.invariant x.loop-c-test.true out l.auto.nodes x.requires.room)

  shut : test grown ≡ false → part grown ≡ []
  shut e = let a = x.args in walked-shut test a.n a.spare (a.left - 1) x.loop-c.next x.loop-c.c grown e

  leaf : x.args.left ≡ 1 → test grown ≡ true → part grown ≡ pack x.loop-c.next x.loop-c.c grown ∷ []
  leaf e o = let a = x.args in walked-last test a.n a.spare (a.left - 1) x.loop-c.next x.loop-c.c grown (omega arith) o

pub is_open-requires-then-not-member : goal.is_open-requires-then-not-member
is_open-requires-then-not-member t c = record { whole = c.requires.whole; small = small (goal.at.is_open-requires-then-not-member t c).In-loop-c }

pub bounds-nodes-at : goal.bounds-nodes-at
bounds-nodes-at t c =
    let x = (goal.at.bounds-nodes-at t c).In-loop-c in
    let free = sym c.member.ensures ∙ c.if-not-member.true in
    omega (arith, room x free, ap length (leaf x c.if-left-eq1.true (sym c.is_open-then-not-member.ensures ∙ c.if-is_open.true)))

pub walk-at-requires : goal.walk-at-requires
walk-at-requires t c =
    let x = (goal.at.walk-at-requires t c).In-loop-c in
    let p = c.requires in (
      omega arith,
      record {
        most-boards = p.most-boards;
        width = omega (arith, p.width);
        number = number x;
        small = small x;
        whole = p.whole;
        room = room x (sym c.member.ensures ∙ c.if-not-member.true);
      },
    )

pub overflow_add-next : goal.overflow_add-next
overflow_add-next t c =
    let p = c.requires in
    let l = c.loop-c in
    let e = number_fits c.args.left c.args.index c.if-left-eq0.false (omega (arith, p.width)) p.number in
    record { fits = omega (arith, l.invariant.number, p.most-boards, mul-le-mul_left c.args.index p.width) }

pub loop-c-preserved : goal.loop-c-preserved
loop-c-preserved t c =
    let x = (goal.at.loop-c-preserved t c).In-loop-c in
    let a = c.args in
    let l = c.loop-c in
    let inside = c.loop-c-test.true in
    let f = walked (is_open (a.holders).now a.without) a.n a.spare (a.left - 1) in
    let base = a.index * (a.spare + a.left) in
    elim c.if-not-member.branch [
      | then-not-member w ↦
          let child : Written l.at w.if-is_open.at (part x (grown x)) l.nodes w.if-is_open.nodes =
          elim w.if-is_open.branch [
            | then-is_open+then-left-eq1 u ↦
                let e = leaf x u.if-left-eq1.true (sym w.is_open-then-not-member.ensures ∙ u.if-is_open.true) in
                record {
                  counted = u.at-is ∙ omega (arith, ap length e);
                  content = u.nodes-is ∙ ap (set l.nodes l.at) u.node_of-then-left-eq1.ensures ∙ ap (sets l.nodes l.at) (sym e);
                }
            | then-is_open+else-left-eq1 u ↦ record { counted = u.at-is ∙ u.walk-at.ensures.counted; content = u.nodes-is ∙ u.walk-at.ensures.content }
            | else-is_open u ↦
                let e = shut x (sym w.is_open-then-not-member.ensures ∙ u.if-is_open.false) in
                record { counted = u.at-is ∙ omega (arith, ap length e); content = u.nodes-is ∙ ap (sets l.nodes l.at) (sym e) }
          ] in
          let k : Written l.at c.if-not-member.at (f l.next l.c (insert l.c a.boards)) l.nodes c.if-not-member.nodes = record {
            counted = w.at-is ∙ child.counted ∙ ap (λ b. l.at + length (f l.next l.c b)) (joined x);
            content = w.nodes-is ∙ child.content ∙ ap (λ b. sets l.nodes l.at (f l.next l.c b)) (joined x);
          } in
          walking_here f a.boards a.n base a.used _ (a.nodes).now l.c l.next l.at c.if-not-member.next c.if-not-member.at l.nodes c.if-not-member.nodes l.invariant inside
          (sym c.member.ensures ∙ w.if-not-member.true) w.next-is k
      | else-not-member w ↦ walking_skip f a.boards a.n base a.used _ (a.nodes).now l.c l.next l.at c.if-not-member.next c.if-not-member.at l.nodes c.if-not-member.nodes l.invariant inside
          (sym c.member.ensures ∙ w.if-not-member.false) w.next-is w.at-is w.nodes-is
    ]

pub returns : goal.returns
returns t c =
    let a = c.args in
    let l = c.loop-c in
    walking-end (walked (is_open (a.holders).now a.without) a.n a.spare (a.left - 1)) a.boards a.n (a.index * (a.spare + a.left)) a.used _ (a.nodes).now
    l.c l.next l.at l.nodes l.invariant c.loop-c-test.false
