-- The whole walk, from the root: what it asks, and what it leaves.
-- Assumes nothing.
use Prim.Native.Nat.{ℕ, ◌+◌, ◌-◌, ◌*◌, ◌%◌, ◌^◌, ◌≤◌, ◌<◌}
use mathlib.Core.Path.{◌≡◌, refl, sym, ◌∙◌, ap, subst}
use mathlib.Core.List.{List, [], ◌∷◌, ◌++◌, map}
use native.Mathlib.Omega.{arith}
use lib.Bits.{bit_or}
use lib.Dec.{ltb}
use lib.ListN.{length, drop, length-map}
use lib.Seq.{sets-eq}
use borrow.Author.Tests.{ltb-true}
use Rattle.holders.specs.Holders.{holder_table}
use Rattle.holders.proofs.Held.{table-length}
use Rattle.sets.proofs.Tests.{cases}
use Rattle.plan.specs.declared.plan.Plan.{Plan}
use Rattle.plan.specs.Calls.{judged}
use Rattle.plan.specs.Listed.{listed}
use Rattle.heights.specs.Levels.{is_cut}
use Rattle.schedule.specs.Schedule.{rounds}
use Rattle.heights.proofs.Heights.{height-le}
use Rattle.schedule.proofs.Levels.{rounds-cut, rounds-full, cut-depth}
use Rattle.tree.specs.Labels.{Label, mask}
use Rattle.tree.proofs.Below.{all-at}
use Rattle.tree.proofs.Descent.{root-byte}
use Rattle.protocol.specs.Nodes.{inner, carried}
use Rattle.protocol.proofs.Judgement.{plan-facts}
use Rattle.internal.specs.Numbers.{code}
use Rattle.walk.specs.Walk.{single, walked}
use Rattle.internal.specs.Tests.{is_open, barred}
use Rattle.walk.specs.Listing.{Walkable, Lists, Walking, Written}
use Rattle.walk.proofs.Carried.{carried-all}
use Rattle.walk.proofs.Numbers.{root-mask, walked-carried}

-- No plan that is accepted has more rounds than boards.
pub rounds-most : (p : Plan) → (judged p).number ≡ 0 → (rounds p).0 ≤ p.n
rounds-most p e =
    let h = height-le p e in
    cases (is_cut p)
    (λ c. rw (rounds-cut p c) (omega (arith, cut-depth p c)))
    (λ c. rw (rounds-full p c) h)

-- What callers have of such a plan is what the walk asks.
pub walkable : (p : Plan) → (judged p).number ≡ 0 → (level : ℕ) (αs : List Label) (holders nodes : List ℕ) → 1 ≤ level → level < (rounds p).0
    → holders ≡ holder_table (listed p) → length αs ≤ length nodes → Walkable p level αs holders nodes
walkable p e level αs holders nodes low high t room =
    let f = plan-facts p e in
    record {
      some-board = f.admission.some-board;
      most-boards = f.admission.most-boards;
      dealer-below = f.dealer-below;
      level-low = low;
      level-most = omega (arith, rounds-most p e);
      level-high = high;
      table = t;
      room = room;
    }

-- The root's boards, as the code makes them.
abbrev root : Plan → ℕ
root p = 1 * 2 ^ p.dealer % 256

abbrev walked_from : Plan → ℕ → ℕ → List ℕ → List ℕ
walked_from p level w holders = walked (is_open holders w) p.n (p.n - level) (level - 1) 0 p.dealer (root p)

module _ (p : Plan) (q i level w : ℕ) (holders nodes : List ℕ) (k : Walkable p level (carried p q i level) holders nodes) (few : length (listed p) ≤ 255) (e : w ≡ bit_or (single q) (barred p i)) where
  abbrev list : List ℕ
  list = walked_from p level w holders

  root_is : root p ≡ mask (p.dealer ∷ [])
  root_is = root-byte p.dealer (omega (arith, k.dealer-below, k.most-boards))

  pub list-is : list ≡ map (code p.n) (carried p q i level)
  list-is =
      ap (λ s. walked (is_open holders w) p.n (p.n - level) (level - 1) 0 p.dealer s) root_is
      ∙ ap (λ x. walked (is_open holders x) p.n (p.n - level) (level - 1) 0 p.dealer (mask (p.dealer ∷ []))) e
      ∙ walked-carried p q i holders k.table few level k.most-boards k.dealer-below k.level-low k.level-most k.level-high

  list_length : length list ≡ length (carried p q i level)
  list_length = ap length list-is ∙ length-map (carried p q i level) (code p.n)

  pub root_stands : Walking p.n (p.n - level) 0 (root p) (level - 1) holders 0 list nodes
  root_stands = record {
    most-boards = k.most-boards;
    width = omega (arith, k.level-low, k.level-most, k.most-boards);
    number = ltb-true 0 (8 ^ (7 - (level - 1))) (all-at (λ j. ltb 0 (8 ^ j)) 8 refl (7 - (level - 1)) (omega arith));
    small = rw root_is (root-mask p.dealer (omega (arith, k.dealer-below, k.most-boards)));
    whole = ap length k.table ∙ table-length (listed p);
    room = omega (arith, list_length, k.room);
  }

  pub whole-lists : (r : ℕ) (after : List ℕ) → Written 0 r list nodes after → Lists p r (carried p q i level) nodes after
  whole-lists r after f =
      let n : 0 + length list ≡ r = omega (arith, f.counted) in
      record {
        counted = omega (arith, f.counted, list_length);
        content = f.content ∙ sets-eq list nodes 0 (omega (arith, list_length, k.room)) ∙ ap (λ m. list ++ drop m nodes) n ∙ ap (λ l. l ++ drop r nodes) list-is;
      }

-- Without board 8, which there is not, all internal nodes are listed.
module _ (p : Plan) (i level : ℕ) {holders nodes : List ℕ} (k : Walkable p level (inner p i level) holders nodes) where
  all : carried p 8 i level ≡ inner p i level
  all = carried-all p i k.dealer-below 8 level (omega (arith, k.most-boards))

  pub all-walkable : Walkable p level (carried p 8 i level) holders nodes
  all-walkable = subst (λ αs. Walkable p level αs holders nodes) (sym all) k

  pub all-lists : {r : ℕ} {before after : List ℕ} → Lists p r (carried p 8 i level) before after → Lists p r (inner p i level) before after
  all-lists {r} {before} {after} f = subst (λ αs. Lists p r αs before after) all f
