-- Over the table of what a node's children are worth, the vote and the rules are those of the protocol.
-- Assumes nothing.
use Prim.Native.Nat.{ℕ, ◌≤◌, ◌<◌}
use mathlib.Core.Path.{◌≡◌, sym, ◌∙◌, ap, subst}
use mathlib.Core.Logic.{◌≢◌}
use mathlib.Core.Bool.{Bool, true, false, not, ◌&&◌, ◌||◌}
use mathlib.Core.List.{List}
use mathlib.Core.Option.{Option, some}
use native.Mathlib.Omega.{arith}
use lib.Dec.{eqb, ltb}
use borrow.Author.Tests.{eqb-true, ltb-true, lt-ltb}
use Rattle.codec.specs.Codec.{current, blank}
use Rattle.sets.specs.Search.{any}
use Rattle.sets.specs.Sets.{member, set_of}
use Rattle.sets.specs.Only.{same}
use Rattle.sets.specs.Structure.{tolerated}
use Rattle.sets.proofs.Tests.{cases, clash, is_true, and_l, and_r, and-true, or_l, not_t, true-not, same_test}
use Rattle.sets.proofs.Search.{any-true, any_of}
use Rattle.sets.proofs.Only.{only_same}
use Rattle.plan.specs.declared.plan.Plan.{Plan}
use Rattle.plan.specs.Listed.{listed}
use Rattle.plan.specs.Calls.{judged}
use Rattle.tree.specs.Labels.{Label, occurs, mask}
use Rattle.tree.proofs.Masks.{mask-member}
use Rattle.protocol.specs.declared.records.Slot.{Slot}
use Rattle.protocol.specs.Listing.{as_set}
use Rattle.protocol.specs.Detection.{vote, explained}
use Rattle.protocol.proofs.Tolerance.{set_of-same, tol, tol-q3, tol-path}
use Rattle.protocol.proofs.Judgement.{plan-facts}
use Rattle.voting.specs.Worth.{worth, child_table}
use Rattle.voting.specs.Tables.{at, agreeing, elected, voted, dissenting, explains, explained_by}
use Rattle.voting.proofs.Table.{table_at, same-worth}

-- Is child c of α worth v?
abbrev agrees : Label → (ℕ → Option ℕ) → ℕ → ℕ → Bool
agrees α f v c = not (occurs c α) && same (f c) (some v)

-- Is it worth something else, or in the list?
abbrev dissents : Label → (ℕ → Option ℕ) → ℕ → ℕ → ℕ → Bool
dissents α f list v c = (not (occurs c α) && not (same (f c) (some v))) || member c list

-- The table of α's children.
abbrev table_of : Plan → Label → (ℕ → Option ℕ) → List ℕ
table_of p α f = child_table f (mask α) p.n

module _ (p : Plan) (α : Label) (f : ℕ → Option ℕ) (b : p.n ≤ 8) where
  -- A child is worth v by the table exactly if it is by f.
  worth-at : (v c : ℕ) → v ≢ blank current → c < p.n → occurs c α ≡ false → eqb (at (table_of p α f) c) v ≡ same (f c) (some v)
  worth-at v c ne l e =
      ap (λ x. eqb x v) (table_at f (mask α) p.n c b l (mask-member c α ∙ e)) ∙ sym (same-worth (f c) v ne)

  agreeing-table : (v : ℕ) → v ≢ blank current → set_of (agrees α f v) p.n ≡ agreeing p.n (mask α) (table_of p α f) v
  unfolding agreeing
  agreeing-table v ne =
      let g : ℕ → Bool = λ c. not (member c (mask α)) && eqb (at (table_of p α f) c) v in
      set_of-same (agrees α f v) g p.n
      (λ c l. cases (occurs c α)
      (λ e. rw (mask-member c α, e))
      (λ e. rw (mask-member c α, e) (sym (worth-at v c ne l e))))

  dissenting-table : (list v : ℕ) → v ≢ blank current → set_of (dissents α f list v) p.n ≡ dissenting p.n (mask α) (table_of p α f) v list
  unfolding dissenting
  dissenting-table list v ne =
      let g : ℕ → Bool = λ c. (not (member c (mask α)) && not (eqb (at (table_of p α f) c) v)) || member c list in
      set_of-same (dissents α f list v) g p.n
      (λ c l. cases (occurs c α)
      (λ e. rw (mask-member c α, e))
      (λ e. rw (mask-member c α, e) (ap (λ x. not x || member c list) (sym (worth-at v c ne l e)))))

  -- Resolving. What the children are worth needs no bound: what is no value below m gets no vote.
  pub vote-table : p.span ≤ blank current → worth (vote p α f) ≡ voted p (mask α) (child_table f (mask α) p.n)
  unfolding vote voted elected
  vote-table m =
      ap worth (only_same (λ v. not (tolerated (listed p) (set_of (agrees α f v) p.n))) (elected p (mask α) (table_of p α f)) p.span
      (λ v l. ap (λ s. not (tolerated (listed p) s)) (agreeing-table v (λ e. omega arith))))

-- Does v explain what the children of α are worth?
abbrev fits : Plan → Label → (ℕ → Option ℕ) → ℕ → ℕ → Bool
fits p α f list v = tolerated (listed p) (set_of (dissents α f list v) p.n)

module _ (p : Plan) (α : Label) (f : ℕ → Option ℕ) (list : ℕ) where
  module _ (b : p.n ≤ 8) (m : p.span ≤ blank current) where
    -- The same by the table.
    fits-table : (v : ℕ) → v < p.span → tolerated (listed p) (dissenting p.n (mask α) (table_of p α f) v list) ≡ fits p α f list v
    fits-table v l = ap (tolerated (listed p)) (sym (dissenting-table p α f b list v (λ z. omega arith)))

    -- A value that explains and is that of child c: child c explains.
    own-explains : (v c : ℕ) → v < p.span → fits p α f list v ≡ true → c < p.n → agrees α f v c ≡ true
        → explains p (mask α) (table_of p α f) list c ≡ true
    unfolding explains
    own-explains v c l t lc a =
        let o : occurs c α ≡ false = not_t (occurs c α) (and_l (not (occurs c α)) (same (f c) (some v)) a) in
        let z : at (table_of p α f) c ≡ v =
        eqb-true (at (table_of p α f) c) v (worth-at p α f b v c (λ e. omega arith) lc o ∙ and_r (not (occurs c α)) (same (f c) (some v)) a) in
        and-true (not (member c (mask α))) _ (true-not (member c (mask α)) (mask-member c α ∙ o))
        (subst (λ x. (ltb x p.span && tolerated (listed p) (dissenting p.n (mask α) (table_of p α f) x list)) ≡ true) (sym z)
        (and-true (ltb v p.span) _ (lt-ltb v p.span l) (fits-table v l ∙ t)))

    -- And back.
    explains-own : (c : ℕ) → explains p (mask α) (table_of p α f) list c ≡ true
        → (at (table_of p α f) c < p.span) × (fits p α f list (at (table_of p α f) c) ≡ true)
    unfolding explains
    explains-own c t =
        let v = at (table_of p α f) c in
        let x = ltb v p.span in
        let y = tolerated (listed p) (dissenting p.n (mask α) (table_of p α f) v list) in
        let xy = and_r (not (member c (mask α))) (x && y) t in
        let l : v < p.span = ltb-true v p.span (and_l x y xy) in
        (l, sym (fits-table v l) ∙ and_r x y xy)

  -- At an internal node of an accepted plan a value that explains is that of some child: else all children dissent, and with the
  -- node's own boards, a tolerated set, they are all boards, against Q3.
  some-child : (judged p).number ≡ 0 → tolerated (listed p) (mask α) ≡ true → ((i : ℕ) → occurs i α ≡ true → i < p.n)
      → (v : ℕ) → fits p α f list v ≡ true → any (agrees α f v) p.n ≡ true
  unfolding tol
  some-child good inner below v t =
      let path : tolerated (listed p) (set_of (λ i. occurs i α) p.n) ≡ true = tol-path p α below ∙ inner in
      let (i, l, x, y, _) = tol-q3 p good (dissents α f list v) (λ i. occurs i α) (λ i. occurs i α) t path path in
      let o : not (occurs i α) ≡ true = true-not (occurs i α) y in
      any_of (agrees α f v) p.n i l
      (and-true (not (occurs i α)) (same (f i) (some v)) o
      (is_true (same (f i) (some v)) (λ e. clash (and-true (not (occurs i α)) (not (same (f i) (some v))) o (true-not (same (f i) (some v)) e))
      (or_l (not (occurs i α) && not (same (f i) (some v))) (member i list) x))))

-- Both rules: it is enough to try the children's own values.
pub explained-table : (p : Plan) (α : Label) (f : ℕ → Option ℕ) (list : List Slot) → (judged p).number ≡ 0 → p.span ≤ blank current
    → tolerated (listed p) (mask α) ≡ true → ((i : ℕ) → occurs i α ≡ true → i < p.n)
    → explained p α f list ≡ explained_by p (mask α) (child_table f (mask α) p.n) (as_set list)
unfolding explained explained_by
explained-table p α f list good m inner below =
    let b : p.n ≤ 8 = omega (arith, (plan-facts p good).admission.most-boards) in
    let s = as_set list in
    let g = explains p (mask α) (table_of p α f) s in
    same_test (any (fits p α f s) p.span) (any g p.n)
    (λ e. let (v, l, t) = any-true (fits p α f s) p.span e in
    let (c, lc, a) = any-true (agrees α f v) p.n (some-child p α f s good inner below v t) in
    any_of g p.n c lc (own-explains p α f s b m v c l t lc a))
    (λ e. let (c, lc, t) = any-true g p.n e in
    let (l, x) = explains-own p α f s b m c t in
    any_of (fits p α f s) p.span (at (table_of p α f) c) l x)
