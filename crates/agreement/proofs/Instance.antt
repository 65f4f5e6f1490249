-- A plan of the protocol is a plan of the agreement theory, and a board resolves as the theory has it.
-- Assumes nothing.
use Prim.Native.Nat.{ℕ, zero, suc, ◌+◌, ◌-◌, ◌<◌, ◌^◌}
use mathlib.Core.Path.{◌≡◌, refl, sym, ◌∙◌, ap, subst}
use mathlib.Core.Logic.{⊎_elim}
use mathlib.Core.Bool.{true, false, not, ◌&&◌, cond}
use mathlib.Core.List.{List, [], ◌∷◌, Memᴰ}
use mathlib.Core.Option.{Option, some, none}
use native.Mathlib.Omega.{arith}
use lib.Dec.{eqb, ltb}
use lib.ListN.{length, get_or}
use borrow.Author.Tests.{eqb-true}
use Rattle.sets.specs.Sets.{member, set_of}
use Rattle.sets.specs.Structure.{tolerated}
use Rattle.sets.specs.Only.{same}
use Rattle.sets.proofs.Tests.{cases, clash, and_r, or-true}
use Rattle.sets.proofs.Member.{member-set_of, set_of-below}
use Rattle.sets.proofs.Tolerated.{tolerated-mono}
use Rattle.sets.proofs.Only.{only_same}
use Rattle.plan.specs.declared.plan.Plan.{Plan}
use Rattle.plan.specs.Listed.{listed}
use Rattle.plan.specs.Calls.{judged}
use Rattle.plan.specs.Values.{default}
use Rattle.schedule.specs.Schedule.{rounds}
use Rattle.schedule.proofs.Levels.{rounds-pos}
use Rattle.tree.specs.Labels.{Label, occurs}
use Rattle.theory.specs.Tree as T
use Rattle.theory.specs.Tree.{Node, root, child}
use Rattle.theory.proofs.Plans.{good}
use Rattle.protocol.specs.Nodes.{read, internal, nodes}
use Rattle.protocol.proofs.Nodes.{no_node, root-node, node-root, node-has, node-inv, inner-has, inner-inv, internal-tol, internal-has}
use Rattle.sets.specs.Tabulate.{tabulate}
use Rattle.sets.proofs.Tabulated.{tabulate-at}
use Rattle.protocol.specs.Detection.{vote, resolve}
use Rattle.protocol.proofs.Judgement.{plan-facts, plan-default}
use Rattle.protocol.specs.declared.records.Slot.{Slot}
use Rattle.protocol.specs.Listing.{as_set}
use Rattle.protocol.proofs.Tolerance.{tol, tol-mono, tol-q3, tol-path, set_of-same}

-- A set of boards, and a list, as a test.
abbrev pub boards_of : ℕ → T.Boards
boards_of set = λ r. member r set

abbrev pub list_of : List Slot → T.Boards
list_of list = boards_of (as_set list)

-- The plan of the theory.
abbrev pub inst : Plan → T.Plan
inst p = record {
  n = p.n;
  m = p.span;
  default = default p;
  dealer = p.dealer;
  top = (rounds p).0 - 1;
  tol = tol p;
  inner = internal p;
}

-- The levels left below a node, and its length.
pub node-level : (p : Plan) {i k : ℕ} {α : Label} → Node (inst p) i k α → length α + k ≡ (rounds p).0
node-level p root = omega (arith, rounds-pos p)
node-level p (child N e l a) = omega (arith, node-level p N)

pub node-below : (p : Plan) → p.dealer < p.n → {i k : ℕ} {α : Label} → Node (inst p) i k α → (q : ℕ) → occurs q α ≡ true → q < p.n
unfolding occurs
node-below p ld root q t = ⊎_elim (λ e. omega (arith, eqb-true q p.dealer e)) (λ e. clash e refl) (or-true (eqb q p.dealer) false t)
node-below p ld (child {c = c} {α = α} N e l a) q t =
    ⊎_elim (λ x. omega (arith, eqb-true q c x)) (λ x. node-below p ld N q x) (or-true (eqb q c) (occurs q α) t)

-- A node of the theory is a node of the definitions, and back.
pub node-mem : (p : Plan) {i k : ℕ} {α : Label} → Node (inst p) i k α → Memᴰ α (nodes p i (length α))
node-mem p {i} root = root-node p i
node-mem p {i} (child {c = c} {α = α} N e l a) =
    let m = node-mem p N in
    step-up p i c α (length α) m e l a
  where
    step-up : (p : Plan) (i c : ℕ) (α : Label) (j : ℕ) → Memᴰ α (nodes p i j) → internal p i α ≡ true → c < p.n → occurs c α ≡ false
        → Memᴰ (c ∷ α) (nodes p i (suc j))
    step-up p i c α zero m e l a = absurd (no_node p i α m)
    step-up p i c α (suc j) m e l a = node-has p i j α c (inner-has p i (suc j) α m e) l a

-- Its label is not empty.
pub node-size : (p : Plan) {i k : ℕ} {α : Label} → Node (inst p) i k α → length α ≡ suc (length α - 1)
node-size p root = omega arith
node-size p (child N e l a) = omega arith

pub mem-node : (p : Plan) (i j k : ℕ) (α : Label) → Memᴰ α (nodes p i j) → j + k ≡ (rounds p).0 → Node (inst p) i k α
mem-node p i zero k α m e = absurd (no_node p i α m)
mem-node p i (suc zero) k α m e =
    let z : (rounds p).0 - 1 ≡ k = omega arith in
    rw (node-root p i α m) (subst (λ x. Node (inst p) i x (p.dealer ∷ [])) z root)
mem-node p i (suc (suc j)) k α m e =
    let (β, w, (q, x, l, a)) = node-inv p i j α m in
    let (v, t) = inner-inv p i (suc j) β w in
    rw x (child (mem-node p i (suc j) (suc k) β v (omega arith)) t l a)

-- What the theory asks of a plan.
pub inst-good : (p : Plan) (F : ℕ) → (judged p).number ≡ 0 → F < 2 ^ p.n → tolerated (listed p) F ≡ true → T.Good (inst p) (λ i. member i F)
unfolding tol
inst-good p F e l_f t_f =
    let f = plan-facts p e in
    good (inst p)
    (λ i k α N t. tol-path p α (node-below p f.dealer-below N) ∙ internal-tol p i α t)
    (λ i k α N t out. internal-has p i α (sym (tol-path p α (node-below p f.dealer-below N)) ∙ t) (omega (arith, node-level p N)) out)
    (λ i. member i F) (plan-default p e) f.dealer-below (tol-mono p) (tol-q3 p e)
    (tolerated-mono (listed p) p.n (set_of (λ i. member i F) p.n) F (set_of-below (λ i. member i F) p.n)
    (λ i l m. and_r (ltb i p.n) (member i F) (sym (member-set_of (λ i. member i F) p.n i) ∙ m)) t_f)

-- The vote looks only at children.
pub vote-same : (p : Plan) (α : Label) (f g : ℕ → Option ℕ) → ((c : ℕ) → c < p.n → occurs c α ≡ false → f c ≡ g c) → vote p α f ≡ T.winner (inst p) α g
unfolding vote T.winner tol
vote-same p α f g h =
    only_same (λ v. not (tolerated (listed p) (set_of (λ c. not (occurs c α) && same (f c) (some v)) p.n)))
    (λ v. not (tolerated (listed p) (set_of (T.votes α g v) p.n))) p.span
    (λ v l. ap (λ s. not (tolerated (listed p) s)) (set_of-same (λ c. not (occurs c α) && same (f c) (some v)) (T.votes α g v) p.n
    (λ c lc. cases (occurs c α) (λ e. rw e) (λ e. rw e (ap (λ o. same o (some v)) (h c lc e))))))

-- A board resolves a node as the theory has it.
pub resolve-inst : (p : Plan) (i : ℕ) (cells : List ℕ) (k : ℕ) (α : Label) → resolve p i cells k α ≡ T.resolve (inst p) i (read p cells) k α
unfolding resolve T.resolve
resolve-inst p i cells zero α = refl
resolve-inst p i cells (suc k) α =
    let child-of : ℕ → Option ℕ = λ c. cond (occurs c α) none (resolve p i cells k (c ∷ α)) in
    ap (λ o. cond (internal p i α) o (some (read p cells α)))
    (vote-same p α (λ c. get_or (tabulate child-of 0 p.n) c none) (λ c. T.resolve (inst p) i (read p cells) k (c ∷ α))
    (λ c l a. tabulate-at child-of p.n c none l ∙ rw a (resolve-inst p i cells k (c ∷ α))))
