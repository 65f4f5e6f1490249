-- Alike plans have the same tree: levels, rounds, nodes, values and frames.
-- Each law takes the definition's own text along the paths of the parts that read the plan.
-- Assumes nothing.
use Prim.Native.Nat.{ℕ, zero, suc, ◌+◌, ◌-◌, ◌≤◌}
use mathlib.Core.Path.{◌≡◌, refl, sym, ◌∙◌, ap}
use mathlib.Core.Logic.{⊎_elim}
use mathlib.Core.Bool.{true, not, ◌&&◌, cond}
use mathlib.Core.List.{List, [], ◌∷◌, map}
use native.Mathlib.Omega.{arith}
use lib.Dec.{eqb, leb, ltb}
use lib.ListN.{length}
use Rattle.sets.specs.Sets.{member}
use Rattle.sets.specs.Structure.{tolerated}
use Rattle.plan.specs.declared.plan.Plan.{Plan}
use Rattle.plan.specs.Listed.{listed}
use Rattle.plan.specs.Values.{default, value}
use Rattle.heights.specs.Levels.{height, is_cut}
use Rattle.heights.proofs.Heights.{height-most, height-reached}
use Rattle.schedule.specs.declared.rounds.Run.{Run}
use Rattle.schedule.specs.declared.rounds.Round.{Round}
use Rattle.schedule.specs.Schedule.{rounds, ceil_div, runs, first_round, has_round}
use Rattle.tree.specs.Labels.{Label, occurs, mask, children_of}
use Rattle.tree.specs.Cells.{cell_at}
use Rattle.protocol.specs.Nodes.{read, filter, internal, nodes, inner, carried, sent, due, frame}
use Rattle.alike.specs.Alike.{Alike}

-- A list that tolerates all that another does has no smaller height.
height-least : (p q : Plan) → p.dealer ≡ q.dealer → ((s : ℕ) → tolerated (listed p) s ≡ true → tolerated (listed q) s ≡ true) → height p ≤ height q
unfolding height
height-least p q dealer more =
    ⊎_elim
    (λ one. omega (arith, one.0))
    (λ reached. let (s, t, m, e) = reached in
    let most = height-most q s (more s t) (ap (λ d. member d s) (sym dealer) ∙ m) in
    omega (arith, e, most))
    (height-reached p)

pub itself : (p : Plan) → Alike p p
itself p = record { n = refl; dealer = refl; span = refl; default = refl; depth = refl; tolerate = λ s. refl; judged = refl }

module _ (p q : Plan) (a : Alike p q) where
  height-alike : height p ≡ height q
  height-alike =
      omega (arith, height-least p q a.dealer (λ s t. sym (a.tolerate s) ∙ t), height-least q p (sym a.dealer) (λ s t. a.tolerate s ∙ t))

  cut-alike : is_cut p ≡ is_cut q
  unfolding is_cut
  cut-alike = λ j. not (eqb (a.depth j) 0) && ltb (a.depth j) (height-alike j)

  pub rounds-alike : rounds p ≡ rounds q
  unfolding rounds
  rounds-alike = λ j. record { 0 = cond (cut-alike j) (a.depth j) (height-alike j) }

  pub runs-alike : runs p ≡ runs q
  unfolding runs
  runs-alike = λ j. record { 0 = cond (cut-alike j) (ceil_div (a.n j - 3) (a.depth j - 3) + 1) 1 }

  pub has-round-alike : (t : Run) (k : Round) → has_round p t k ≡ has_round q t k
  unfolding has_round
  has-round-alike t k = λ j.
      (leb 1 t.0 && leb t.0 (runs-alike j).0) && (leb (first_round t).0 k.0 && leb k.0 (rounds-alike j).0)

  pub default_alike : default p ≡ default q
  unfolding default
  default_alike = a.default

  pub value-alike : (x : ℕ) → value p x ≡ value q x
  unfolding value
  value-alike x = λ j. cond (ltb x (a.span j)) x (default_alike j)

  pub read_alike : (cells : List ℕ) (α : Label) → read p cells α ≡ read q cells α
  unfolding read
  read_alike cells α = λ j. value-alike (cell_at (a.n j) cells α) j

  pub internal-alike : (i : ℕ) → internal p i ≡ internal q i
  unfolding internal
  internal-alike i = λ j α. a.tolerate (mask α) j && ltb (length α) (rounds-alike j).0

  pub nodes-alike : (i k : ℕ) → nodes p i k ≡ nodes q i k
  unfolding nodes
  nodes-alike i zero = refl
  nodes-alike i (suc zero) = λ j. (a.dealer j ∷ []) ∷ []
  nodes-alike i (suc (suc k)) = λ j. children_of (a.n j) (filter (internal-alike i j) (nodes-alike i (suc k) j))

  pub inner-alike : (i k : ℕ) → inner p i k ≡ inner q i k
  unfolding inner
  inner-alike i k = λ j. filter (internal-alike i j) (nodes-alike i k j)

  carried-alike : (s i k : ℕ) → carried p s i k ≡ carried q s i k
  unfolding carried
  carried-alike s i k = λ j. filter (λ α. not (occurs s α)) (inner-alike i k j)

  pub sent-alike : (s i : ℕ) (k : Round) → sent p s i k ≡ sent q s i k
  unfolding sent
  sent-alike s i k = λ j. cond (eqb k.0 1) (cond (eqb s (a.dealer j)) ([] ∷ []) []) (carried-alike s i (k.0 - 1) j)

  pub due-alike : (s i : ℕ) (k : Round) → due p s i k ≡ due q s i k
  unfolding due
  due-alike s i k = λ j.
      (ltb s (a.n j) && ltb i (a.n j)) && (not (eqb s i) && (not (eqb i (a.dealer j)) && ltb 0 (length (sent-alike s i k j))))

  pub frame-alike : (s i : ℕ) (k : Round) (cells : List ℕ) → frame p s i k cells ≡ frame q s i k cells
  unfolding frame
  frame-alike s i k cells = λ j. map (λ α. read_alike cells α j) (sent-alike s i k j)
