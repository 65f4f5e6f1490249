-- The tree of a plan, what is asked of a plan, and how a board resolves a node. A middle layer: `agreement` shows that a plan of the protocol is one.
-- Assumes nothing.
use Rattle.std.specs.Prelude.{ℕ, zero, suc, ◌<◌, ◌≡◌, ◌≢◌, Bool, true, false, not, ◌&&◌, cond, [], ◌∷◌}
use Rattle.std.proofs.Math.Option.{Option, some}
use Rattle.tree.specs.Labels.{Label, occurs}
use Rattle.sets.specs.Only.{only, same}

-- A set of boards, as a test.
abbrev pub Boards : Type 0
Boards = ℕ → Bool

-- Every board below n that is in s is in t.
abbrev pub Sub : ℕ → Boards → Boards → Type 0
Sub n s t = (i : ℕ) → i < n → s i ≡ true → t i ≡ true

-- The boards of a label. 003: the players of its message path.
abbrev pub path : Label → Boards
path α = λ i. occurs i α

-- Boards 0 to n - 1, values below m, the value for what is missing or masked, the dealer, the levels below the root,
-- the adversary structure (01: the tolerated sets), and whether a label is internal for a board.
pub record Plan : Type 0 where
  pub n : ℕ
  pub m : ℕ
  pub default : ℕ
  pub dealer : ℕ
  pub top : ℕ
  pub tol : Boards → Bool
  pub inner : ℕ → Label → Bool

-- A board outside F that keeps cells. 003: a correct player.
pub record Healthy (P : Plan) (F : Boards) (p : ℕ) : Type 0 where
  pub below : p < P.n
  pub correct : F p ≡ false
  pub keeper : p ≢ P.dealer

-- Board p keeps the label, with k levels below it.
pub data Node (P : Plan) (p : ℕ) : ℕ → Label → Type 0 where
  root : Node P p P.top (P.dealer ∷ [])
  child : {k c : ℕ} {α : Label} → Node P p (suc k) α → P.inner p α ≡ true → c < P.n → occurs c α ≡ false → Node P p k (c ∷ α)

-- All healthy boards keep the label.
abbrev pub Kept : Plan → Boards → ℕ → Label → Type 0
Kept P F k α = (p : ℕ) → Healthy P F p → Node P p k α

-- What the theory asks of a plan and of the set F of faulty boards.
pub record Good (P : Plan) (F : Boards) : Type 0 where
  pub default_lt : P.default < P.m
  pub dealer-lt : P.dealer < P.n
  pub monotone : (s t : Boards) → Sub P.n s t → P.tol t ≡ true → P.tol s ≡ true
  -- Q³ of 003: no three tolerated sets cover all boards.
  pub q3 : (a b c : Boards) → P.tol a ≡ true → P.tol b ≡ true → P.tol c ≡ true
      → (i : ℕ) × (i < P.n) × (a i ≡ false) × (b i ≡ false) × (c i ≡ false)
  pub faulty : P.tol F ≡ true
  -- The boards of an internal label are tolerated.
  pub inner-tol : {p k : ℕ} {α : Label} → Healthy P F p → Node P p (suc k) α → P.inner p α ≡ true → P.tol (path α) ≡ true
  -- If a healthy board keeps the child of a healthy board q, then q keeps the label.
  pub inner-kept : {p q k : ℕ} {α : Label} → Healthy P F p → Healthy P F q → Node P p (suc k) α → P.inner p α ≡ true → occurs q α ≡ false
      → Node P q (suc k) α
  -- A label within F is internal, unless it stands at the lowest level.
  pub inner-faulty : {p k : ℕ} {α : Label} → Healthy P F p → Node P p (suc k) α → Sub P.n (path α) F → P.inner p α ≡ true

-- The children of α that f gives the value v, and those that it does not.
abbrev pub votes : Label → (ℕ → Option ℕ) → ℕ → Boards
votes α f v = λ c. not (occurs c α) && same (f c) (some v)

abbrev pub others : Label → (ℕ → Option ℕ) → ℕ → Boards
others α f v = λ c. not (occurs c α) && not (same (f c) (some v))

-- The only value whose children form a set that is not tolerated.
unfoldable pub winner : Plan → Label → (ℕ → Option ℕ) → Option ℕ
winner P α f = only (λ v. not (P.tol (votes α f v))) P.m

-- What board p with these cells resolves the label to, with k levels below it. 003: resolve, with none for '-'.
unfoldable pub resolve : Plan → ℕ → (Label → ℕ) → ℕ → Label → Option ℕ
resolve P p cell zero α = some (cell α)
resolve P p cell (suc k) α = cond (P.inner p α) (winner P α (λ c. resolve P p cell k (c ∷ α))) (some (cell α))
