-- What one run and a session of runs give: the hypotheses of the theory. A middle layer: the session is shown to meet them.
-- Assumes nothing.
use Rattle.std.specs.Prelude.{ℕ, suc, ◌<◌, ◌≡◌, ◌≢◌, Bool, true, false, not, ◌&&◌, ◌||◌, [], ◌∷◌, eqb}
use Rattle.std.proofs.Math.Option.{Option, some, get_or}
use Rattle.sets.specs.Search.{any}
use Rattle.tree.specs.Labels.{Label, occurs}
use Rattle.theory.specs.Tree.{Boards, Sub, Plan, Healthy, Node, others, resolve}

-- The cells of each board, as conversion begins.
abbrev pub Cells : Type 0
Cells = ℕ → Label → ℕ

-- All healthy boards that keep the label hold v there.
abbrev pub Held : Plan → Boards → Cells → ℕ → Label → ℕ → Type 0
Held P F cell k α v = (p : ℕ) → Healthy P F p → Node P p k α → cell p α ≡ v

-- And all of them resolve it to v. 003: the node is common with value v.
abbrev pub Common : Plan → Boards → Cells → ℕ → Label → ℕ → Type 0
Common P F cell k α v = (p : ℕ) → Healthy P F p → Node P p k α → resolve P p (cell p) k α ≡ some v

-- The subtree of α has a common frontier, for two boards: every way down meets a node on which they agree.
pub data Frontier (P : Plan) (cell : Cells) (p q : ℕ) : ℕ → Label → Type 0 where
  here : {k : ℕ} {α : Label} → resolve P p (cell p) k α ≡ resolve P q (cell q) k α → Frontier P cell p q k α
  deeper : {k : ℕ} {α : Label} → P.inner p α ≡ true → P.inner q α ≡ true
      → ((c : ℕ) → c < P.n → occurs c α ≡ false → Frontier P cell p q k (c ∷ α)) → Frontier P cell p q (suc k) α

-- What healthy boards do with one another's frames in a run: cells are values, and what p has at child q is what q has.
pub record Flow (P : Plan) (F : Boards) (cell : Cells) : Type 0 where
  pub small : {p k : ℕ} {α : Label} → Healthy P F p → Node P p k α → cell p α < P.m
  pub deliver : {p q k : ℕ} {α : Label} → Healthy P F p → Healthy P F q → Node P p (suc k) α → P.inner p α ≡ true → occurs q α ≡ false
      → cell p (q ∷ α) ≡ cell q α

-- What a rule asks at the label α, whose children have the values f, with the list L:
-- is there a value such that the children without it and the list make a tolerated set? If not, the last board of α joins the list.
unfoldable pub explained : Plan → Label → (ℕ → Option ℕ) → Boards → Bool
explained P α f L = any (λ v. P.tol (λ c. others α f v c || L c)) P.m

-- One run: the lists before it, as its conversion begins, and at its end.
pub record Run (P : Plan) (F : Boards) (cell : Cells) (old mid end : ℕ → Boards) : Type 0 where
  pub flow : Flow P F cell
  -- A board listed before the run is masked.
  pub mask : {p r k : ℕ} {α : Label} → Healthy P F p → Node P p (suc k) α → P.inner p α ≡ true → r < P.n → occurs r α ≡ false
      → old p r ≡ true → cell p (r ∷ α) ≡ P.default
  -- Lists name faulty boards only, and lose none.
  pub mid-sound : {p : ℕ} → Healthy P F p → Sub P.n (mid p) F
  pub end-sound : {p : ℕ} → Healthy P F p → Sub P.n (end p) F
  pub grows : {p : ℕ} → Healthy P F p → Sub P.n (old p) (end p)
  -- A board that rule G did not list: its cells at the boards that are not listed were explained.
  pub rule-g : {p r k : ℕ} {α : Label} → Healthy P F p → Node P p (suc k) (r ∷ α) → P.inner p (r ∷ α) ≡ true → r ≢ P.dealer → mid p r ≡ false
      → (v : ℕ) × (v < P.m) × (P.tol (λ c. not (mid p c) && others (r ∷ α) (λ q. some (cell p (q ∷ r ∷ α))) v c) ≡ true)
  -- A board that rule C did not list: its resolved children were explained.
  pub rule-c : {p r k : ℕ} {α : Label} → Healthy P F p → Node P p (suc k) (r ∷ α) → P.inner p (r ∷ α) ≡ true → end p r ≡ false
      → (v : ℕ) × (v < P.m) × (P.tol (λ c. others (r ∷ α) (λ q. resolve P p (cell p) k (q ∷ r ∷ α)) v c || mid p c) ≡ true)

-- The healthy boards that fail a test, and whether all pass.
abbrev pub fails : Plan → Boards → (ℕ → Bool) → Boards
fails P F f = λ p. not (F p) && (not (eqb p P.dealer) && not (f p))

unfoldable pub all_healthy : Plan → Boards → (ℕ → Bool) → Bool
all_healthy P F f = not (any (fails P F f) P.n)

-- The boards on the lists of all healthy boards. 003: the globally detected players.
abbrev pub global : Plan → Boards → (ℕ → Boards) → Boards
global P F lists r = all_healthy P F (λ p. lists p r)

-- The root that board p holds after run t: the default, if it resolved none.
abbrev pub root_after : Plan → (ℕ → Cells) → ℕ → ℕ → ℕ
root_after P cells t p = get_or (resolve P p (cells t p) P.top (P.dealer ∷ [])) P.default

-- A session of T runs, from 0: the value of the dealer, the cells in each run, the lists before it, and those as its conversion begins.
pub record Session (P : Plan) (F : Boards) (T value : ℕ) (cells : ℕ → Cells) (lists mids : ℕ → ℕ → Boards) : Type 0 where
  pub run : (t : ℕ) → t < T → Run P F (cells t) (lists t) (mids t) (lists (suc t))
  -- A healthy dealer sends its value to all.
  pub dealt : 0 < T → F P.dealer ≡ false → Held P F (cells 0) P.top (P.dealer ∷ []) value
  -- A run starts with the root that the one before left.
  pub next : {p : ℕ} (t : ℕ) → suc t < T → Healthy P F p → cells (suc t) p (P.dealer ∷ []) ≡ root_after P cells t p
