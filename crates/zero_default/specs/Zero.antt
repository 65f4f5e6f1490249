-- A plan with the default 0 gives what the base gave. Of the definitions to be believed `value`, `fill`, `mask_board` and `resolve_root`
-- read the default, `judge_settings` judges it, and `head_settings` takes it from a sheet; no other does.
use Rattle.std.specs.Prelude.{ℕ, ◌≡◌, cond, List, [], ◌∷◌, eqb}
use Rattle.codec.specs.Codec.{one}
use Rattle.settings.specs.declared.settings.Settings.{Settings}
use Rattle.settings.specs.Planning.{planning}
use Rattle.plan.specs.declared.plan.Plan.{Plan}
use Rattle.plan.specs.Listed.{listed}
use Rattle.plan.specs.Calls.{planned, settings_of, judged}
use Rattle.plan.specs.Values.{default, value}
use Rattle.tree.specs.Labels.{Label, last}
use Rattle.tree.specs.Cells.{store}
use Rattle.protocol.specs.Rounds.{fill}
use Rattle.protocol.specs.Detection.{mask_board, resolve_root}
use Rattle.sheet.specs.Sheet.{Line, head_of, judge_head, read_head}
use Rattle.zero_default.specs.Base.{base_value, base_root, base_planning, base_planned, base_head, base_judge_head, base_read_head}

-- What is put where 01 puts 0.
pub record ZeroPut (p : Plan) : Type 0 where
  pub default : default p ≡ 0
  -- a value or cell of m or more
  pub value : (x : ℕ) → value p x ≡ base_value p x
  -- a missing or misfit frame, or one of a listed board
  pub fill : (q : ℕ) (α : Label) (αs : List Label) (cells : List ℕ) → fill p q (α ∷ αs) [] cells ≡ fill p q αs [] (store p.n cells (q ∷ α) 0)
  -- the cells of a board that joins the list
  pub mask : (r : ℕ) (γ : Label) (γs : List Label) (cells : List ℕ)
      → mask_board p r (γ ∷ γs) cells ≡ mask_board p r γs (cond (eqb (last γ) r) (store p.n cells γ 0) cells)
  -- an unresolved root
  pub root : (i : ℕ) (cells : List ℕ) → resolve_root p i cells ≡ base_root p i cells
  -- and what planning says of the plan
  pub judged : judged p ≡ base_planning p.n p.count (listed p) (settings_of p)

-- Planning with the default 0.
pub record ZeroPlanned (n : ℕ) (sets : List ℕ) (s : Settings) : Type 0 where
  pub answer : (count : ℕ) → planning n count sets s ≡ base_planning n count sets s
  pub plan : planned n sets s ≡ base_planned n sets s

-- A head of one-byte values, as the base's are, with 00 right after the span. Heads in two bytes follow through `SheetsSame` (wide_sheets): the
-- head with 00 before span, default and dealer's value is judged alike, but that the longer sheet may meet 17 or 20.
pub record ZeroHead (n m : ℕ) (rest : List ℕ) : Type 0 where
  pub judges : judge_head one (n ∷ m ∷ 0 ∷ rest) ≡ base_judge_head (n ∷ m ∷ rest)
  pub names : head_of one (n ∷ m ∷ 0 ∷ rest) ≡ base_head (n ∷ m ∷ rest)
  pub reads : (ls : List Line) → read_head one (n ∷ m ∷ 0 ∷ rest) ls ≡ base_read_head (n ∷ m ∷ rest) ls

pub record ZeroAsBase : Type 0 where
  pub puts : (p : Plan) → p.default ≡ 0 → ZeroPut p
  pub plans : (n : ℕ) (sets : List ℕ) (s : Settings) → s.default ≡ 0 → ZeroPlanned n sets s
  pub heads : (n m : ℕ) (rest : List ℕ) → ZeroHead n m rest
