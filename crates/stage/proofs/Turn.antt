-- One board more has acted: what the code has in hand.
-- Assumes nothing.
use Prim.Native.Nat.{ℕ, zero, suc, ◌+◌, ◌-◌, ◌*◌}
use mathlib.Core.Path.{◌≡◌, refl, ap, ◌∙◌}
use mathlib.Core.Bool.{true, false, cond}
use mathlib.Core.List.{List, ◌++◌}
use native.Mathlib.Numerals.{add-one}
use native.Mathlib.Omega.{arith}
use lib.ListN.{get_or, set, take, drop}
use lib.Seq.{drop-drop}
use Rattle.tree.specs.Places.{cell_count}
use Rattle.protocol.specs.declared.records.Record.{Record}
use Rattle.protocol.specs.Rounds.{board_with, Board}
use Rattle.sheet.specs.Playing.{part, replace_part}
use Rattle.sheet.specs.declared.head.Head.{Head}
use Rattle.stage.specs.Stage.{Stage, no_record, board_on, keeps, put_board, on_stage}

-- Boards that do the same leave the same.
pub on_same : (h : Head) (f g : ℕ → Board → Board) → ((i : ℕ) (b : Board) → f i b ≡ g i b) → (k : ℕ) (st : Stage) → on_stage h f k st ≡ on_stage h g k st
unfolding on_stage
on_same h f g e zero st = refl
on_same h f g e (suc k) st =
    let before = on_stage h f k st in
    let done = ap (λ b. cond (keeps h k) (put_board h.plan.n k b before) before) (e k (board_on h.plan.n before k)) in
    done ∙ ap (λ x. cond (keeps h k) (put_board h.plan.n k (g k (board_on h.plan.n x k)) x) x) (on_same h f g e k st)

module _ (h : Head) (f : ℕ → Board → Board) (t : Stage) (i : ℕ) where
  turn-kept : (st : Stage) → st ≡ on_stage h f i t → keeps h i ≡ true → put_board h.plan.n i (f i (board_on h.plan.n st i)) st ≡ on_stage h f (i + 1) t
  unfolding on_stage
  turn-kept st e k = rw (add-one i, k) (ap (λ x. put_board h.plan.n i (f i (board_on h.plan.n x i)) x) e)

  pub turn-left : (st : Stage) → st ≡ on_stage h f i t → keeps h i ≡ false → st ≡ on_stage h f (i + 1) t
  unfolding on_stage
  turn-left st e k = rw (add-one i, k) e

  -- With the part of the cells as it is lent.
  module _ (recs : List Record) (cells : List ℕ) (c : ℕ) (size : c ≡ cell_count h.plan.n) (x : Record) (ys : List ℕ) where
    abbrev lent : Board
    lent = board_with (get_or recs i no_record) (take (i * c + c - i * c) (drop (i * c) cells))

    abbrev left : Stage
    left = record { recs = set recs i x; cells = take (i * c) cells ++ (ys ++ drop (i * c + c - i * c) (drop (i * c) cells)) }

    lent_is : lent ≡ board_on h.plan.n (record { recs = recs; cells = cells }) i
    unfolding board_on part
    lent_is =
        ap (λ k. board_with (get_or recs i no_record) (take k (drop (i * c) cells))) (let z : i * c + c - i * c ≡ c = omega arith in z)
        ∙ ap (λ k. board_with (get_or recs i no_record) (take k (drop (i * k) cells))) size

    left_is : (b : Board) → board_with x ys ≡ b → left ≡ put_board h.plan.n i b (record { recs = recs; cells = cells })
    unfolding put_board replace_part
    left_is b e =
        ap (λ k. record { recs = set recs i x; cells = take (i * c) cells ++ (ys ++ drop k (drop (i * c) cells)) }) (let z : i * c + c - i * c ≡ c = omega arith in z)
        ∙ ap (λ k. record { recs = set recs i x; cells = take (i * c) cells ++ (ys ++ k) }) (drop-drop c (i * c) cells)
        ∙ ap (λ k. record { recs = set recs i x; cells = take (i * k) cells ++ (ys ++ drop (i * k + k) cells) }) size
        ∙ ap (λ y. put_board h.plan.n i y (record { recs = recs; cells = cells })) e

    turn : ◌≡◌ {A = Stage} (record { recs = recs; cells = cells }) (on_stage h f i t) → keeps h i ≡ true
        → board_with x ys ≡ f i lent → left ≡ on_stage h f (i + 1) t
    turn e k acts =
        let b = f i (board_on h.plan.n (record { recs = recs; cells = cells }) i) in
        left_is b (acts ∙ ap (f i) lent_is)
        ∙ turn-kept (record { recs = recs; cells = cells }) e k

-- The same where the code counts the part of board i by another number that is i.
pub turn-at : (h : Head) (f : ℕ → Board → Board) (t : Stage) (i place : ℕ) (recs : List Record) (cells : List ℕ) (c : ℕ) (size : c ≡ cell_count h.plan.n) (x : Record) (ys : List ℕ)
    → place ≡ i → ◌≡◌ {A = Stage} (record { recs = recs; cells = cells }) (on_stage h f i t) → keeps h i ≡ true
    → board_with x ys ≡ f i (lent h f t place recs cells c size x ys) → left h f t place recs cells c size x ys ≡ on_stage h f (i + 1) t
turn-at h f t i place recs cells c size x ys e before k = rw e (turn h f t i recs cells c size x ys before k)
