-- The synchronous session: in each step every board hears all frames of the round and closes it. Which boards keep cells in it, and what is asked
-- of its setting.
use Rattle.std.specs.Prelude.{ℕ, zero, suc, ◌≤◌, ◌<◌, cond, Bool, true, false, not, ◌&&◌, List, ◌∷◌, [], ◌≡◌, eqb, ltb, get_or, length}
use Rattle.std.proofs.Math.Option.{Option, some, none}
use Rattle.codec.specs.Codec.{Width}
use Rattle.sets.specs.Sets.{member}
use Rattle.sets.specs.Structure.{tolerated}
use Rattle.sets.specs.Tabulate.{tabulate}
use Rattle.plan.specs.declared.plan.Plan.{Plan}
use Rattle.plan.specs.Calls.{judged}
use Rattle.plan.specs.Listed.{listed}
use Rattle.tree.specs.Places.{cell_count}
use Rattle.protocol.specs.Rounds.{board_with, Board}
use Rattle.protocol.specs.Calls.{void_record, beginning, taking, frame_of, closing}

-- What a faulty board hands in: to board i in step j, from board q; nothing, or any values.
abbrev pub Adversary : Type 0
Adversary = ℕ → ℕ → ℕ → Option (List ℕ)

-- What a session is played on: how wide values are, the plan, the faulty boards, the dealer's value, and each board's lent cells.
pub record Setting : Type 0 where
  pub width : Width
  pub plan : Plan
  pub faulty : ℕ
  pub word : ℕ
  pub buffer : ℕ → List ℕ

-- All boards, by number.
abbrev pub Boards : Type 0
Boards = List Board

unfoldable pub nobody : Board
nobody = board_with void_record []

unfoldable pub board_at : Boards → ℕ → Board
board_at w i = get_or w i nobody

-- Board i as its beginning leaves it. 01: "has its own record and cells, as its beginning on that plan left them".
unfoldable pub begun : Setting → ℕ → Board
begun s i = (beginning s.width s.plan i (s.buffer i)).board

-- What board i hears from board q in step j, when all boards stand at w. 01: "Under a number in F any bytes may be handed in, or nothing";
-- the dealer and the others send as 01 says.
unfoldable pub hears : Setting → Adversary → Boards → ℕ → ℕ → ℕ → Option (List ℕ)
hears s a w i j q =
    cond (member q s.faulty) (a i j q)
    (cond (eqb q s.plan.dealer) (some (s.word ∷ [])) (some (frame_of (board_at w q))))

unfoldable pub hand_in : ℕ → Option (List ℕ) → Board → Board
hand_in q none b = b
hand_in q (some vs) b = (taking b q vs).board

-- A board with what the boards below k tell it.
unfoldable pub take_all : (ℕ → Option (List ℕ)) → Board → ℕ → Board
take_all msg b zero = b
take_all msg b (suc q) = hand_in q (msg q) (take_all msg b q)

-- Board i with what it hears from the boards below k.
unfoldable pub hear_all : Setting → Adversary → Boards → ℕ → ℕ → ℕ → Board
hear_all s a w i j k = take_all (hears s a w i j) (board_at w i) k

-- All boards after j steps. Past the last step closing is refused and nothing changes.
unfoldable pub session : Setting → Adversary → ℕ → Boards
session s a zero = tabulate (begun s) 0 s.plan.n
session s a (suc j) =
    let w = session s a j in
    tabulate (λ i. (closing (hear_all s a w i j s.plan.n)).board) 0 s.plan.n

-- Board i after j steps.
unfoldable pub at : Setting → Adversary → ℕ → ℕ → Board
at s a j i = board_at (session s a j) i

-- 01: "Each board outside F except d has its own record and cells, as its beginning on that plan left them".
unfoldable pub keeper : Setting → ℕ → Bool
keeper s i = ltb i s.plan.n && (not (member i s.faulty) && not (eqb i s.plan.dealer))

-- 01: "The plan is accepted and F is tolerated. .. If d is outside F, it has one value below m". Lent cells are long enough.
pub record Sound (s : Setting) : Type 0 where
  pub accepted : (judged s.plan).number ≡ 0
  pub tolerable : tolerated (listed s.plan) s.faulty ≡ true
  pub word_below : member s.plan.dealer s.faulty ≡ false → s.word < s.plan.span
  pub cells-enough : (i : ℕ) → keeper s i ≡ true → cell_count s.plan.n ≤ length (s.buffer i)
