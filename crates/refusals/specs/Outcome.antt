-- What an answer says in the terms of 01: the number of the refusal, 0 for a call that is taken, and the values beside it.
use Rattle.std.specs.Prelude.{ℕ, cond, List, [], ◌∷◌, eqb, Result, Ok, Err}
use Rattle.refusals.specs.declared.refusal.Refusal.{Refusal}
use Rattle.refusals.specs.declared.refusal.Refusal.TheVariants.{Boards, TooManySets, UnknownBoard, Covered, Dealer, Span, Depth, BoardNumber, BoardIsDealer, ShortCells, BadRecord, Decided, NotDue, AlreadyTaken, NothingToSend, ShortOutput, BadValue, Undecided, LongSheet, BadText, BadHead, BadFaulty, BadFrame, Default}

pub record Outcome : Type 0 where
  pub number : ℕ
  pub values : List ℕ

-- A call that is taken, with its values.
abbrev pub taken : List ℕ → Outcome
taken values = record { number = 0; values = values }

-- A refusal with no values.
abbrev pub refused : ℕ → Outcome
refused k = record { number = k; values = [] }

-- Number 5 has the places of the triple.
abbrev pub refused_at : List ℕ → Outcome
refused_at places = record { number = 5; values = places }

-- 01, 'When a call is turned down': the number of each refusal. Number 2, no sets, is no refusal any more
-- (02 a); 02 b: "26, a default not below m".
unfoldable pub refusal : Refusal → Outcome
refusal Boards = refused 1
refusal TooManySets = refused 3
refusal UnknownBoard = refused 4
refusal (Covered i j k) = refused_at (i ∷ j ∷ k ∷ [])
refusal Dealer = refused 6
refusal Span = refused 7
refusal Depth = refused 8
refusal BoardNumber = refused 9
refusal BoardIsDealer = refused 10
refusal ShortCells = refused 11
refusal BadRecord = refused 12
refusal Decided = refused 13
refusal NotDue = refused 14
refusal AlreadyTaken = refused 15
refusal NothingToSend = refused 16
refusal ShortOutput = refused 17
refusal BadValue = refused 18
refusal Undecided = refused 19
refusal LongSheet = refused 20
refusal BadText = refused 21
refusal BadHead = refused 22
refusal BadFaulty = refused 23
refusal BadFrame = refused 24
refusal Default = refused 26

-- The answer to admitting sets and to planning.
unfoldable pub verdict : Result (Unit {0}) Refusal → Outcome
verdict (Ok _) = taken []
verdict (Err why) = refusal why

-- What is judged first, if it refuses; else the next.
unfoldable pub and_then : Outcome → Outcome → Outcome
and_then first next = cond (eqb first.number 0) next first
