-- The lists of calls in demand 3, when such a list is fair, and what is claimed of every fair list.
use Rattle.std.specs.Prelude.{ℕ, ◌+◌, ◌*◌, ◌-◌, ◌≤◌, ◌<◌, ◌≡◌, ◌≢◌, ◌↔◌, Bool, true, false, not, ◌&&◌, cond, List, [], ◌∷◌, ◌++◌, eqb, get_or, take}
use Rattle.std.proofs.Math.Option.{some}
use Rattle.sets.specs.Search.{any, count}
use Rattle.sets.specs.Sets.{member, within}
use Rattle.sets.specs.Structure.{holder}
use Rattle.plan.specs.Listed.{listed}
use Rattle.refusals.specs.Outcome.{Outcome, taken}
use Rattle.heights.specs.Levels.{depth_of, is_cut}
use Rattle.schedule.specs.Schedule.{rounds, runs, steps}
use Rattle.protocol.specs.declared.records.Slot.{Slot}
use Rattle.protocol.specs.Listing.{as_set}
use Rattle.protocol.specs.Nodes.{due}
use Rattle.protocol.specs.Rounds.{Board}
use Rattle.protocol.specs.Calls.{dealing, receiving, sending, closing, deciding}
use Rattle.protocol.specs.Session.{Setting, begun, keeper, Sound}

-- 01: "Each call in the list is a handing in, a writing, a closing or a reading of the decision by one of the boards with a record."
-- The first number is that board's; a handing in has the sender's number and a copy of the frame, a writing the lent output.
pub data Call : Type 0 where
  receives : ℕ → ℕ → List ℕ → Call
  sends : ℕ → List ℕ → Call
  closes : ℕ → Call
  decides : ℕ → Call

unfoldable pub caller : Call → ℕ
caller (receives i q f) = i
caller (sends i out) = i
caller (closes i) = i
caller (decides i) = i

-- What a call does to its board, and what it answers: literally the definitions of the calls, which stand in the `ensures` of the public
-- functions: `receiving` of receiving::receiving::receive, `sending` of sending::sending::send, `closing` of closing::closing::close,
-- `deciding` of deciding::deciding::decide. A board begins by `beginning` (beginning::beginning::begin), and the dealer's frame is `dealing`
-- (dealing::dealing::deal).
unfoldable pub leaves : Call → Board → Board
leaves (receives i q f) b = (receiving b q f).board
leaves (sends i out) b = b
leaves (closes i) b = (closing b).board
leaves (decides i) b = b

unfoldable pub answers : Call → Board → Outcome
answers (receives i q f) b = (receiving b q f).answer
answers (sends i out) b = (sending b out).answer
answers (closes i) b = (closing b).answer
answers (decides i) b = deciding b.rec

-- 01: "It gets that board's record and cells as that board's call before returned or left them, and nobody else writes them meanwhile."
abbrev pub World : Type 0
World = ℕ → Board

unfoldable pub after_one : World → Call → World
after_one w c i = cond (eqb i (caller c)) (leaves c (w i)) (w i)

unfoldable pub after : World → List Call → World
after w [] = w
after w (c ∷ cs) = after (after_one w c) cs

-- Board i after the calls.
unfoldable pub state : Setting → List Call → ℕ → Board
state s calls = after (begun s) calls

-- A list begins with another.
abbrev pub Prefix : List Call → List Call → Type 0
Prefix before calls = (rest : List Call) × (calls ≡ before ++ rest)

-- The call stands in the list after the calls `before`.
abbrev pub Stands : Call → List Call → List Call → Type 0
Stands c before calls = (rest : List Call) × (calls ≡ before ++ (c ∷ rest))

-- It is taken there.
abbrev pub Taken : Setting → Call → List Call → Type 0
Taken s c before = (answers c (state s before (caller c))).number ≡ 0

-- Board i, after the calls `now`, stands in the same run and round as board q after the calls `then`.
pub record SameRound (s : Setting) (q : ℕ) (then : List Call) (i : ℕ) (now : List Call) : Type 0 where
  pub run : (state s then q).rec.run ≡ (state s now i).rec.run
  pub round : (state s then q).rec.round ≡ (state s now i).rec.round

-- 01: "what a writing of the sender in that run and round gave earlier in the list".
pub record Written (s : Setting) (before : List Call) (i q : ℕ) (f : List ℕ) : Type 0 where
  pub earlier : List Call
  pub out : List ℕ
  pub size : ℕ
  pub stands : Stands (sends q out) earlier before
  pub wrote : answers (sends q out) (state s earlier q) ≡ taken (size ∷ [])
  pub same : SameRound s q earlier i before
  pub gave : f ≡ take size (sending (state s earlier q) out).out

-- 01: "the frame which that board sent this receiver for the run and round that it is taken for: d's frame in round 1, else what a writing
-- of the sender in that run and round gave earlier in the list". From board q, outside F, to board i as it stands after the calls `before`.
pub record AsSent (s : Setting) (before : List Call) (i q : ℕ) (f : List ℕ) : Type 0 where
  pub dealt : q ≡ s.plan.dealer → f ≡ (dealing s.width s.plan s.word).values
  pub written : q ≢ s.plan.dealer → Written s before i q f

-- 01: "was handed in", in the run and round in which board i stands.
pub record HandedIn (s : Setting) (before : List Call) (i q : ℕ) : Type 0 where
  pub earlier : List Call
  pub frame : List ℕ
  pub stands : Stands (receives i q frame) earlier before
  pub taken : Taken s (receives i q frame) earlier
  pub same : SameRound s i earlier i before

-- The user's words: "as they sent them, were handed in and taken".
pub record HandedInAsSent (s : Setting) (before : List Call) (i q : ℕ) : Type 0 where
  pub handed : HandedIn s before i q
  pub as-sent : AsSent s handed.earlier i q handed.frame

-- The list is fair. The user's words: "if none of the rest closes a round before all frames due to it in that round from the rest, as they
-- sent them, were handed in and taken". A frame taken in a round that its receiver never closes may be anything.
pub record Fair (s : Setting) (calls : List Call) : Type 0 where
  -- calls are made by boards with a record
  pub callers : (c : Call) (before : List Call) → Stands c before calls → keeper s (caller c) ≡ true
  pub heard : (i : ℕ) (before : List Call) → Stands (closes i) before calls → Taken s (closes i) before
      → (q : ℕ) → member q s.faulty ≡ false → due s.plan q i (state s before i).rec.round ≡ true → HandedInAsSent s before i q

-- The list is fair by the two sentences of 01, which ask more: every list that is fair so is `Fair` (`strictly-fair` in proofs/Strict).
pub record StrictlyFair (s : Setting) (calls : List Call) : Type 0 where
  pub callers : (c : Call) (before : List Call) → Stands c before calls → keeper s (caller c) ≡ true
  -- "each handing in that is taken under the number of a board outside F carries the frame which that board sent this receiver for the
  -- run and round that it is taken for: d's frame in round 1, else what a writing of the sender in that run and round gave earlier"
  pub carried : (i q : ℕ) (f : List ℕ) (before : List Call) → Stands (receives i q f) before calls → Taken s (receives i q f) before
      → member q s.faulty ≡ false → AsSent s before i q f
  -- "before each closing that is taken, every frame due to that board in that run and round from a board outside F was handed in"
  pub heard : (i : ℕ) (before : List Call) → Stands (closes i) before calls → Taken s (closes i) before
      → (q : ℕ) → member q s.faulty ≡ false → due s.plan q i (state s before i).rec.round ≡ true → HandedIn s before i q

unfoldable pub is_closing : Call → Bool
is_closing (receives i q f) = false
is_closing (sends i out) = false
is_closing (closes i) = true
is_closing (decides i) = false

-- How many closings of board i were taken.
unfoldable pub closings : World → ℕ → List Call → ℕ
closings w i [] = 0
closings w i (c ∷ cs) = cond (is_closing c && (eqb i (caller c) && eqb (answers c (w i)).number 0)) 1 0 + closings (after_one w c) i cs

-- The user's words: "past their last round": as many closings of board i were taken as the plan has rounds over all runs.
abbrev pub PastLast : Setting → List Call → ℕ → Type 0
PastLast s calls i = closings (begun s) i calls ≡ steps s.plan

-- 01: "a board's root after run t is its first cell as its closing of round R in run t left it": that closing, after the calls `before`.
pub record EndsRun (s : Setting) (t i : ℕ) (before calls : List Call) : Type 0 where
  pub stands : Stands (closes i) before calls
  pub taken : Taken s (closes i) before
  pub run : (state s before i).rec.run.0 ≡ t
  pub round : (state s before i).rec.round ≡ rounds s.plan

-- Board i as its closing after the calls `before` left it: its root and its list.
unfoldable pub root : Setting → ℕ → List Call → ℕ
root s i before = get_or (closing (state s before i)).board.cells 0 0

unfoldable pub list : Setting → ℕ → List Call → List Slot
list s i before = (closing (state s before i)).board.rec.list

-- Does board r stand on the list of every board outside F that keeps cells? `lists` has each board's list.
unfoldable pub on_every : Setting → (ℕ → List Slot) → ℕ → Bool
on_every s lists r = not (any (λ i. keeper s i && not (member r (as_set (lists i)))) s.plan.n)

-- Board i's list after the calls.
unfoldable pub list_after : Setting → List Call → ℕ → List Slot
list_after s calls i = (state s calls i).rec.list

-- The list, as a set, of a board i outside F. 01, of the dealer: "its list is empty".
unfoldable pub healthy_list : Setting → List Call → ℕ → ℕ
healthy_list s calls i = cond (eqb i s.plan.dealer) 0 (as_set (list_after s calls i))

-- 01: "After every fair list, for every such F, whatever its boards send".
pub record Agreement (s : Setting) (calls : List Call) : Type 0 where
  -- 01: "every list of a board outside F lies within F". The user: "no board outside F lists one outside F".
  pub sound : (i : ℕ) → keeper s i ≡ true → within (as_set (list_after s calls i)) s.faulty ≡ true
  -- 02 c: "After a fair list .. a healthy board's list has such a place": that of the first listed set that holds it
  pub placed : (i : ℕ) → i < s.plan.n → member i s.faulty ≡ false → (k : ℕ) × (holder (listed s.plan) (healthy_list s calls i) ≡ some k)
  -- a healthy dealer's list is empty, so its place is 0
  pub dealer-placed : member s.plan.dealer s.faulty ≡ false → holder (listed s.plan) (healthy_list s calls s.plan.dealer) ≡ some 0
  -- lists only grow along the list of calls
  pub grows : (i : ℕ) (before now : List Call) → keeper s i ≡ true → Prefix before now → Prefix now calls
      → within (as_set (list_after s before i)) (as_set (list_after s now i)) ≡ true
  -- 01: "a board outside F that keeps cells is decided exactly when as many of its closings were taken as the plan has rounds over all runs"
  pub decided : (i : ℕ) → keeper s i ≡ true → ((state s calls i).rec.decided ≡ true) ↔ PastLast s calls i
  -- "and until then none of its closings is turned down"
  pub until : (i : ℕ) (before : List Call) → Stands (closes i) before calls → closings (begun s) i before < steps s.plan → Taken s (closes i) before
  -- and then its decision can be read
  pub readable : (i : ℕ) → keeper s i ≡ true → (state s calls i).rec.decided ≡ true
      → answers (decides i) (state s calls i) ≡ taken ((state s calls i).rec.decision ∷ [])
  -- The user: "the boards outside F that are past their last round have decided one value", read or not
  pub same : (i j : ℕ) → keeper s i ≡ true → keeper s j ≡ true → PastLast s calls i → PastLast s calls j
      → (state s calls i).rec.decision ≡ (state s calls j).rec.decision
  -- "the dealer's own if the dealer is outside F"
  pub valid : member s.plan.dealer s.faulty ≡ false → (i : ℕ) → keeper s i ≡ true → PastLast s calls i
      → (state s calls i).rec.decision ≡ s.word
  -- 01: "All decisions read by boards outside F .. are equal"
  pub equal : (i j : ℕ) (before before' : List Call) (v v' : ℕ) → Stands (decides i) before calls → Stands (decides j) before' calls
      → answers (decides i) (state s before i) ≡ taken (v ∷ []) → answers (decides j) (state s before' j) ≡ taken (v' ∷ []) → v ≡ v'
  -- "and d's if d is outside F"
  pub dealers : member s.plan.dealer s.faulty ≡ false
      → (i : ℕ) (before : List Call) (v : ℕ) → Stands (decides i) before calls → answers (decides i) (state s before i) ≡ taken (v ∷ []) → v ≡ s.word
  -- 01: "Once all boards outside F that keep cells have closed run t of a cut tree, with roots after it not all equal, at least t × (b − 3) + 1
  -- boards stand on every one of their lists, as those closings left them."
  pub bound : is_cut s.plan ≡ true → (t : ℕ) (before : ℕ → List Call) → ((i : ℕ) → keeper s i ≡ true → EndsRun s t i (before i) calls)
      → (i j : ℕ) → keeper s i ≡ true → keeper s j ≡ true → root s i (before i) ≢ root s j (before j)
      → t * (depth_of s.plan - 3) + 1 ≤ count (on_every s (λ i. list s i (before i))) s.plan.n
  -- The user: after the whole list, "at least t × (b − 3) + 1 boards stand on every one of their lists", as they are then
  pub bound-now : is_cut s.plan ≡ true → (t : ℕ) (before : ℕ → List Call) → ((i : ℕ) → keeper s i ≡ true → EndsRun s t i (before i) calls)
      → (i j : ℕ) → keeper s i ≡ true → keeper s j ≡ true → root s i (before i) ≢ root s j (before j)
      → t * (depth_of s.plan - 3) + 1 ≤ count (on_every s (list_after s calls)) s.plan.n
  -- 02 f: "let the boards outside F that keep cells hold one root after some run. Then they hold that same root after each later run." All
  -- of them have closed run t, each after the calls `before`, and hold v. It speaks of each of them that has closed run u, after the calls
  -- `now`, whether or not the others have; u may be t.
  pub stays : (t u v : ℕ) (before : ℕ → List Call) (i : ℕ) (now : List Call)
      → ((k : ℕ) → keeper s k ≡ true → EndsRun s t k (before k) calls) → ((k : ℕ) → keeper s k ≡ true → root s k (before k) ≡ v)
      → t ≤ u → keeper s i ≡ true → EndsRun s u i now calls → root s i now ≡ v
  -- "If the dealer is outside F, this is so from run 1": the dealer's value is the root of each of them after every run that it has closed
  pub dealers-root : member s.plan.dealer s.faulty ≡ false
      → (t i : ℕ) (before : List Call) → keeper s i ≡ true → EndsRun s t i before calls → root s i before ≡ s.word
  -- When it can be read: while an undecided board stands in run t + 1, its first cell is its root after run t.
  pub root-shown : (t i : ℕ) (before now : List Call) → keeper s i ≡ true → EndsRun s t i before calls → Prefix now calls
      → (state s now i).rec.decided ≡ false → (state s now i).rec.run.0 ≡ t + 1 → get_or (state s now i).cells 0 0 ≡ root s i before
  -- 01: "or the decision, which is the root": after the last run
  pub root-decided : (i : ℕ) (before : List Call) → keeper s i ≡ true → EndsRun s (runs s.plan).0 i before calls
      → (state s calls i).rec.decision ≡ root s i before

-- Demand 3.
abbrev pub Demand3 : Type 0
Demand3 = (s : Setting) (calls : List Call) → Sound s → Fair s calls → Agreement s calls
