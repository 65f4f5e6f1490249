-- The head that a line's bytes give.
-- Assumes nothing.
use Prim.Native.Nat.{ℕ, suc, ◌+◌, ◌-◌, ◌*◌, ◌/◌, min}
use mathlib.Core.Path.{◌≡◌, refl, sym, ap, ap₂, ◌∙◌}
use mathlib.Core.Logic.{◌≢◌}
use mathlib.Core.Bool.{true, false, not, ◌&&◌, ◌||◌, cond}
use mathlib.Core.List.{List, []}
use native.Mathlib.Omega.{arith}
use lib.Dec.{eqb, leb, ltb}
use lib.ListN.{length, get_or, take, drop}
use borrow.Author.Tests.{eq-eqb, ne_eqb, eqb-true, eqb-false, le-ltb}
use Rattle.codec.specs.Codec.{Width, one, two, current, number_at}
use Rattle.sets.specs.Sets.{within, boards}
use Rattle.sets.specs.Structure.{tolerated}
use Rattle.sets.proofs.Tests.{cases, or_right, true-not}
use Rattle.std.specs.Prelude.{Ok, Err}
use Rattle.refusals.specs.declared.refusal.Refusal.{Refusal}
use Rattle.refusals.specs.Outcome.{Outcome, taken, refused, refusal, and_then}
use Rattle.plan.specs.declared.plan.Plan.{Plan}
use Rattle.settings.specs.declared.settings.Settings.{Settings}
use Rattle.settings.specs.Planning.{planning}
use Rattle.plan.specs.Calls.{planned}
use Rattle.refusals.proofs.Outcomes.{refused-first}
use Rattle.plan.proofs.Accepted.{accepted}
use Rattle.heads.specs.Heads.{head_says, HeadRead}
use Rattle.sheet.specs.declared.head.Head.{Head}
use Rattle.sheet.specs.Sheet.{span_place, default_place, dealer_place, depth_place, word_place, count_place, sets_place, head_length, head_count, head_of, judge_head}
use Rattle.hexadecimal.specs.Bytes.{byte_at, bytes_from}
use Rattle.text.specs.Text.{number_from}
use Rattle.fields.specs.Settings.{line_settings}
use Rattle.hexadecimal.proofs.Bytes.{bytes-length, bytes_drop, bytes_take, all, all-at}

-- The number that stands from a byte of the line on.
number-at : (w : Width) (line : List ℕ) (k : ℕ) → number_at w (all line) k ≡ number_from w line k
unfolding number_at
number-at one line k = all-at line k
number-at two line k = ap₂ (λ h l. h * 256 + l) (all-at line k) (all-at line (suc k))

module _ (line : List ℕ) where
  -- The head's sets and its faulty boards.
  sets-are : length line / 2 ≡ byte_at line (count_place current) + sets_place current + 1 → take (byte_at line (count_place current)) (drop (sets_place current) (all line)) ≡ bytes_from line (sets_place current) (byte_at line (count_place current))
  sets-are e =
      ap (take (byte_at line (count_place current))) (bytes_drop line (sets_place current) 0 (length line / 2) (omega arith)) ∙ bytes_take line (byte_at line (count_place current)) (sets_place current) (length line / 2 - (sets_place current)) (omega arith)

  -- The head by its bytes.
  pub head-wrong : length line / 2 ≢ byte_at line (count_place current) + sets_place current + 1 → judge_head current (all line) ≡ refused 22
  unfolding judge_head head_of
  head-wrong ne =
      let size = bytes-length line 0 (length line / 2) in
      let t : (ltb (length (all line)) (head_length current 0) || not (eqb (length (all line)) (head_length current (head_count current (all line))))) ≡ true =
      or_right (ltb (length (all line)) (head_length current 0)) _ (true-not _ (ne_eqb (length (all line)) (head_length current (head_count current (all line))) (λ z. ne (omega (arith, size, all-at line (count_place current)))))) in
      rw t refl

  -- Its judgement, with the sets and the faulty boards in hand.
  abbrev pub judgement : ℕ → Outcome
  judgement top =
      and_then (planning (byte_at line 0) (byte_at line (count_place current)) (bytes_from line (sets_place current) (byte_at line (count_place current))) (line_settings line))
      (and_then (cond (leb (number_from current line (span_place current)) (number_from current line (word_place current))) (refused 18) (taken []))
      (cond (within (byte_at line (byte_at line (count_place current) + sets_place current)) (boards top) && tolerated (bytes_from line (sets_place current) (byte_at line (count_place current))) (byte_at line (byte_at line (count_place current) + sets_place current))) (taken []) (refused 23)))

  -- Boards past the seventh matter only to a plan that is refused.
  seven : judgement (byte_at line 0) ≡ judgement (min (byte_at line 0) 7)
  seven =
      let n = byte_at line 0 in
      let first = planning n (byte_at line (count_place current)) (bytes_from line (sets_place current) (byte_at line (count_place current))) (line_settings line) in
      cases (eqb first.number 0)
      (λ x. let few = (accepted n (byte_at line (count_place current)) (bytes_from line (sets_place current) (byte_at line (count_place current))) (line_settings line) (eqb-true first.number 0 x)).admission.most-boards in
      ap judgement (let z : n ≡ min n 7 = omega arith in z))
      (λ x. let no = eqb-false first.number 0 x in refused-first first _ no ∙ sym (refused-first first _ no))

  pub head-right : length line / 2 ≡ byte_at line (count_place current) + sets_place current + 1 → judge_head current (all line) ≡ judgement (min (byte_at line 0) 7)
  unfolding judge_head head_of
  head-right e =
      let size = bytes-length line 0 (length line / 2) in
      let t : (ltb (length (all line)) (head_length current 0) || not (eqb (length (all line)) (head_length current (head_count current (all line))))) ≡ false =
      rw (le-ltb (length (all line)) (head_length current 0) (omega arith), eq-eqb (length (all line)) (head_length current (head_count current (all line))) (omega (arith, all-at line (count_place current)))) refl in
      let last : get_or (all line) (sets_place current + byte_at line (count_place current)) 0 ≡ byte_at line (byte_at line (count_place current) + sets_place current) =
      all-at line (sets_place current + byte_at line (count_place current)) ∙ ap (byte_at line) (let z : sets_place current + byte_at line (count_place current) ≡ byte_at line (count_place current) + sets_place current = omega arith in z) in
      rw (t, all-at line 0, number-at current line (span_place current), number-at current line (default_place current), all-at line (dealer_place current), all-at line (depth_place current), number-at current line (word_place current), all-at line (count_place current), sets-are e, last) seven

  -- What the code has in hand of a head of the right length.
  pub head-judged : (n v s f : ℕ) (settings : Settings) (sets : List ℕ) → n ≡ byte_at line 0 → settings ≡ line_settings line → v ≡ number_from current line (word_place current)
      → s ≡ byte_at line (count_place current) → f ≡ byte_at line (s + sets_place current) → sets ≡ bytes_from line (sets_place current) s → length line / 2 ≡ s + sets_place current + 1
      → and_then (planning n (length sets) sets settings)
      (and_then (cond (leb settings.span v) (refused 18) (taken [])) (cond (within f (boards (min n 7)) && tolerated sets f) (taken []) (refused 23))) ≡ judge_head current (all line)
  head-judged n v s f settings sets en em ev es ef esets e =
      let sets' = esets ∙ ap (bytes_from line (sets_place current)) es in
      let f' = ef ∙ ap (λ x. byte_at line (x + sets_place current)) es in
      rw (f', sets', bytes-length line (sets_place current) (byte_at line (count_place current)), en, em, ev) (sym (head-right (e ∙ ap (λ x. x + sets_place current + 1) es)))

  -- A head that is accepted has its length.
  pub head-sized : (judge_head current (all line)).number ≡ 0 → length line / 2 ≡ byte_at line (count_place current) + sets_place current + 1
  head-sized e =
      cases (eqb (length line / 2) (byte_at line (count_place current) + sets_place current + 1))
      (λ x. eqb-true (length line / 2) (byte_at line (count_place current) + sets_place current + 1) x)
      (λ x. absurd (let z : 22 ≡ 0 = ap (λ o. o.number) (sym (head-wrong (eqb-false (length line / 2) (byte_at line (count_place current) + sets_place current + 1) x))) ∙ e in omega arith))

  -- The head as the code makes it, if it is accepted.
  pub head-made : (n v s f : ℕ) (settings : Settings) (sets : List ℕ) (p : Plan) → n ≡ byte_at line 0 → settings ≡ line_settings line
      → v ≡ number_from current line (word_place current) → s ≡ byte_at line (count_place current) → f ≡ byte_at line (s + sets_place current) → sets ≡ bytes_from line (sets_place current) s → p ≡ planned n sets settings
      → (judge_head current (all line)).number ≡ 0 → record { plan = p; faulty = f; word = v } ≡ head_of current (all line)
  unfolding head_of
  head-made n v s f settings sets p en em ev es ef esets ep ok =
      let last : get_or (all line) (sets_place current + byte_at line (count_place current)) 0 ≡ byte_at line (byte_at line (count_place current) + sets_place current) =
      all-at line (sets_place current + byte_at line (count_place current)) ∙ ap (byte_at line) (let z : sets_place current + byte_at line (count_place current) ≡ byte_at line (count_place current) + sets_place current = omega arith in z) in
      rw (all-at line 0, number-at current line (span_place current), number-at current line (default_place current), all-at line (dealer_place current), all-at line (depth_place current), number-at current line (word_place current), all-at line (count_place current), sets-are (head-sized ok), last) (
      rw (ep, ef, esets, es, en, em, ev) refl)

  -- What is read of a head that is refused, and of one that is accepted.
  pub head-refused : (why : Refusal) → refusal why ≡ judge_head current (all line) → HeadRead line (Err why)
  unfolding head_says
  head-refused why e = record { judges = e; gives = tt }

  pub head-accepted : (h : Head) → taken [] ≡ judge_head current (all line) → ((judge_head current (all line)).number ≡ 0 → h ≡ head_of current (all line))
      → HeadRead line (Ok h)
  unfolding head_says
  head-accepted h e made = record { judges = e; gives = made (ap (λ o. o.number) (sym e)) }
