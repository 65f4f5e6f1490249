-- What an answer says determines it: all of it but the record that some have, and that too beside the record that the
-- call leaves. What the dealer's says, by its value.
-- Assumes nothing.
use Prim.Native.Nat.{ℕ, ◌/◌, ◌%◌}
use mathlib.Core.Path.{◌≡◌, refl, sym, ◌∙◌, ap, ap₂}
use mathlib.Core.Bool.{cond}
use mathlib.Core.List.{[], ◌∷◌}
use lib.Dec.{eqb}
use lib.ListN.{length, get_or, drop}
use borrow.Author.Tests.{ne_eqb}
use Rattle.codec.specs.Codec.{current, encode}
use Rattle.refusals.specs.Outcome.{Outcome, taken, refusal, verdict}
use Rattle.refusals.proofs.Outcomes.{refusal-number}
use Rattle.refusals.proofs.Injective.{why, why-refusal, verdict-injective}
use Rattle.std.specs.Prelude.{ℕ, List, Result, Ok, Err}
use Rattle.refusals.specs.declared.refusal.Refusal.{Refusal}
use Rattle.protocol.specs.Answers.{begun_says, begun_record, dealt_says, sent_says, open_says, closing_says, closed_says, closed_record, decision_says, played_says}
use Rattle.protocol.specs.declared.records.Record.{Record}
use Rattle.protocol.specs.declared.answers.Closing.{Closing}
use Rattle.protocol.specs.declared.answers.Closing.TheVariants as C
use Rattle.protocol.specs.declared.answers.Closed.{Closed}
use Rattle.protocol.specs.declared.answers.Refused.{Refused}

-- A meaning with a left inverse is injective.
injective : {A : Type 0} (says : A → Outcome) (back : Outcome → A) → ((a : A) → back (says a) ≡ a) → (a b : A) → says a ≡ says b → a ≡ b
injective says back h a b e = sym (h a) ∙ ap back e ∙ h b

-- The same of a meaning and what is left beside it.
injective-beside : {A B : Type 0} (says : A → Outcome) (leaves : A → B) (back : Outcome → B → A) → ((a : A) → back (says a) (leaves a) ≡ a)
    → (a b : A) → says a ≡ says b → leaves a ≡ leaves b → a ≡ b
injective-beside says leaves back h a b e d = sym (h a) ∙ ap₂ back e d ∙ h b

-- The answer to a beginning, but for the record.
pub begun_answer : Result Record Refusal → Result (Unit {0}) Refusal
begun_answer (Ok r) = Ok tt
begun_answer (Err w) = Err w

pub begun-said : (a b : Result Record Refusal) → begun_says a ≡ begun_says b → begun_answer a ≡ begun_answer b
begun-said a b e = verdict-injective (begun_answer a) (begun_answer b) (sym (same a) ∙ e ∙ same b)
  where
    same : (a : Result Record Refusal) → begun_says a ≡ verdict (begun_answer a)
    same (Ok r) = unfold begun_says begun_answer verdict in refl
    same (Err w) = unfold begun_says begun_answer verdict in refl

begun_back : Outcome → Record → Result Record Refusal
begun_back o r = cond (eqb o.number 0) (Ok r) (Err (why o))

pub begun-injective : (a b : Result Record Refusal) → begun_says a ≡ begun_says b → begun_record a ≡ begun_record b → a ≡ b
begun-injective = injective-beside begun_says begun_record begun_back back
  where
    back : (a : Result Record Refusal) → begun_back (begun_says a) (begun_record a) ≡ a
    back (Ok r) = unfold begun_says begun_record begun_back in refl
    back (Err r) = unfold begun_says begun_record begun_back in rw (ne_eqb (refusal r).number 0 (refusal-number r)) (ap Err (why-refusal r))

-- The dealer's answer says the bytes of its value, the high one first.
pub dealt-encoded : (v : ℕ) → dealt_says (Ok (v / 256 ∷ v % 256 ∷ [])) ≡ taken (encode current (v ∷ []))
unfolding dealt_says encode
dealt-encoded v = refl

dealt_back : Outcome → Result (List ℕ) Refusal
dealt_back o = cond (eqb o.number 0) (Ok o.values) (Err (why o))

pub dealt-injective : (a b : Result (List ℕ) Refusal) → dealt_says a ≡ dealt_says b → a ≡ b
dealt-injective = injective dealt_says dealt_back back
  where
    back : (a : Result (List ℕ) Refusal) → dealt_back (dealt_says a) ≡ a
    back (Ok bytes) = unfold dealt_says dealt_back in refl
    back (Err r) = unfold dealt_says dealt_back in rw (ne_eqb (refusal r).number 0 (refusal-number r)) (ap Err (why-refusal r))

sent_back : Outcome → Result ℕ Refusal
sent_back o = cond (eqb o.number 0) (Ok (get_or o.values 0 0)) (Err (why o))

pub sent-injective : (a b : Result ℕ Refusal) → sent_says a ≡ sent_says b → a ≡ b
sent-injective = injective sent_says sent_back back
  where
    back : (a : Result ℕ Refusal) → sent_back (sent_says a) ≡ a
    back (Ok k) = unfold sent_says sent_back in refl
    back (Err r) = unfold sent_says sent_back in rw (ne_eqb (refusal r).number 0 (refusal-number r)) (ap Err (why-refusal r))

open_back : Outcome → Closing
open_back o = cond (eqb (length o.values) 0) C.Decided (C.Next (record { 0 = get_or o.values 0 0 }) (record { 0 = get_or o.values 1 0 }))

closing_back : Outcome → Result Closing Refusal
closing_back o = cond (eqb o.number 0) (Ok (open_back o)) (Err (why o))

pub closing-injective : (a b : Result Closing Refusal) → closing_says a ≡ closing_says b → a ≡ b
closing-injective = injective closing_says closing_back back
  where
    back : (a : Result Closing Refusal) → closing_back (closing_says a) ≡ a
    back (Ok (C.Next t k)) = unfold closing_says open_says closing_back open_back in refl
    back (Ok C.Decided) = unfold closing_says open_says closing_back open_back in refl
    back (Err r) = unfold closing_says closing_back in rw (ne_eqb (refusal r).number 0 (refusal-number r)) (ap Err (why-refusal r))

-- The answer to a closing by value, but for the record.
pub closed_answer : Result Closed Refusal → Result Closing Refusal
closed_answer (Ok x) = Ok x.closing
closed_answer (Err w) = Err w

pub closed-said : (a b : Result Closed Refusal) → closed_says a ≡ closed_says b → closed_answer a ≡ closed_answer b
closed-said a b e = closing-injective (closed_answer a) (closed_answer b) (sym (same a) ∙ e ∙ same b)
  where
    same : (a : Result Closed Refusal) → closed_says a ≡ closing_says (closed_answer a)
    same (Ok x) = unfold closed_says closed_answer closing_says in refl
    same (Err w) = unfold closed_says closed_answer closing_says in refl

closed_back : Outcome → Record → Result Closed Refusal
closed_back o r = cond (eqb o.number 0) (Ok (record { closing = open_back o; rec = r })) (Err (why o))

-- Of the record that was closed.
pub closed-injective : (r : Record) (a b : Result Closed Refusal) → closed_says a ≡ closed_says b → closed_record r a ≡ closed_record r b → a ≡ b
closed-injective r = injective-beside closed_says (closed_record r) closed_back back
  where
    opened : (k : Record) (c : Closing) → closed_back (open_says c) k ≡ Ok (record { closing = c; rec = k })
    opened k (C.Next t j) = unfold open_says closed_back open_back in refl
    opened k C.Decided = unfold open_says closed_back open_back in refl

    back : (a : Result Closed Refusal) → closed_back (closed_says a) (closed_record r a) ≡ a
    back (Ok x) = unfold closed_says closed_record in opened x.rec x.closing
    back (Err w) = unfold closed_says closed_record closed_back in rw (ne_eqb (refusal w).number 0 (refusal-number w)) (ap Err (why-refusal w))

decision_back : Outcome → Result ℕ Refusal
decision_back o = cond (eqb o.number 0) (Ok (get_or o.values 0 0)) (Err (why o))

pub decision-injective : (a b : Result ℕ Refusal) → decision_says a ≡ decision_says b → a ≡ b
decision-injective = injective decision_says decision_back back
  where
    back : (a : Result ℕ Refusal) → decision_back (decision_says a) ≡ a
    back (Ok v) = unfold decision_says decision_back in refl
    back (Err r) = unfold decision_says decision_back in rw (ne_eqb (refusal r).number 0 (refusal-number r)) (ap Err (why-refusal r))

played_back : Outcome → Result ℕ Refused
played_back o =
    cond (eqb o.number 0) (Ok (get_or o.values 0 0))
    (Err (record { why = why (record { number = o.number; values = drop 1 o.values }); line = get_or o.values 0 0 }))

pub played-injective : (a b : Result ℕ Refused) → played_says a ≡ played_says b → a ≡ b
played-injective = injective played_says played_back back
  where
    back : (a : Result ℕ Refused) → played_back (played_says a) ≡ a
    back (Ok k) = unfold played_says played_back in refl
    back (Err r) =
        unfold played_says played_back in
        rw (ne_eqb (refusal r.why).number 0 (refusal-number r.why)) (ap (λ x. Err (record { why = x; line = r.line })) (why-refusal r.why))
