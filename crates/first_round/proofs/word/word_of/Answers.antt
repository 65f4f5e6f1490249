-- `word_of` meets its contract: the value of a frame that counts, else the default.
use mathlib.Core.Path.{sym, ap, ◌∙◌}
use Rattle.codec.specs.Codec.{current, decode}
use Rattle.plan.specs.Values.{value}
use Rattle.sets.specs.Sets.{member}
use Rattle.first_round.proofs.Takes.{word_counts, word-misfit, word-listed}
use Rattle.first_round.proofs.word.word_of.Goals as goal
use Rattle.first_round.proofs.word.word_of.Goals.{else-value_count-eq1-via-else-value_count-eq1, else-value_count-eq1-via-then-value_count-eq1+else-not-member}

pub returns-then-not-member : goal.returns-then-not-member
returns-then-not-member c =
    let a = c.args in
    let one = sym c.value_count.ensures ∙ c.if-value_count-eq1.true in
    c.value.ensures ∙ ap (value a.plan) c.value_at.ensures
    ∙ sym (word_counts a.plan a.list a.q (decode current a.frame.now) one (ap (member a.q) (sym c.as_set.ensures) ∙ sym c.member.ensures ∙ c.if-not-member.true))

pub returns : goal.returns
returns c =
    let a = c.args in
    c.default.ensures
    ∙ sym (elim c.else-value_count-eq1.branch [
      | else-value_count-eq1-via-then-value_count-eq1+else-not-member x ↦ word-listed a.plan a.list a.q (decode current a.frame.now) (ap (member a.q) (sym x.as_set.ensures) ∙ sym x.member.ensures ∙ x.if-not-member.false)
      | else-value_count-eq1-via-else-value_count-eq1 x ↦ word-misfit a.plan a.list a.q (decode current a.frame.now) (λ e. x.if-value_count-eq1.false (c.value_count.ensures ∙ e))
    ])
