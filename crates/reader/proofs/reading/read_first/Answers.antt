-- `read_first` meets its contract: 22 for no text, 21, then the head.
use Rattle.std.proofs.Common.{◌≡◌, ◌<◌, ◌∙◌, sym, length, arith, rules}
use lib.ListN.{length-take}
use Rattle.refusals.specs.Outcome.{refusal}
use Rattle.heads.specs.Heads.{head_says}
use Rattle.text.proofs.LineEnds.{stop_le}
use Rattle.reader.proofs.Places.{top-none, top-open, top-other, top-good}
use Rattle.reader.proofs.reading.read_first.Goals as goal
use Rattle.reader.proofs.reading.read_first.Goals.{then-end-text-via-then-end-text, then-end-text-via-else-end-text+then-not-is_text}

pub returns-then-is_empty : goal.returns-then-is_empty
unfolding head_says refusal
returns-then-is_empty c =
    let none : length c.args.text.now ≡ 0 = search rules in
    record { judges = sym (top-none c.args.text.now c.args.end none); gives = tt }

pub slice_bounds-line-end : goal.slice_bounds-line-end
slice_bounds-line-end c =
    omega (arith, c.requires, stop_le c.args.text.now 0 (omega arith), length-take c.args.end c.args.text.now)

pub returns-then-end-text : goal.returns-then-end-text
unfolding head_says refusal
returns-then-end-text c =
    let text = c.args.text.now in
    let end = c.args.end in
    let some : length text ≡ 0 → ⊥ = search rules in
    elim c.then-end-text.branch [
      | then-end-text-via-then-end-text w ↦
          record { judges = sym (top-open text end some c.requires (omega (arith, w.if-end-text.true))); gives = tt }
      | then-end-text-via-else-end-text+then-not-is_text w ↦
          let within : end < length text = omega (arith, stop_le text 0 (omega arith), c.requires, w.if-end-text.false) in
          record { judges = sym (top-other text end some c.requires within (sym w.is_text.ensures ∙ w.if-not-is_text.true)); gives = tt }
    ]

pub returns : goal.returns
returns c =
    let text = c.args.text.now in
    let some : length text ≡ 0 → ⊥ = search rules in
    let within : c.args.end < length text = omega (arith, stop_le text 0 (omega arith), c.requires, c.if-end-text.false) in
    let r = c.read_head.ensures in
    record { judges = r.judges ∙ sym (top-good text c.args.end some c.requires within (sym c.is_text.ensures ∙ c.if-not-is_text.false)); gives = r.gives }
