-- `print_boards` meets its contract: the lines of the boards below i.
use mathlib.Core.Path.{◌≡◌, sym, ap, ap₂, ◌∙◌}
use mathlib.Core.Bool.{true, false}
use native.Mathlib.Omega.{arith}
use lib.ListN.{length}
use lib.Seq.{sets, length-sets}
use Rattle.codec.specs.Codec.{current}
use Rattle.sets.specs.Sets.{member}
use Rattle.sheet.specs.Playing.{print_boards}
use Rattle.printer.specs.Printed.{boards_of, board_lines, at_front}
use Rattle.printer.proofs.Stores.{stores-first}
use Rattle.printer.proofs.BoardLines.{record-there, line-healthy, one_more, none_more, lines_none, print-short, many-boards, short-output, all_lines}
use Rattle.printer.proofs.printing.print_boards.Goals as goal
use Rattle.printer.proofs.printing.print_boards.Goals.{else-not-member, then-not-member}

pub returns-then-n-gt7 : goal.returns-then-n-gt7
returns-then-n-gt7 c = let a = c.args in many-boards a.head a.records a.out.now c.if-n-gt7.true

pub returns-then-out-lt-OUTPUT : goal.returns-then-out-lt-OUTPUT
returns-then-out-lt-OUTPUT c = let a = c.args in short-output a.head a.records a.out.now c.if-out-lt-OUTPUT.true

pub loop-i-init : goal.loop-i-init
loop-i-init c =
    let a = c.args in
    let none = lines_none a.head (boards_of a.records) in
    (sym (ap length none), sym (ap (sets a.out.now 0) none))

pub print-requires : goal.print-requires
print-requires c =
    let l = c.loop-i in
    let a = c.args in
    let text = print_boards current a.head (boards_of a.records) 0 l.i in
    omega (arith, l.invariant.0, print-short a.head (boards_of a.records) l.i, ap length l.invariant.1, length-sets a.out.now 0 text)

pub overflow_add-used : goal.overflow_add-used
overflow_add-used c =
    let l = c.loop-i in
    let a = c.args in
    record { fits = omega (arith, l.invariant.0, print-short a.head (boards_of a.records) l.i) }

pub loop-i-preserved : goal.loop-i-preserved
loop-i-preserved c =
    let a = c.args in
    let l = c.loop-i in
    let b = boards_of a.records in
    let of-records = c.well_formed.1.0 in
    let seven : length a.records ≡ 7 = of-records.1.0.1 in
    elim c.if-not-member.branch [
      | then-not-member w ↦ let f : member l.i a.head.faulty ≡ false = sym c.member.ensures ∙ w.if-not-member.true in
          let line = line-healthy a.head b l.i _ (rw w.from.ensures (record-there a.records l.i _ (omega arith))) f in
          let (u, o) = one_more a.head b l.i l.used a.out.now l.out _ _ l.invariant.0 l.invariant.1 f (w.of.ensures ∙ line) w.print.ensures in
          (w.used-is ∙ u, w.out-is ∙ o)
      | else-not-member w ↦ let f : member l.i a.head.faulty ≡ true = sym c.member.ensures ∙ w.if-not-member.false in
          let e = none_more a.head b l.i f in
          (w.used-is ∙ l.invariant.0 ∙ ap length e, w.out-is ∙ l.invariant.1 ∙ ap (sets a.out.now 0) e)
    ]

pub shape_of-out : goal.shape_of-out
shape_of-out c =
    let a = c.args in
    let l = c.loop-i in
    ap length l.invariant.1 ∙ length-sets a.out.now 0 (print_boards current a.head (boards_of a.records) 0 l.i)

pub returns : goal.returns
returns c =
    let a = c.args in
    let l = c.loop-i in
    let text = print_boards current a.head (boards_of a.records) 0 l.i in
    let e : text ≡ board_lines a.head a.records a.out.now =
    ap (print_boards current a.head (boards_of a.records) 0) (let z : l.i ≡ a.head.plan.n = omega arith in z) ∙ sym (all_lines a.head a.records a.out.now (omega arith) (omega arith)) in
    ap₂ (λ k o. record { count = k; out = o }) l.invariant.0
    (l.invariant.1 ∙ stores-first a.out.now text (omega (arith, print-short a.head (boards_of a.records) l.i)))
    ∙ ap (λ t. at_front t a.out.now) e
