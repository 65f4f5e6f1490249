-- What has come fits behind what came before, and is at least one byte.
use Rattle.std.proofs.Common.{ap, sym, ◌∙◌, arith, length, ◌-◌, ◌≤◌, ◌+◌, Ok}
use lib.ListN.{length-take, length-drop, drop}
use borrow.Rule.Slice.PartMut.{same_len_mid}
use Rattle.input.proofs.Arrivals.{some-came}
use Rattle.input.proofs.input.read_sheet.Goals as goal
use Rattle.input.proofs.input.read_sheet.Goals.{In-Some}

came : (c : In-Some) → (1 ≤ c.in-Some.count) × (c.loop-done.done + c.in-Some.count ≤ length c.loop-done.text)
came c =
    let l = c.loop-done in
    let room = length l.text - l.done in
    let got = sym c.arrival_of.ensures ∙ c.in_ok-count.was ∙ ap Ok c.in-Some.is in
    let (some, within) = some-came c.read.result c.in-Some.count c.read.new.buf c.read.ensures.bound got in
    (some, omega (arith, within, c.read.auto.buf, length-take room (drop l.done l.text), length-drop l.done l.text))

pub overflow_add-done : goal.overflow_add-done
overflow_add-done c = record { fits = omega (arith, (came c).1) }

pub loop-done-smaller : goal.loop-done-smaller
loop-done-smaller c =
    let l = c.loop-done in
    omega (arith, came c, same_len_mid l.done (length l.text - l.done) l.text c.read.new.buf c.read.auto.buf)

pub loop-done-preserved : goal.loop-done-preserved
loop-done-preserved c =
    let l = c.loop-done in
    omega (arith, came c, same_len_mid l.done (length l.text - l.done) l.text c.read.new.buf c.read.auto.buf)
