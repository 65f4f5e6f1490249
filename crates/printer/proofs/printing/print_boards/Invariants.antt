use mathlib.Core.Path.{◌≡◌}
use lib.ListN.{length}
use lib.Seq.{sets}
use Rattle.codec.specs.Codec.{current}
use Rattle.sheet.specs.Playing.{print_boards}
use Rattle.printer.specs.Printed.{boards_of}
use Rattle.printer.proofs.printing.print_boards.Given as goal

abbrev pub invariant-loop-i : goal.invariant-loop-i
invariant-loop-i l = let text = print_boards current l.head (boards_of l.records) 0 l.i in
    (l.used ≡ length text) × (l.out ≡ sets l.initial.out 0 text)
