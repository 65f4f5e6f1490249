-- What a board hears from another. A middle layer: what a board hears is `hears` of the protocol.
use Rattle.std.specs.Prelude.{ℕ, cond, List}
use Rattle.std.proofs.Math.Option.{Option, some}
use Rattle.codec.specs.Codec.{current, decode}
use Rattle.sets.specs.Sets.{member}
use Rattle.sheet.specs.declared.head.Head.{Head}
use Rattle.protocol.specs.declared.records.Record.{Record}
use Rattle.protocol.specs.Rounds.{Board}
use Rattle.protocol.specs.Session.{hand_in}
use Rattle.sheet.specs.Sheet.{Frame}
use Rattle.sheet.specs.Playing.{find_frame, decoded}

-- What the sheet's frames have from board q for the board with record r, at its run and round.
abbrev pub in_sheet : List Frame → ℕ → Record → Option (List ℕ)
in_sheet fs q r = decoded current (find_frame r.run r.round q r.board fs)

-- What a board hears from board q: what the sheet's frames have for it if q is faulty, else the frame f.
unfoldable pub told : Head → List Frame → ℕ → List ℕ → Board → Option (List ℕ)
told h fs q f b =
    let found = in_sheet fs q b.rec in
    cond (member q h.faulty) found (some (decode current f))

unfoldable pub hear_from : Head → List Frame → ℕ → List ℕ → ℕ → Board → Board
hear_from h fs q f i b = hand_in q (told h fs q f b) b
