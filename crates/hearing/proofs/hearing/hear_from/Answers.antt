-- `hear_from` meets its contract: what the sheet has from a faulty board, the frame of another.
use mathlib.Core.Path.{◌≡◌, sym, ap, ◌∙◌}
use mathlib.Core.Bool.{true, false}
use Rattle.sets.specs.Sets.{member}
use Rattle.protocol.specs.Rounds.{board_with, Board}
use Rattle.protocol.specs.Calls.{Result, receiving}
use Rattle.protocol.specs.Session.{hand_in}
use Rattle.finding.specs.Frames.{frames_in}
use Rattle.hearing.specs.Hearing.{hear_from}
use Rattle.hearing.proofs.Sender.{told-faulty, told-healthy}
use Rattle.hearing.proofs.hearing.hear_from.Goals as goal

pub returns-then-member : goal.returns-then-member
unfolding hear_from
returns-then-member c =
    let a = c.args in
    let b : Board = board_with a.r.now a.cells.now in
    let f : member a.q a.head.faulty ≡ true = sym c.member.ensures ∙ c.if-member.true in
    c.hear_faulty.ensures ∙ sym (ap (λ x. hand_in a.q x b) (told-faulty a.head (frames_in a.frames.now) a.q a.own.now b f))

pub returns-else-member : goal.returns-else-member
unfolding hear_from hand_in receiving
returns-else-member c =
    let a = c.args in
    let b : Board = board_with a.r.now a.cells.now in
    let f : member a.q a.head.faulty ≡ false = sym c.member.ensures ∙ c.if-member.false in
    ap (λ (x : Result). x.board) c.receive.ensures
    ∙ sym (ap (λ x. hand_in a.q x b) (told-healthy a.head (frames_in a.frames.now) a.q a.own.now b f))
