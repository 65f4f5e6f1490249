-- `join` meets its contract.
use Rattle.std.proofs.Common.{◌≡◌, length, rules}
use Rattle.listing.proofs.Slots.{written-join, unwritten-join}
use Rattle.listing.proofs.listing.join.Goals as goal

pub returns-then-board-ge7 : goal.returns-then-board-ge7
returns-then-board-ge7 c =
    let a = c.args in
    let seven : length a.list ≡ 7 = search rules in
    unwritten-join a.board a.run a.round a.rule a.list seven c.if-board-ge7.true

pub returns : goal.returns
returns c =
    let a = c.args in
    let seven : length a.list ≡ 7 = search rules in
    rw c.from.ensures (written-join a.board a.run a.round a.rule a.list seven c.if-board-ge7.false)
