use Rattle.std.proofs.Common.{◌+◌, ◌-◌, ◌*◌}
use Rattle.walk.specs.Walk.{walked}
use Rattle.internal.specs.Tests.{is_open}
use Rattle.walk.proofs.Steps.{rest, Walking}
use Rattle.walk.proofs.nodes.+walk.Given as goal

abbrev pub decreases-walk : goal.decreases-walk
decreases-walk l = l.left

abbrev pub invariant-loop-c : goal.invariant-loop-c
invariant-loop-c l =
    let test = is_open l.holders l.without in
    Walking l.n (l.index * (l.spare + l.left)) l.c l.next l.at l.used (rest (walked test l.n l.spare (l.left - 1)) l.boards l.n l.next l.c) (walked test l.n l.spare l.left l.index l.last l.boards) l.nodes l.initial.nodes
