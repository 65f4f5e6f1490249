use Rattle.voting.proofs.Voted.{Leading}
use Rattle.voting.proofs.voting.vote.Given as goal

abbrev pub invariant-loop-c : goal.invariant-loop-c
invariant-loop-c l = Leading l.tabled.plan l.boards l.values l.c l.found
