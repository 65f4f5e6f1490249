use Rattle.std.proofs.Common.{sym, ap, ◌∙◌, not, arith, length}
use Rattle.sets.proofs.Search.{seek-start, seek_hit, seek-miss, seek-none, any_at}
use borrow.Author.Tests.{lt-ltb, le-ltb}
use Rattle.admission.proofs.admitting.names_other.Invariants.{other}
use Rattle.admission.proofs.admitting.names_other.Goals as goal

pub loop-s-init : goal.loop-s-init
loop-s-init c =
    let a = c.args in
    seek-start (other a.sets.now a.all) (length a.sets.now)

pub returns-then-not-within : goal.returns-then-not-within
returns-then-not-within c =
    let a = c.args in
    let l = c.loop-s in
    let hit = seek_hit (other a.sets.now a.all) (length a.sets.now) l.s-index _ l.invariant (omega arith) (ap not (sym c.within.ensures) ∙ ap not c.if-not-within.true) in
    sym (any_at (other a.sets.now a.all) (length a.sets.now) l.s-index hit ∙ lt-ltb l.s-index (length a.sets.now) (omega arith))

pub loop-s-preserved : goal.loop-s-preserved
loop-s-preserved c =
    let a = c.args in
    let l = c.loop-s in
    seek-miss (other a.sets.now a.all) (length a.sets.now) l.s-index _ l.invariant (omega arith) (ap not (sym c.within.ensures) ∙ ap not c.if-not-within.false)

pub returns : goal.returns
returns c =
    let a = c.args in
    let l = c.loop-s in
    let end = seek-none (other a.sets.now a.all) (length a.sets.now) l.s-index _ l.invariant (omega arith) in
    sym (any_at (other a.sets.now a.all) (length a.sets.now) l.s-index end ∙ le-ltb l.s-index (length a.sets.now) (omega arith))
