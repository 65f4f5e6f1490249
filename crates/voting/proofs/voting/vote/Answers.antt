-- `vote` meets its contract: `found` is the value that the children below c elect.
use Prim.Native.Nat.{◌+◌}
use mathlib.Core.Path.{sym, ◌∙◌, subst}
use native.Mathlib.Omega.{arith}
use Rattle.voting.proofs.Voted.{Leading, leading-start, leading-skip, leading-same, leading-more, leading_two, leading_end}
use Rattle.voting.proofs.voting.vote.Goals as goal
use Rattle.voting.proofs.voting.vote.Goals.{else-v-found, else-v-found-via-else-v-found, else-v-found-via-then-v-found+else-elects, then-v-found+then-elects+else-found}

pub loop-c-init : goal.loop-c-init
loop-c-init c = let a = c.args in leading-start a.tabled.now.plan a.boards a.values

pub bounds-values-c : goal.bounds-values-c
bounds-values-c c = omega (arith, c.args.tabled.now.tabled.most-boards)

pub elects-requires : goal.elects-requires
elects-requires c = omega arith

pub returns-then-found : goal.returns-then-found
returns-then-found c =
    let l = c.loop-c in
    let a = c.args in
    leading_two a.tabled.now.plan a.boards a.values l.c l.found l.invariant (sym c.elects.ensures ∙ c.if-elects.true) c.if-found.true (λ e. c.if-v-found.true (sym e))

pub loop-c-preserved : goal.loop-c-preserved
loop-c-preserved c =
    let l = c.loop-c in
    let a = c.args in
    elim c.if-v-found.branch [
      | then-v-found+then-elects+else-found w ↦
          subst (Leading a.tabled.now.plan a.boards a.values (l.c + 1)) (sym w.found-is)
          (leading-more a.tabled.now.plan a.boards a.values (omega arith) l.c l.found l.invariant (sym w.elects.ensures ∙ w.if-elects.true) (λ ne. absurd (ne w.if-found.false)))
      | else-v-found w ↦
          subst (Leading a.tabled.now.plan a.boards a.values (l.c + 1)) (sym w.found-is)
          (elim w.else-v-found.branch [
            | else-v-found-via-then-v-found+else-elects x ↦ leading-skip a.tabled.now.plan a.boards a.values l.c l.found l.invariant (sym x.elects.ensures ∙ x.if-elects.false)
            | else-v-found-via-else-v-found x ↦ leading-same a.tabled.now.plan a.boards a.values l.c l.found l.invariant x.if-v-found.false
          ])
    ]

pub returns : goal.returns
returns c =
    let l = c.loop-c in
    let a = c.args in
    leading_end a.tabled.now.plan a.boards a.values (omega arith) l.c l.found (omega arith) l.invariant
