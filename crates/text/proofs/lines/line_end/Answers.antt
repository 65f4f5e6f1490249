-- `line_end` meets its contract: what stands from `start` on is searched for a newline.
use Rattle.std.proofs.Common.{◌≡◌, ◌+◌, ◌∙◌, ap, arith, rules, tests, eqb, length, drop}
use Rattle.std.proofs.lemmas.Grind.{common_steps}
use Rattle.std.specs.Option.{unwrap_or}
use Rattle.std.proofs.lemmas.Iterator.{YieldsList-from_slice}
use Rattle.std.proofs.lemmas.Iterator.Search.{position_from_yields_List}
use Rattle.sets.proofs.Bridges.{place-or-end}
use Rattle.text.proofs.LineEnds.{stop_part}
use Rattle.text.proofs.lines.line_end.Goals as goal

pub returns : goal.returns
returns c =
    let text = c.args.text.now in
    let start = c.args.start in
    let rest = c.unwrap_or-rest.result.now in
    let is : rest ≡ drop start text = grind (arith, common_steps) in
    ap (λ k. start + k)
    (c.unwrap_or.ensures
    ∙ ap (λ o. unwrap_or o (length rest)) (position_from_yields_List (λ x. eqb x 10) _ _ _ c.position.ensures.ran (YieldsList-from_slice rest cc) (λ x b q k. search (rules, tests)))
    ∙ place-or-end (λ x. eqb x 10) rest)
    ∙ stop_part text start rest is
