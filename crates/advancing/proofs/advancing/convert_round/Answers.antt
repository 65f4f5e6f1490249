-- `convert_round` meets its contract: the root, rule C, and the cells.
use Prim.Native.Nat.{◌≤◌}
use mathlib.Core.Path.{refl, sym, ap₂, ◌∙◌}
use native.Mathlib.Omega.{arith}
use borrow.Author.Rules.{rules}
use Rattle.codec.specs.Codec.{current, blank}
use Rattle.protocol.specs.Records.{run_ended}
use Rattle.protocol.specs.Rounds.{board_with, convert}
use Rattle.protocol.proofs.Judgement.{good-record, good-dealer}
use Rattle.frames.proofs.Standing.{good-stands, with-table}
use Rattle.conversion.specs.Promises.{Converts}
use Rattle.advancing.proofs.Converting.{convertible, root_kept}
use Rattle.advancing.proofs.advancing.convert_round.Goals as goal

pub convert_cells-root-requires : goal.convert_cells-root-requires
convert_cells-root-requires c =
    let r = c.args.r in
    let own = c.requires.own in
    let most : r.plan.span ≤ blank current = search rules in
    convertible (with-table c.args.tabled.now.tabled own (good-stands r (good-record r c.requires.good) _ refl)) (rw own most) (rw own c.requires.enough)

pub keep_root-requires : goal.keep_root-requires
keep_root-requires c =
    record {
      accepted = (good-record c.args.r c.requires.good).plan-good;
      enough = omega (arith, c.requires.enough, c.convert_cells-root.auto.cells);
    }

pub returns : goal.returns
unfolding convert
returns c =
    let a = c.args in
    let x = c.convert_cells-root in
    let v : Converts a.r.plan a.r.board a.r.run a.r.round a.list x.result.root x.result.list a.cells.now _ = rw (sym c.requires.own) x.ensures in
    ap₂ board_with
    (c.next_run.ensures ∙ ap₂ (run_ended a.r) v.list-is v.root_is)
    (c.keep_root.ensures
    ∙ root_kept a.r.plan a.r.board a.r.run a.r.round a.list _ _ a.cells.now _ (good-dealer a.r (good-record a.r c.requires.good)) v)
