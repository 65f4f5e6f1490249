-- `convert_cells` meets its contract.
use mathlib.Core.Path.{ap}
use Rattle.conversion.proofs.RuleC.{resolved-room, converts}
use Rattle.conversion.proofs.converting.convert_cells.Goals as goal

pub resolve_root-root-requires : goal.resolve_root-root-requires
resolve_root-root-requires c =
    record { convertible = c.requires; top-is = ap (λ r. r.0) c.rounds-top.ensures }

pub detect_levels-found-requires : goal.detect_levels-found-requires
detect_levels-found-requires c =
    record { convertible = resolved-room c.requires c.resolve_root-root.ensures; top-is = ap (λ r. r.0) c.rounds-top.ensures }

pub returns : goal.returns
returns c =
    converts c.requires c.resolve_root-root.ensures c.detect_levels-found.ensures
