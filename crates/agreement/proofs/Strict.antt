-- A list that is fair by the sentences of 01 is fair.
-- Assumes nothing.
use mathlib.Core.List.{List}
use Rattle.protocol.specs.Session.{Setting}
use Rattle.agreement.specs.Lists.{Call, receives, closes, Fair, StrictlyFair}
use Rattle.agreement.proofs.Prefixes.{stands-prefix, stands-in}

pub strictly-fair : (s : Setting) (calls : List Call) → StrictlyFair s calls → Fair s calls
strictly-fair s calls strict = record {
  callers = strict.callers;
  heard = λ i before st ok q fq d.
      let h = strict.heard i before st ok q fq d in
      let stands = stands-in (receives i q h.frame) h.earlier before calls h.stands (stands-prefix (closes i) before calls st) in
      record { handed = h; as-sent = strict.carried i q h.frame h.earlier stands h.taken fq };
}
