use Rattle.std.proofs.Common.{sym, subst}
use Rattle.mk_macros.specs.Expansion.{adds_bytes}
use Rattle.mk_macros.specs.Ranks.{defined_by}
use Rattle.mk_macros.specs.Shown.{shown_piece}
use Rattle.mk_macros.specs.Simple.{AddsThere}
use Rattle.mk_macros.proofs.definitions.Macros.simple_piece.Goals as goal

pub returns-in-Plain : goal.returns-in-Plain
returns-in-Plain c =
    subst (λ p. AddsThere (defined_by c.args.self.now) c.args.line.now (shown_piece p) c.in-Plain.bytes.now) (sym c.in-Plain.is) adds_bytes
