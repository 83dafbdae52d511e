use Rattle.std.proofs.Common.{◌∙◌, ℕ, Option, sym, ap}
use Rattle.std.specs.Prelude.{option_to_list}
use Rattle.mk_makefile.specs.Doubles.{first_double}
use Rattle.mk_nodes.specs.Prerequisites.{any_or}
use Rattle.mk_sources.proofs.rules.own_or_first.Goals as goal

pub returns-in-None : goal.returns-in-None
returns-in-None c = λ name are.
    ap option_to_list (c.first_double.ensures name are)
    ∙ sym (ap (λ (recipe : Option ℕ). any_or (option_to_list recipe) (first_double c.args.lines.now name)) c.in-None.is)
