use Rattle.std.proofs.Common.{◌≡◌, ◌||◌, take, None}
use Rattle.std.specs.Prelude.{filter}
use Rattle.mk_makefile.specs.Source.{source_of}
use Rattle.mk_nodes.specs.Prerequisites.{is_target}
use Rattle.mk_nodes.specs.Wanted.{is_wanted, takes_any}
use Rattle.mk_sources.proofs.wanted.from_wanted.Given as goal

abbrev pub invariant-loop-form : goal.invariant-loop-form
invariant-loop-form l =
    source_of (λ n. is_target l.rules.lines.now n || is_wanted l.rules.lines.now n) (filter takes_any (take l.form-index l.rules.forms.now)) l.name ≡ None
