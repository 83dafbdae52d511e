use Rattle.std.proofs.Common.{◌∙◌, not, sym, ap}
use Rattle.std.specs.Prelude.{◌||◌, ◌==◌}
use Rattle.mk_short_names.specs.Short.{is_short}
use Rattle.mk_nodes.specs.Chain.{any_wide}
use Rattle.mk_sources.proofs.LookupLemmas.{no_steps, some_steps}
use Rattle.mk_sources.proofs.lookup.is_read.Goals as goal

pub returns-then-rules-eq0 : goal.returns-then-rules-eq0
returns-then-rules-eq0 c =
    let rules = c.args.rules.now in
    ap (λ n. n == 0) c.if-rules-eq0.true
    ∙ sym (ap (λ wide. not wide || is_short c.args.name.now) (no_steps (any_wide rules.lines.now) rules.steps rules.few c.if-rules-eq0.true))

pub returns-else-rules-eq0 : goal.returns-else-rules-eq0
returns-else-rules-eq0 c =
    let rules = c.args.rules.now in
    c.is_short.ensures
    ∙ sym (ap (λ wide. not wide || is_short c.args.name.now) (some_steps (any_wide rules.lines.now) rules.steps rules.few c.if-rules-eq0.false))
