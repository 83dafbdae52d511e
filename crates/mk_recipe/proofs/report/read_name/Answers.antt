use Rattle.std.proofs.Common.{◌≡◌, ◌∙◌, false, sym, arith}
use Rattle.std.proofs.lemmas.Bool.Decides.{nat_tests}
use Rattle.mk_recipe.specs.Reading.{is_long}
use Rattle.mk_recipe.proofs.ReportLemmas.{reads_no_more}
use Rattle.mk_recipe.proofs.report.read_name.Goals as goal

pub returns-then-len-ge-MAX_HIDDEN_NAMES-clause-ok : goal.returns-then-len-ge-MAX_HIDDEN_NAMES-clause-ok
returns-then-len-ge-MAX_HIDDEN_NAMES-clause-ok c =
    let short : is_long c.args.name.now ≡ false = grind (arith, nat_tests) in
    reads_no_more c.args.name.now c.args.seen.now c.args.hidden.now (sym c.contains.ensures ∙ c.if-contains.false) short (omega arith)
