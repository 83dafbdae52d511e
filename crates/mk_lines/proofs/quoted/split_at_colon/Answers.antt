use Rattle.std.proofs.Common.{◌∙◌, sym, subst}
use Rattle.mk_lines.specs.Quoted.{IsColonCut}
use Rattle.mk_lines.proofs.QuotedLemmas.{colon_none, colon_some}
use Rattle.mk_lines.proofs.quoted.split_at_colon.Goals as goal

pub returns-in-Some : goal.returns-in-Some
returns-in-Some c =
    let cut = colon_some c.first_unquoted.result c.args.text.now c.in-Some.at c.first_unquoted.ensures.found c.in-Some.is in
    rw (c.around.ensures.left, c.around.ensures.right) cut

pub returns-in-None : goal.returns-in-None
returns-in-None c = colon_none c.first_unquoted.result c.args.text.now c.first_unquoted.ensures.found c.in-None.is
