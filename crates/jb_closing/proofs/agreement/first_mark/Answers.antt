use Rattle.std.proofs.Common.{[], ◌∷◌, true≢false, sym, ap, ◌∙◌}
use Rattle.jb_closing.proofs.AgreementLemmas.{other_first}
use Rattle.jb_closing.proofs.agreement.first_mark.Goals as goal

pub returns-then-is_same : goal.returns-then-is_same
returns-then-is_same c = ap (λ n. n ∷ []) (sym (c.is_same.ensures.0 c.if-is_same.true))

pub returns-else-is_same : goal.returns-else-is_same
returns-else-is_same c =
    other_first c.args.told.now c.args.noted.now (λ same. true≢false (sym (c.is_same.ensures.1 (sym same)) ∙ c.if-is_same.false))
