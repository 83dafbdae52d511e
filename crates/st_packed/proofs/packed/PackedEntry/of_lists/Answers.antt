use Rattle.std.proofs.Common.{rules, sym, subst}
use Rattle.byte_strings.specs.Texts.{AreTexts}
use Rattle.byte_strings.proofs.TextLemmas.{AreTexts-few}
use Rattle.st_packed.proofs.PackedLemmas.{joined_parts}
use Rattle.st_packed.proofs.packed.PackedEntry.of_lists.Goals as goal

pub overflow_cast-result : goal.overflow_cast-result
overflow_cast-result c =
    let few = AreTexts-few c.texts-hidden.result.0 c.texts-hidden.result.1.now c.texts-hidden.ensures.lie in
    search (rules, few)

pub invariant_of-result : goal.invariant_of-result
invariant_of-result c =
    let first = c.texts-commands.result.1.now in
    let lie : AreTexts c.in-Ok.commands first = subst (λ n. AreTexts n first) (sym c.in-Ok.ensures.1) c.texts-commands.ensures.lie in
    let parts = joined_parts c.in-Ok.commands c.in-Ok-try_from.hidden_bytes first c.texts-hidden.result.1.now c.texts-explicit.result.1.now
    c.in_ok-bytes.bytes.items lie c.in-Ok-try_from.ensures.1 c.in_ok-bytes.ensures in
    record {
      commands_fit = parts.fits;
      hidden_fit = parts.hidden_fits;
      commands_lie = subst (AreTexts c.in-Ok.commands) (sym parts.front) lie;
      hidden_lie = subst (AreTexts c.texts-hidden.result.0) (sym parts.middle) c.texts-hidden.ensures.lie;
      explicit_lie = subst (AreTexts c.in-Ok-try_from-2.explicit) (sym parts.last)
          (subst (λ n. AreTexts n c.texts-explicit.result.1.now) (sym c.in-Ok-try_from-2.ensures.1) c.texts-explicit.ensures.lie);
    }

pub returns : goal.returns
returns c =
    let first = c.texts-commands.result.1.now in
    let lie : AreTexts c.in-Ok.commands first = subst (λ n. AreTexts n first) (sym c.in-Ok.ensures.1) c.texts-commands.ensures.lie in
    let parts = joined_parts c.in-Ok.commands c.in-Ok-try_from.hidden_bytes first c.texts-hidden.result.1.now c.texts-explicit.result.1.now
    c.in_ok-bytes.bytes.items lie c.in-Ok-try_from.ensures.1 c.in_ok-bytes.ensures in
    search (rules, parts.front, parts.middle, parts.last)
