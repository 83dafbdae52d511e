use Rattle.std.proofs.Common.{◌≡◌, sym, ap, ◌∙◌}
use Rattle.mk_profile.specs.Profile.{is_wide}
use Rattle.mk_reader.specs.declared.fault.ReadFault.{ReadFault}
use Rattle.mk_reader.specs.declared.fault.ReadFault.TheVariants.{OutOfMemory, Refused}
use Rattle.mk_reader.specs.declared.fault.Refusal.{Refusal}
use Rattle.mk_reader.proofs.StatementLemmas as reading
use Rattle.mk_eval.specs.Unmade.{told_beside}
use Rattle.mk_eval.proofs.unmade.told_in.Goals as goal

abbrev refused_in : Refusal → ReadFault → Refusal
refused_in other OutOfMemory = other
refused_in other (Refused refused) = refused

pub returns-in-Ok-clause-refused : goal.returns-in-Ok-clause-refused
returns-in-Ok-clause-refused c = λ refused is statements are.
    let wide = is_wide c.args.profile in
    let found = c.in-Ok.statements.items in
    let same : statements ≡ found = reading.text_one c.args.profile c.args.file.now c.args.text.now statements found are c.in-Ok.ensures in
    let one : refused ≡ c.in-Refused.refused = ap (refused_in refused) (sym is ∙ c.in-Refused.is) in
    ap (λ s. told_beside wide s refused) (same ∙ sym c.as_slice.ensures.value) ∙ ap (told_beside wide c.as_slice.result.now) one ∙ sym c.told_beside.ensures
