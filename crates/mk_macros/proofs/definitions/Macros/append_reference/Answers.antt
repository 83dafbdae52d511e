use Rattle.std.proofs.Common.{◌≡◌, ◌∙◌, None, Some, sym, ap, subst, option_map}
use Rattle.mk_profile.specs.Profile.{is_wide}
use Rattle.mk_macros.specs.Dynamic.{dynamic_value}
use Rattle.mk_macros.specs.Expansion.{limit, IsLongValue}
use Rattle.mk_macros.specs.Function.{function_in}
use Rattle.mk_macros.specs.Ranks.{ranks_at, in_force, meaning_from}
use Rattle.mk_macros.specs.Lookup.{opened, shown_progress, progress_at}
use Rattle.mk_macros.specs.Shown.{shown_use}
use Rattle.std.proofs.lemmas.Result.{err_from_is_err_and}
use Rattle.mk_macros.proofs.LookupLemmas.{value_fails}
use Rattle.mk_macros.proofs.definitions.Macros.append_reference.Goals as goal

pub returns-in_ok-from_slice-in-Some-Opened-clause-err : goal.returns-in_ok-from_slice-in-Some-Opened-clause-err
returns-in_ok-from_slice-in-Some-Opened-clause-err c =
    let kept = c.in-Some-definition.name.now in
    let named : kept ≡ c.args.name.now = c.in-Some-definition.ensures.name in
    let none : dynamic_value c.args.line.now c.args.name.now ≡ None = sym c.in_ok-value.ensures.ok.0 ∙ ap (option_map (λ v. v.items)) c.in_default.is in
    let is_open : progress_at c.args.progress.now kept ≡ opened = ap shown_progress (sym c.in-Some-Opened.ensures.value) ∙ ap (λ p. shown_progress (Some p)) c.in-Some-Opened.field-0-is in (
      c.in_ok-from_slice-in-Some-Opened.ensures.ok ∙ named,
      ap (progress_at c.args.progress.now) (sym named) ∙ is_open,
      (
        c.in-Some-definition.text.now,
        ap (λ o. meaning_from o (in_force (ranks_at c.args.self.now.texts c.args.name.now))) none ∙ ap (meaning_from None) (sym c.in-Some-definition.ensures.text),
      ),
    )

pub returns-in_err-value-clause-err : goal.returns-in_err-value-clause-err
returns-in_err-value-clause-err c =
    let name = c.args.name.now in
    let p = err_from_is_err_and c.from_residual.result c.from_residual.ensures.1 in
    let long = subst (λ most. IsLongValue most (dynamic_value c.args.line.now name) c.in_err-value.field-0.0) c.most_bytes.ensures c.in_err-value.ensures.err in
    rw (p.1, p.2) (value_fails (limit (is_wide c.args.profile)) (function_in (is_wide c.args.profile) name) (progress_at c.args.progress.now name) (shown_use c.args.use_of.now) name c.args.made.now.items
    (dynamic_value c.args.line.now name) (in_force (ranks_at c.args.self.now.texts name)) _ long)
