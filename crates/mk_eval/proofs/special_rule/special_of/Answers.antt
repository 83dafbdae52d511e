use Rattle.std.proofs.Common.{◌≡◌, false, true, sym, subst, refl, ◌∙◌}
use Rattle.std.specs.List.{list_any}
use Rattle.byte_strings.specs.Blanks.{first_word}
use Rattle.mk_macros.specs.Expansion.{gives, fails, ExpandsTo, ExpandsToFault}
use Rattle.mk_macros.specs.Ranks.{defined_by, rule_meanings}
use Rattle.mk_reader.specs.Special.{special_name}
use Rattle.mk_lines.specs.Text.{is_dollar}
use Rattle.mk_short_names.specs.Short.{short_name}
use Rattle.mk_eval.proofs.MakefileLemmas.{names_stand, names_expanded, fault_some}
use Rattle.mk_eval.proofs.special_rule.special_of.Goals as goal

pub returns-then-not-has_dollar : goal.returns-then-not-has_dollar
returns-then-not-has_dollar c =
    let text = c.args.rule.now.targets in
    let given = defined_by c.args.macros.now in
    let none : list_any is_dollar text ≡ false = subst (λ t. list_any is_dollar t ≡ false) c.as_slice-text.ensures (sym c.if-not-has_dollar.ensures) in
    let is : c.special_name.result ≡ special_name given.language (short_name (first_word text)) =
    rw (c.special_name.ensures, c.profile.ensures, c.short_name.ensures, c.first_word.ensures, c.as_slice-text.ensures) refl in
    (gives text, names_stand given text text none refl, is)

pub returns-in-Ok : goal.returns-in-Ok
returns-in-Ok c =
    let text = c.args.rule.now.targets in
    let given = defined_by c.args.macros.now in
    let targets = c.in-Ok.targets.items in
    let some : list_any is_dollar text ≡ true = subst (λ t. list_any is_dollar t ≡ true) c.as_slice-text.ensures (sym c.if-not-has_dollar.ensures) in
    let expands = subst (λ t. ExpandsTo (rule_meanings given) t (gives targets)) c.as_slice-text.ensures c.in-Ok.ensures.found in
    let is : c.special_name-in-Ok.result ≡ special_name given.language (short_name (first_word targets)) =
    rw (c.special_name-in-Ok.ensures, c.profile-in-Ok.ensures, c.short_name-in-Ok.ensures, c.first_word-in-Ok.ensures, c.deref.ensures.value) refl in
    (gives targets, names_expanded given text (gives targets) some expands, is)

pub returns-else-ran_out : goal.returns-else-ran_out
returns-else-ran_out c =
    let text = c.args.rule.now.targets in
    let given = defined_by c.args.macros.now in
    let some : list_any is_dollar text ≡ true = subst (λ t. list_any is_dollar t ≡ true) c.as_slice-text.ensures (sym c.if-not-has_dollar.ensures) in
    let told = subst (λ t. ExpandsToFault (rule_meanings given) t c.in-Err.fault) c.as_slice-text.ensures c.in-Err.ensures.fault in
    let found = fault_some (rule_meanings given) text c.in-Err.fault (sym c.ran_out.ensures ∙ c.if-ran_out.false) told in
    (fails found.0, names_expanded given text (fails found.0) some found.1, refl)
