-- What the items say of state is what their lines say.
use Rattle.std.proofs.Common.{◌≡◌, ◌||◌, List, Some, refl, ap, ◌∙◌}
use Rattle.mk_profile.specs.declared.profile.Profile.{Profile}
use Rattle.mk_profile.specs.declared.profile.Profile.TheVariants.{Strict, Posix}
use Rattle.std.specs.List.{list_any}
use Rattle.mk_reader.specs.declared.item.Item.{Item}
use Rattle.mk_settings.specs.Goals.{is_keep_state}
use Rattle.mk_rule_lines.specs.Rules.{has_special}
use Rattle.mk_macros.specs.Ranks.{Defined}
use Rattle.mk_makefile.specs.InForce.{AreInForce, AreLinesInForce}
use Rattle.mk_makefile.proofs.InForceLemmas.{special_left}
use Rattle.mk_rule_lines.specs.Lines.{AreRuleLines, no_items, behind_definition, a_rule, a_special}
use Rattle.mk_rule_lines.specs.Rules.{suffixes_of}
use Rattle.mk_rule_lines.specs.declared.rule_line.RuleLine.{RuleLine}
use Rattle.dmk_reading.specs.Keeping.{is_keep_item}

keep_items : (ranks : Defined) (items : List Item) (lines : List RuleLine) → AreRuleLines ranks items lines →
    has_special is_keep_state lines ≡ list_any is_keep_item items
keep_items ranks _ _ no_items = refl
keep_items ranks _ _ (behind_definition more) = keep_items _ _ _ more
keep_items ranks _ _ (a_rule {l = l} {lines = lines} line more) =
    ap (λ s. is_keep_state s || has_special is_keep_state lines) line.name ∙ keep_items _ _ _ more
keep_items ranks _ _ (a_special {name = name} {lines = lines} line more) =
    ap (λ s. is_keep_state s || has_special is_keep_state lines) line.name ∙ ap (λ b. is_keep_state (Some name) || b) (keep_items _ _ _ more)

keep_in_force : (profile : Profile) (lines left : List RuleLine) → AreInForce profile lines left → has_special is_keep_state left ≡ has_special is_keep_state lines
keep_in_force Strict lines left same = ap (has_special is_keep_state) same
keep_in_force Posix lines left are = special_left is_keep_state refl (suffixes_of lines) lines left are

-- nor do lines that are taken away change it
pub keep_lines : (ranks : Defined) (items : List Item) (lines : List RuleLine) → AreLinesInForce ranks items lines →
    has_special is_keep_state lines ≡ list_any is_keep_item items
keep_lines ranks items lines all = keep_in_force ranks.language all.lines lines all.in_force ∙ keep_items ranks items all.lines all.are
