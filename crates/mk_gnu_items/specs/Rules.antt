-- What a rule of a GNU makefile says, as items of the wide profile.
use Rattle.std.specs.Prelude.{ℕ, ◌||◌, if◌then◌else◌, Bool, true, false, not, List, [], ◌∷◌, ◌++◌, map, Option, Some, None, is_some, Result, Ok, Err, bytes_eq, codes}
use Rattle.std.specs.List.{list_any}
use Rattle.mk_eval.specs.Static.{has_percent}
use Rattle.mk_lines.specs.Text.{is_empty}
use Rattle.mk_profile.specs.declared.profile.Profile.TheVariants.{Posix}
use Rattle.mk_reader.specs.Special.{special_name, is_refused}
use Rattle.mk_reader.specs.declared.fault.Feature.TheVariants.{GroupedTargets, SpecialName}
use Rattle.mk_reader.specs.declared.fault.StaticCause.TheVariants.{Mixed, Mismatch}
use Rattle.mk_reader.specs.declared.item.Item as reader_item
use Rattle.mk_reader.specs.declared.item.Item.TheVariants as item
use Rattle.mk_reader.specs.declared.item.Rule as reader_rule
use Rattle.mk_reader.specs.declared.special.SpecialName as special
use Rattle.mk_short_names.specs.Short.{begins_here, short_name}
use Rattle.mk_target_lines.specs.Names as spelled_names
use Rattle.mk_target_lines.specs.Rule.{Rule, form_of}
use Rattle.mk_words.specs.Patterns.{stem_of}
use Rattle.mk_gnu_items.specs.Names.{or_next, odd_cause, percent_cause, spelled, prerequisites_text}
use Rattle.mk_gnu_items.specs.declared.fault.Cause.{Cause}
use Rattle.mk_gnu_items.specs.declared.fault.Cause.TheVariants.{Unsupported, Static}
use Rattle.mk_gnu_items.specs.declared.fault.Refusal.{Refusal}
use Rattle.mk_gnu_items.specs.declared.names.Names.{Names}

abbrev pub Outcome : Type 0
Outcome = Result (List reader_item.Item) Refusal

-- what is told one behind the other; of two refusals the first counts
abbrev pub joined : Outcome → Outcome → Outcome
joined (Err why) more = Err why
joined (Ok items) (Err why) = Err why
joined (Ok items) (Ok more) = Ok (items ++ more)

-- a line is refused for this
abbrev pub refusal : reader_rule.Rule → Cause → Refusal
refusal rule why = record { file = rule.file; line = rule.line; cause = why }

abbrev pub refused_or : reader_rule.Rule → Option Cause → Outcome → Outcome
refused_or rule (Some why) told = Err (refusal rule why)
refused_or rule None told = told

-- names lose a `./` in front (GNU make 4.3)
abbrev pub short_names : Rule → Names
short_names it = record {
  targets = map short_name it.targets;
  prerequisites = map short_name (spelled_names.prerequisites it.prerequisites).0;
  order_only = map short_name (spelled_names.prerequisites it.prerequisites).1;
}

-- the rule with these names for its texts
abbrev pub with_names : reader_rule.Rule → Names → reader_rule.Rule
with_names rule names = record rule { targets = spelled names.targets; prerequisites = prerequisites_text names }

-- a rule that is neither a static pattern rule nor a special one
abbrev pub plain_items : reader_rule.Rule → Names → Outcome
plain_items rule names = refused_or rule (or_next (odd_cause names) (percent_cause names)) (Ok (item.Rule (with_names rule names) ∷ []))

-- the first special name among targets
abbrev pub special_in : (targets : List (List ℕ)) → Option special.SpecialName
special_in [] = None
special_in (target ∷ more) = or_next (special_name Posix target) (special_in more)

abbrev pub is_one : List (List ℕ) → Bool
is_one [] = false
is_one (name ∷ []) = true
is_one (name ∷ other ∷ more) = false

-- a special name stands alone, in a rule that is no static one and has no order-only prerequisites (own: GNU make takes it beside other targets)
abbrev pub is_plain_special : (is_static : Bool) → Names → Bool
is_plain_special true names = false
is_plain_special false names = if is_one names.targets then is_empty names.order_only else false

-- a rule of a special name
abbrev pub special_items : reader_rule.Rule → special.SpecialName → (is_static : Bool) → Names → Outcome
special_items rule name is_static names =
    if is_refused Posix name || not (is_plain_special is_static names) then Err (refusal rule (Unsupported (SpecialName name)))
    else refused_or rule (odd_cause names) (Ok (item.Special (record { name = name; rule = with_names rule names }) ∷ []))

-- the stem stands for the first `%` of a name that no backslash quotes; a name without one stays as it is (GNU make manual, "Static Usage")
abbrev pub with_stem_at : (stem name : List ℕ) → spelled_names.Form → List ℕ
with_stem_at stem name (front, None) = name
with_stem_at stem name (front, Some behind) = front ++ stem ++ behind

abbrev pub with_stem : (stem name : List ℕ) → List ℕ
with_stem stem name = with_stem_at stem name (form_of name)

-- the names of the rule for one target
abbrev pub target_names : (target stem : List ℕ) → Names → Names
target_names target stem names = record {
  targets = target ∷ [];
  prerequisites = map (with_stem stem) names.prerequisites;
  order_only = map (with_stem stem) names.order_only;
}

-- a target pattern loses a `./` in front too, of which nothing may be left before its `%`
abbrev pub or_nothing : (name : List ℕ) → List ℕ
or_nothing name = if bytes_eq name (codes "./") then [] else name

abbrev pub short_front : (front : List ℕ) → List ℕ
short_front front = if begins_here front then or_nothing (short_name front) else front

-- the rule for a target by what its pattern's `%` stands for (own: where the target doesn't fit, GNU make warns, and takes no prerequisites)
abbrev pub stem_items : reader_rule.Rule → Names → (target : List ℕ) → (stem : Option (List ℕ)) → Outcome
stem_items rule names target None = Err (refusal rule (Static (Mismatch target)))
stem_items rule names target (Some stem) =
    refused_or rule (odd_cause (target_names target stem names)) (Ok (item.Rule (with_names rule (target_names target stem names)) ∷ []))

abbrev pub target_items : reader_rule.Rule → (pattern : List ℕ × List ℕ) → Names → (target : List ℕ) → Outcome
target_items rule pattern names target = stem_items rule names target (stem_of (short_front pattern.0) pattern.1 target)

abbrev pub each_target : reader_rule.Rule → (pattern : List ℕ × List ℕ) → Names → (targets : List (List ℕ)) → Outcome
each_target rule pattern names [] = Ok []
each_target rule pattern names (target ∷ more) = joined (target_items rule pattern names target) (each_target rule pattern names more)

-- a static pattern rule is a rule for each of its targets (GNU make manual, "Static Usage"), of which none has a `%` (own)
abbrev pub static_items : reader_rule.Rule → (pattern : List ℕ × List ℕ) → Names → Outcome
static_items rule pattern names =
    if list_any has_percent names.targets then Err (refusal rule (Static Mixed)) else each_target rule pattern names names.targets

abbrev pub kind_items : Option special.SpecialName → reader_rule.Rule → (pattern : Option (List ℕ × List ℕ)) → Names → Outcome
kind_items (Some name) rule pattern names = special_items rule name (is_some pattern) names
kind_items None rule None names = plain_items rule names
kind_items None rule (Some pattern) names = static_items rule pattern names

-- what a rule says; the first of these has its file, line and recipe
abbrev pub rule_items : reader_rule.Rule → Rule → Outcome
rule_items rule it =
    if it.is_grouped then Err (refusal rule (Unsupported GroupedTargets))
    else kind_items (special_in (short_names it).targets) rule it.pattern (short_names it)
