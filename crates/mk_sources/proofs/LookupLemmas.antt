-- What is looked up of a name, in terms of the inputs.
use Rattle.std.proofs.Common.{◌≡◌, ℕ, Bool, true, false, not, cond, List, [], ◌∷◌, Option, Some, None, refl, sym, ap, ◌∙◌, arith}
use Rattle.std.specs.Prelude.{◌&&◌, ◌||◌, is_some, option_to_list}
use Rattle.std.specs.List.{list_any}
use Rattle.std.specs.Option.{option_or}
use Rattle.std.specs.Str.{is_utf8}
use Rattle.mk_lines.specs.Text.{is_empty}
use Rattle.st_records.specs.declared.record.Entry.{Entry}
use Rattle.mk_rule_lines.specs.Explicit.{explicit_targets, makes_phony, is_phony}
use Rattle.mk_makefile.specs.Forms.{forms_of}
use Rattle.mk_nodes.specs.Prerequisites as inputs
use Rattle.mk_rule_lines.specs.Rules.{has, places, targets_by, suffixes_of}
use Rattle.mk_makefile.specs.Table as table
use Rattle.mk_sources.specs.There as sources
use Rattle.mk_makefile.specs.declared.form.Form.{Form}
use Rattle.mk_makefile.specs.declared.form.Source.{Source}
use Rattle.mk_rule_lines.specs.declared.rule_line.RuleLine.{RuleLine}
use Rattle.mk_makefile.specs.declared.table.TargetTable.{TargetTable}
use Rattle.mk_nodes.specs.Chain.{source_in, steps_of}
use Rattle.mk_nodes.specs.declared.limits.TheConstants.{MAX_STEPS}
use Rattle.mk_nodes.specs.Wanted.{from_wanted}
use Rattle.mk_sources.proofs.RuleLemmas.{any_place}
use Rattle.mk_nodes.specs.declared.file_look.FileLook.{FileLook}

-- a test has one answer
pub one_answer : {A : Type 0} (b : Bool) → b ≡ true → b ≡ false → A
one_answer b is isnt = cc

-- chains have steps in the wide profile alone
pub no_steps : (wide : Bool) (steps : ℕ) → steps ≡ cond wide MAX_STEPS 0 → steps ≡ 0 → wide ≡ false
no_steps true steps is none = let five : MAX_STEPS ≡ 5 = refl in absurd (omega (arith, is, none, five))
no_steps false steps is none = refl

pub some_steps : (wide : Bool) (steps : ℕ) → steps ≡ cond wide MAX_STEPS 0 → (steps ≡ 0 → ⊥) → wide ≡ true
some_steps true steps is some = refl
some_steps false steps is some = absurd (some is)

-- a table without a recipe for a name
pub no_own : (recipe : Option ℕ) → is_some recipe ≡ false → option_to_list recipe ≡ []
no_own None none = refl
no_own (Some n) none = cc

module _ (p q : RuleLine → Bool) where
  first_at : (l : RuleLine) (lines : List RuleLine) (t : Bool) → p l ≡ t → (list_any (λ l. p l && q l) lines ≡ true → list_any p lines ≡ true) →
      ((t && q l) || list_any (λ l. p l && q l) lines) ≡ true → list_any p (l ∷ lines) ≡ true
  first_at l lines true is more e = simp is refl
  first_at l lines false is more e = simp is (more e)

  -- where something passes both tests, something passes the first
  first_passes : (lines : List RuleLine) → list_any (λ l. p l && q l) lines ≡ true → list_any p lines ≡ true
  first_passes [] e = cc
  first_passes (l ∷ lines) e = first_at l lines (p l) refl (first_passes lines) e

-- a phony name is a target
phony_target : (lines : List RuleLine) (name : List ℕ) → is_phony lines name ≡ true → inputs.is_target lines name ≡ true
phony_target lines name e = first_passes (λ l. has name (explicit_targets lines l)) makes_phony lines e

-- so it is there, whatever its time
there_whatever : (target phony : Bool) (time : Option FileLook) → (phony ≡ true → target ≡ true) → (target || is_some time) ≡ (target || is_some (cond phony None time))
there_whatever true phony time there = refl
there_whatever false true time there = let is = there refl in cc
there_whatever false false time there = refl

module _ (lines : List RuleLine) (targets : TargetTable)
    (named : (name : List ℕ) → (table.named_at targets name).lines ≡ places (λ l. has name (targets_by false (suffixes_of lines) l)) 0 lines)
    (entries : (name : List ℕ) → Option Entry) (looks : List ℕ → Option FileLook) where
  there_at : (name : List ℕ) → sources.is_there targets looks name ≡ inputs.is_there (inputs.inputs_of lines entries looks) name
  there_at name =
      ap (λ (ns : List ℕ). not (is_empty ns) || is_some (looks name)) (named name)
      ∙ ap (λ (t : Bool). t || is_some (looks name)) (any_place (λ (l : RuleLine). has name (explicit_targets lines l)) 0 lines)
      ∙ there_whatever (inputs.is_target lines name) (is_phony lines name) (looks name) (phony_target lines name)

  -- the table says of each name what the lines say
  pub same_there : sources.is_there targets looks ≡ inputs.is_there (inputs.inputs_of lines entries looks)
  same_there = λ i name. there_at name i

  -- a name that is text and that the lines may have is a node where it is there
  pub node_there : (name : List ℕ) → is_utf8 name ≡ true → inputs.is_read lines name ≡ true
      → sources.is_there targets looks name ≡ inputs.is_node (inputs.inputs_of lines entries looks) name
  node_there name text read =
      there_at name
      ∙ sym (ap (λ (t : Bool). t && inputs.is_there (inputs.inputs_of lines entries looks) name) read)
      ∙ sym (ap (λ (t : Bool). t && (inputs.is_read lines name && inputs.is_there (inputs.inputs_of lines entries looks) name)) text)

  -- where the name isn't phony, and no line has a recipe for it
  pub found_is : (forms : List Form) (steps : ℕ) (name : List ℕ) (recipe : Option ℕ) (found : Option Source) → forms ≡ forms_of (suffixes_of lines) lines → steps ≡ steps_of lines →
      option_to_list recipe ≡ inputs.own_recipes lines name → is_some recipe ≡ false → is_phony lines name ≡ false →
      found ≡ option_or (source_in (sources.is_there targets looks) forms steps name) (from_wanted (inputs.is_target lines) lines forms name) →
      found ≡ inputs.found_source (inputs.inputs_of lines entries looks) name
  found_is forms steps name recipe found all few own none no_phony is =
      let there = inputs.is_there (inputs.inputs_of lines entries looks) in
      let wanted : List Form → Option Source = λ fs. from_wanted (inputs.is_target lines) lines fs name in
      let all_forms = forms_of (suffixes_of lines) lines in
      let source = option_or (source_in there all_forms (steps_of lines) name) (wanted all_forms) in
      is ∙ ap (λ (f : List ℕ → Bool). option_or (source_in f forms steps name) (wanted forms)) same_there
      ∙ ap (λ (fs : List Form). option_or (source_in there fs steps name) (wanted fs)) all
      ∙ ap (λ (n : ℕ). option_or (source_in there all_forms n name) (wanted all_forms)) few
      ∙ ap (λ (ns : List ℕ). inputs.unless_any ns source) (sym (no_own recipe none) ∙ own)
      ∙ ap (λ (t : Bool). cond t None (inputs.unless_any (inputs.own_recipes lines name) source)) (sym no_phony)
