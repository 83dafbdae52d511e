-- A line comes to one thing, and to something, where expansions do.
use Rattle.std.proofs.Common.{◌≡◌, ℕ, zero, suc, Bool, List, [], ◌∷◌, ◌++◌, length, refl, sym, ap, ◌∙◌, subst, Option, Some, None, is_some, Ok, Err}
use Rattle.mk_functions.specs.Variables.{Variables}
use Rattle.mk_functions.specs.Outcome.{Outcome, gives, fails}
use Rattle.mk_functions.specs.Values.{Answers}
use Rattle.mk_functions.specs.Expansion.{ExpandsTo}
use Rattle.mk_words.specs.Words.{behind_spaces}
use Rattle.mk_target_lines.specs.Comes.{Told, comes, refused, has_no_value, without_colon, rule_with, Says, AtTargets, AtParted, Comes}
use Rattle.mk_target_lines.specs.Cut.{Cut, cut, unquoted}
use Rattle.mk_target_lines.specs.Names.{names_of}
use Rattle.mk_target_lines.specs.Parts.{Line, Parted, ended, colon, meets, Step, goes_on, stops, at_colon, with_rest, recipe_cut, AtRecipe, AtValue, AtWord, Then, Parts}
use Rattle.mk_target_lines.specs.Rule.{without_targets, defines_for, Definition, with_recipe, behind_colons, defined}
use Rattle.mk_target_lines.specs.Words.{next_word}
use Rattle.mk_target_lines.specs.declared.mark.Mark.TheVariants.{Byte}

abbrev Once : {A : Type 0} → (A → Type 0) → Type 0
Once {A} P = (a b : A) → P a → P b → a ≡ b

module _ (w : Answers) (variables : Variables) (once : (text : List ℕ) → Once (ExpandsTo w variables text)) where
  module _ (has_recipe : Bool) where
    recipe_once : (names : List ℕ) (value : Cut) (rest : List ℕ) → Once (AtRecipe w variables has_recipe names value rest)
    recipe_once names (front, []) rest a b x y = x ∙ sym y
    recipe_once names (front, c ∷ behind) rest a b x y =
        x.2 ∙ ap (with_rest names (cut (Byte 58) front) behind) (once rest x.0 y.0 x.1 y.1) ∙ sym y.2

    value_once : (names : List ℕ) (value : Outcome) (rest : List ℕ) → Once (AtValue w variables has_recipe names value rest)
    value_once names (gives value) rest a b x y = recipe_once names (recipe_cut has_recipe value) rest a b x y
    value_once names (fails fault) rest a b x y = x ∙ sym y

    word_once : (names : List ℕ) (found : Option (List ℕ × List ℕ)) → Once (AtWord w variables has_recipe names found)
    word_once names None a b x y = x ∙ sym y
    word_once names (Some found) a b x y =
        value_once names y.0 found.1 a b (subst (λ v. AtValue w variables has_recipe names v found.1 a) (once found.0 x.0 y.0 x.1 y.1) x.2) y.2

    then_once : (Further : (names text : List ℕ) → Parted → Type 0) → ((names text : List ℕ) → Once (Further names text)) → (step : Step) →
        Once (Then w variables has_recipe Further step)
    then_once Further further (goes_on names rest) a b x y = further names rest a b x y
    then_once Further further (stops it) a b x y = x ∙ sym y

    parts_once : (size : ℕ) (names text : List ℕ) → Once (Parts w variables has_recipe size names text)
    parts_once zero names text a b x y = x ∙ sym y
    parts_once (suc size) names text a b x y =
        then_once (Parts w variables has_recipe size) (parts_once size) y.0 a b
        (subst (λ step. Then w variables has_recipe (Parts w variables has_recipe size) step a) (word_once names (next_word text) x.0 y.0 x.1 y.1) x.2) y.2

  module _ (recipe : Option (List ℕ)) where
    says_once : (targets : List (List ℕ)) (behind : Bool × List ℕ) (line : Line) (d : Definition) → Once (Says w variables recipe targets behind line d)
    says_once targets behind line (Err fault) a b x y = x ∙ sym y
    says_once targets behind line (Ok (Some d)) a b x y = x ∙ sym y
    says_once targets behind line (Ok None) a b x y =
        x.2 ∙ ap (rule_with targets behind recipe line) (once (unquoted (Byte 61) line.rest) x.0 y.0 x.1 y.1) ∙ sym y.2

    targets_once : (targets : List (List ℕ)) (line : Line) → Once (AtTargets w variables recipe targets line)
    targets_once [] line a b x y = x ∙ sym y
    targets_once (target ∷ more) line a b x y =
        says_once (target ∷ more) (behind_colons line.behind) line (defined ((behind_colons line.behind).1 ++ line.rest)) a b x y

    parted_once : (parted : Parted) → Once (AtParted w variables recipe parted)
    parted_once (ended names) a b x y = x ∙ sym y
    parted_once (colon line) a b x y = targets_once (names_of None line.names).0 line a b x y
    parted_once (meets fault) a b x y = x ∙ sym y

    pub comes_once : (text : List ℕ) → Once (Comes w variables recipe text)
    comes_once text a b x y =
        parted_once y.0 a b (subst (λ p. AtParted w variables recipe p a) (parts_once (is_some recipe) (length text) [] text x.0 y.0 x.1 y.1) x.2) y.2

module _ (w : Answers) (variables : Variables) (some : (text : List ℕ) → (o : Outcome) × ExpandsTo w variables text o) where
  module _ (has_recipe : Bool) where
    recipe_some : (names : List ℕ) (value : Cut) (rest : List ℕ) → (step : Step) × AtRecipe w variables has_recipe names value rest step
    recipe_some names (front, []) rest = (at_colon names (cut (Byte 58) front) rest, refl)
    recipe_some names (front, c ∷ behind) rest =
        let more = some rest in (with_rest names (cut (Byte 58) front) behind more.0, (more.0, more.1, refl))

    value_some : (names : List ℕ) (value : Outcome) (rest : List ℕ) → (step : Step) × AtValue w variables has_recipe names value rest step
    value_some names (gives value) rest = recipe_some names (recipe_cut has_recipe value) rest
    value_some names (fails fault) rest = (stops (meets fault), refl)

    word_some : (names : List ℕ) (found : Option (List ℕ × List ℕ)) → (step : Step) × AtWord w variables has_recipe names found step
    word_some names None = (stops (ended names), refl)
    word_some names (Some found) =
        let value = some found.0 in let step = value_some names value.0 found.1 in (step.0, (value.0, value.1, step.1))

    then_some : (Further : (names text : List ℕ) → Parted → Type 0) → ((names text : List ℕ) → (parted : Parted) × Further names text parted) → (step : Step) →
        (parted : Parted) × Then w variables has_recipe Further step parted
    then_some Further further (goes_on names rest) = further names rest
    then_some Further further (stops it) = (it, refl)

    parts_some : (size : ℕ) (names text : List ℕ) → (parted : Parted) × Parts w variables has_recipe size names text parted
    parts_some zero names text = (ended names, refl)
    parts_some (suc size) names text =
        let step = word_some names (next_word text) in
        let rest = then_some (Parts w variables has_recipe size) (parts_some size) step.0 in
        (rest.0, (step.0, step.1, rest.1))

  module _ (recipe : Option (List ℕ)) where
    says_some : (targets : List (List ℕ)) (behind : Bool × List ℕ) (line : Line) (d : Definition) →
        (told : Told) × Says w variables recipe targets behind line d told
    says_some targets behind line (Err fault) = (refused fault, refl)
    says_some targets behind line (Ok (Some d)) = (comes (defines_for targets d.0 (with_recipe d.1 recipe)), refl)
    says_some targets behind line (Ok None) =
        let more = some (unquoted (Byte 61) line.rest) in (rule_with targets behind recipe line more.0, (more.0, more.1, refl))

    targets_some : (targets : List (List ℕ)) (line : Line) → (told : Told) × AtTargets w variables recipe targets line told
    targets_some [] line = (comes without_targets, refl)
    targets_some (target ∷ more) line =
        says_some (target ∷ more) (behind_colons line.behind) line (defined ((behind_colons line.behind).1 ++ line.rest))

    parted_some : (parted : Parted) → (told : Told) × AtParted w variables recipe parted told
    parted_some (ended names) = (without_colon (behind_spaces names), refl)
    parted_some (colon line) = targets_some (names_of None line.names).0 line
    parted_some (meets fault) = (has_no_value fault, refl)

    pub comes_some : (text : List ℕ) → (told : Told) × Comes w variables recipe text told
    comes_some text =
        let parted = parts_some (is_some recipe) (length text) [] text in
        let told = parted_some parted.0 in
        (told.0, (parted.0, parted.1, told.1))
