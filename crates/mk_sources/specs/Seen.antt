-- What is found of a name but its hidden prerequisites.
use Rattle.std.specs.Prelude.{◌≡◌, ℕ, List, [], ◌++◌, length, Option, option_map, unwrap_or}
use Rattle.std.specs.Global.{Box}
use Rattle.std.specs.Option.{option_map_or}
use Rattle.mk_names.specs.Names.{all_added}
use Rattle.mk_rule_lines.specs.Explicit.{numbers_of, explicit_of, order_only_of}
use Rattle.mk_makefile.specs.declared.form.Source.{Source}
use Rattle.mk_nodes.specs.Prerequisites.{Inputs, implicit_source, own_recipes, left_recipe, first_or, rule_or, made_from, behind_bar_of, distinct}
use Rattle.mk_nodes.specs.Groups.{others_in, group_with}
use Rattle.mk_nodes.specs.Rare.{no_parts}
use Rattle.mk_sources.specs.declared.known.Given.{Given}
use Rattle.mk_sources.specs.declared.known.Ruled.{Ruled}
use Rattle.mk_sources.specs.declared.known.Seen.{Seen}
use Rattle.mk_nodes.specs.declared.rare.Rare.{Rare}

-- what an implicit rule makes a name from
abbrev pub made_in : Option (Box Given) → List (List ℕ)
made_in given = option_map_or (λ g. g.value.made) given []

abbrev pub order_only_in : Option (Box Given) → List (List ℕ)
order_only_in given = option_map_or (λ g. g.value.order_only) given []

abbrev pub rare_in : Option (Box Given) → Rare
rare_in given = option_map_or (λ g. g.value.rare) given no_parts

-- what a name has of an implicit rule by this source, and its order-only prerequisites
pub record IsGiven (inputs : Inputs) (name : List ℕ) (source : Option Source) (made order_only : List (List ℕ)) (rare : Rare) : Type 0 where
  pub made_are : made ≡ made_from source
  pub order_only_are : order_only ≡ behind_bar_of source ++ order_only_of inputs.lines name
  pub stem : rare.stem ≡ option_map (λ s. s.stem) source
  pub implied : rare.implied ≡ length (distinct (made_from source))
  pub group : option_map (λ g. g.value) rare.group ≡ group_with inputs.looks name (others_in source)
  pub required : unwrap_or (option_map (λ names. names.value) rare.required) (distinct (made_from source ++ explicit_of inputs.lines name))
      ≡ all_added (distinct (made_from source ++ explicit_of inputs.lines name)) (behind_bar_of source ++ order_only_of inputs.lines name)

-- what rules say of a name with this source, where lines of these numbers have recipes for it, or else the line that is left
pub record IsRuled (inputs : Inputs) (name : List ℕ) (source : Option Source) (own : List ℕ) (left : Option ℕ) (ruled : Ruled) : Type 0 where
  pub recipe : ruled.recipe ≡ first_or own (rule_or source left)
  pub given : IsGiven inputs name source (made_in ruled.given) (order_only_in ruled.given) (rare_in ruled.given)

-- what the inputs' rules say of a name, where this line is left for what nothing else makes
abbrev pub IsRuledIn : (inputs : Inputs) (name : List ℕ) (left : Option ℕ) (ruled : Ruled) → Type 0
IsRuledIn inputs name left ruled = IsRuled inputs name (implicit_source inputs name) (own_recipes inputs.lines name) left ruled

-- what is found of a name is what the inputs say of it
pub record IsSeen (inputs : Inputs) (name : List ℕ) (seen : Seen) : Type 0 where
  pub lines_are : seen.lines.now ≡ numbers_of inputs.lines name
  pub stamp : seen.stamp ≡ inputs.looks name
  pub ruled : IsRuledIn inputs name (left_recipe inputs name) seen.ruled
