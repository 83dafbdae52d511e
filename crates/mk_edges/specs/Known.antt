-- What is found of a name while names are numbered.
use Rattle.std.specs.Prelude.{◌≡◌, ℕ, Bool, List, length, map, drop, Option, option_map, unwrap_or}
use Rattle.mk_nodes.specs.Prerequisites.{Inputs, implicit_source, made_from, distinct, recipe_of, hard_of, judged_of, is_node, required_of}
use Rattle.mk_nodes.specs.Groups.{group_of}
use Rattle.mk_nodes.specs.Node.{hidden_marks}
use Rattle.mk_nodes.specs.declared.graph.Node.{Node}

-- of the names as they are judged, behind the first so many, which are nodes
abbrev pub nodes_among : (inputs : Inputs) (hard : ℕ) (judged : List (List ℕ)) → List Bool
nodes_among inputs hard judged = map (is_node inputs) (drop hard judged)

-- the names that are listed of what a name can't be made without
abbrev pub listed_in : Node → Option (List (List ℕ))
listed_in known = option_map (λ names. names.value) known.rare.required

-- what a name with these hard prerequisites can't be made without: these, where no names are listed
abbrev pub required_by : Node → (hard : List (List ℕ)) → List (List ℕ)
required_by known hard = unwrap_or (listed_in known) hard

-- what is found of a name is what the inputs say of it
pub record IsKnown (inputs : Inputs) (name : List ℕ) (known : Node) : Type 0 where
  pub stamp : known.stamp ≡ inputs.looks name
  pub stem : known.rare.stem ≡ option_map (λ s. s.stem) (implicit_source inputs name)
  pub implied : known.rare.implied ≡ length (distinct (made_from (implicit_source inputs name)))
  pub recipe : known.recipe ≡ recipe_of inputs name
  pub group : option_map (λ g. g.value) known.rare.group ≡ group_of inputs name
  pub hard : known.hard ≡ length (hard_of inputs name)
  pub required : required_by known (hard_of inputs name) ≡ required_of inputs name
  pub hidden : hidden_marks known ≡ nodes_among inputs known.hard (judged_of inputs name)
