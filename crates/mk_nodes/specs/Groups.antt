-- What the run of an implicit rule for a name makes beside it.
use Rattle.std.specs.Prelude.{ℕ, ℤ, int_lt, not, List, [], ◌∷◌, filter, map, Option, Some, None, if◌then◌else◌}
use Rattle.std.specs.Option.{option_map_or}
use Rattle.mk_makefile.specs.declared.form.Source.{Source}
use Rattle.mk_nodes.specs.Prerequisites.{Inputs, implicit_source}
use Rattle.mk_nodes.specs.declared.file_look.FileLook.{FileLook}
use Rattle.mk_nodes.specs.declared.group.Group.{Group}
use Rattle.mk_nodes.specs.Look.{is_taken_as_old, time_of}

-- the earlier of two times; none where one is missing
abbrev pub earlier : (a b : Option ℤ) → Option ℤ
earlier None b = None
earlier (Some a) None = None
earlier (Some a) (Some b) = if int_lt b a then Some b else Some a

-- the earliest of these times; none where one is missing
abbrev pub earliest : (first : Option ℤ) → (more : List (Option ℤ)) → Option ℤ
earliest first [] = first
earliest first (time ∷ more) = earliest (earlier first time) more

-- the times that count among what these looks tell: those of what is taken as old don't
abbrev pub times_counted : (looks : List (Option FileLook)) → List (Option ℤ)
times_counted looks = map time_of (filter (λ look. not (is_taken_as_old look)) looks)

abbrev pub others_in : Option Source → List (List ℕ)
others_in source = option_map_or (λ s. s.others) source []

-- what is made beside the name, what looks at it tell, and when all of it was made: the earliest time of its files that counts
abbrev pub group_with : (looks : List ℕ → Option FileLook) → (name : List ℕ) → (others : List (List ℕ)) → Option Group
group_with looks name [] = None
group_with looks name (other ∷ others) =
    let behind = map looks (other ∷ others) in
    Some (record { made = earliest (time_of (looks name)) (times_counted behind); others = other ∷ others; looks = behind })

abbrev pub group_of : Inputs → (name : List ℕ) → Option Group
group_of inputs name = group_with inputs.looks name (others_in (implicit_source inputs name))

-- when what a recipe for the name makes was made: none where a file of it is missing (own: GNU make looks at the name that it comes to)
abbrev pub made_time : Inputs → (name : List ℕ) → Option ℤ
made_time inputs name = option_map_or (λ g. g.made) (group_of inputs name) (time_of (inputs.looks name))

-- what the recipe makes beside the name
abbrev pub made_beside : Inputs → (name : List ℕ) → List (List ℕ)
made_beside inputs name = option_map_or (λ g. g.others) (group_of inputs name) []
