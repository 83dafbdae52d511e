-- Where recipes write what they read, as a makefile says by `.DEPFILE`. Own.
use Rattle.std.specs.Prelude.{ℕ, List, map, Option, Some, None}
use Rattle.mk_depfiles.specs.Place.{depfile_of}

-- the files of a target's recipe: nothing is said of any, or one by each pattern that is said of all recipes
abbrev pub places_said : Option (List (List ℕ)) → (target : List ℕ) → Option (List (List ℕ))
places_said None target = None
places_said (Some patterns) target = Some (map (λ pattern. depfile_of pattern target) patterns)
