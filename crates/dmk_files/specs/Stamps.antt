-- The looks at files that are known so far.
use Rattle.std.specs.Prelude.{◌≡◌, ℕ, List, [], ◌∷◌, length, Option, Some, None, IfSome, bytes_eq, if◌then◌else◌}
use Rattle.std.specs.List.{IsDistinct}
use Rattle.mk_names.specs.Names.{all_added}
use Rattle.mk_nodes.specs.declared.file_look.FileLook.{FileLook}

-- names that are found, names that were listed since, and what was told of each by its number, where something was
pub record Known : Type 0 where
  pub found : List (List ℕ)
  pub listed : List (List ℕ)
  pub told : List (Option (Option FileLook))

-- the names by their numbers: those that are found, and then the others as they were listed
abbrev pub names_of : Known → List (List ℕ)
names_of known = all_added known.found known.listed

-- no name is found at two numbers, and each name has its place in what was told
pub record IsTable (found listed : List (List ℕ)) (told : List (Option (Option FileLook))) : Type 0 where
  pub once : IsDistinct bytes_eq found
  pub as_many : length told ≡ length (all_added found listed)

-- what was told of a name, where something was: it stands in the order of the names
abbrev pub told_of : (names : List (List ℕ)) (told : List (Option (Option FileLook))) (name : List ℕ) → Option (Option FileLook)
told_of [] told name = None
told_of (n ∷ names) [] name = None
told_of (n ∷ names) (one ∷ told) name = if bytes_eq name n then one else told_of names told name

-- what is known of a name: nothing, that it has no file, or what a look at it told
abbrev pub known_stamp : Known → (name : List ℕ) → Option (Option FileLook)
known_stamp known name = told_of (names_of known) known.told name

-- behind a call the name is known by this, and each other one as before
abbrev pub Adds : (name : List ℕ) (stamp : Option FileLook) (before after : Known) → Type 0
Adds name stamp before after =
    (n : List ℕ) → known_stamp after n ≡ (if bytes_eq n name then Some stamp else known_stamp before n)

-- behind a call each name is known as before
abbrev pub KnowsTheSame : (before after : Known) → Type 0
KnowsTheSame before after = (n : List ℕ) → known_stamp after n ≡ known_stamp before n

-- what is known is what these looks tell
abbrev pub AgreesWith : Known → (looks : List ℕ → Option FileLook) → Type 0
AgreesWith known looks = (name : List ℕ) → IfSome (known_stamp known name) (λ stamp. looks name ≡ stamp)

-- what is known of each name was said of that very name
abbrev pub IsSaid : (says : List ℕ → Option FileLook → Type 0) → Known → Type 0
IsSaid says known = (name : List ℕ) → IfSome (known_stamp known name) (says name)
