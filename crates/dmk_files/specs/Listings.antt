-- What is known of folders.
use Rattle.std.specs.Prelude.{◌≡◌, ℕ, List, Option, Some, IfSome, bytes_eq, if◌then◌else◌}
use Rattle.indexmap.specs.IndexMap.{get_by}
use Rattle.dmk_files.specs.declared.listings.Listings.{Listings}

-- what was read of a folder: nothing, that it can't be read, or its names
abbrev pub known_names : Listings → (folder : List ℕ) → Option (Option (List (List ℕ)))
known_names listings folder = get_by (λ k. bytes_eq folder k.items) listings.known

-- behind a call the folder is known by this, and each other one as before
abbrev pub Adds : (folder : List ℕ) (names : Option (List (List ℕ))) (before after : Listings) → Type 0
Adds folder names before after = (f : List ℕ) → known_names after f ≡ (if bytes_eq f folder then Some names else known_names before f)

abbrev pub KnowsTheSame : (before after : Listings) → Type 0
KnowsTheSame before after = after.known.entries ≡ before.known.entries

-- what is known is what these folders hold
abbrev pub AgreeIn : Listings → (folders : List ℕ → Option (List (List ℕ))) → Type 0
AgreeIn listings folders = (folder : List ℕ) → IfSome (known_names listings folder) (λ names. folders folder ≡ names)
