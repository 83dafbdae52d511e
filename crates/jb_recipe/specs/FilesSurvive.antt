-- What power cuts leave of the files of a recipe behind its 'done'. The premise is what a file system is to keep: what was synced, and
-- not written since, stands as it was. Own.
use Rattle.std.specs.Prelude.{◌≡◌, ℕ, Bool, true, false, cond, List, [], ◌∷◌, ◌++◌, Option}
use Rattle.std.specs.List.{AllByRecursion}
use Rattle.std.specs.Str.{bytes_eq}

-- what happens to files. Lists of steps have the latest one first
pub data Step : Type 0 where
  -- somebody writes a file, removes it, or gives its name to another one: this stands there now, if anything
  writes : (name : List ℕ) → (content : Option (List ℕ)) → Step
  -- a sync of the file and of its folder has come back
  syncs : (name : List ℕ) → Step
  -- it is recorded that the recipe which makes these files was run to its end
  done : (made : List (List ℕ)) → Step

abbrev pub Either : Bool → (of_it of_another : Type 0) → Type 0
Either true of_it of_another = of_it
Either false of_it of_another = of_another

-- what stands under a name behind these steps, where this stood there at first
abbrev pub holds : (first : List ℕ → Option (List ℕ)) → List Step → (name : List ℕ) → Option (List ℕ)
holds first [] name = first name
holds first (writes n content ∷ before) name = cond (bytes_eq n name) content (holds first before name)
holds first (syncs n ∷ before) name = holds first before name
holds first (done made ∷ before) name = holds first before name

-- what a power cut behind these steps may leave there: anything, where it was written since its last sync
abbrev pub MayStand : (first : List ℕ → Option (List ℕ)) → List Step → (name : List ℕ) → (left : Option (List ℕ)) → Type 0
MayStand first [] name left = Unit {0}
MayStand first (writes n content ∷ before) name left = Either (bytes_eq n name) (Unit {0}) (MayStand first before name left)
MayStand first (syncs n ∷ before) name left = Either (bytes_eq n name) (left ≡ holds first before name) (MayStand first before name left)
MayStand first (done made ∷ before) name left = MayStand first before name left

-- it was synced, and not written since
abbrev pub IsSynced : List Step → (name : List ℕ) → Type 0
IsSynced [] name = ⊥
IsSynced (writes n content ∷ before) name = (bytes_eq n name ≡ false) × IsSynced before name
IsSynced (syncs n ∷ before) name = Either (bytes_eq n name) (Unit {0}) (IsSynced before name)
IsSynced (done made ∷ before) name = IsSynced before name

-- none of these steps writes it
abbrev pub IsUnwritten : List Step → (name : List ℕ) → Type 0
IsUnwritten [] name = Unit {0}
IsUnwritten (writes n content ∷ before) name = (bytes_eq n name ≡ false) × IsUnwritten before name
IsUnwritten (syncs n ∷ before) name = IsUnwritten before name
IsUnwritten (done made ∷ before) name = IsUnwritten before name

-- a 'done' that stands behind the sync of each file that its recipe made is true of them wherever a power cut falls: each has what it
-- had when the recipe ended, unless somebody wrote it since
abbrev pub FilesSurvive : Type 0
FilesSurvive = (first : List ℕ → Option (List ℕ)) (later before : List Step) (made : List (List ℕ)) → AllByRecursion (IsSynced before) made →
    AllByRecursion (λ name. (left : Option (List ℕ)) → IsUnwritten later name → MayStand first (later ++ (done made ∷ before)) name left
    → left ≡ holds first before name) made
