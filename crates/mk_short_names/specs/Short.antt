-- Names that begin with `./`: without it they are names of the same files, and GNU make drops it from each name that it reads, in makefiles
-- and of the command line.
use Rattle.std.specs.Prelude.{ℕ, Bool, false, ◌&&◌, ◌==◌, List, [], ◌∷◌, drop, codes, bytes_eq, if◌then◌else◌}
use Rattle.mk_profile.specs.Profile.{is_wide}
use Rattle.mk_profile.specs.declared.profile.Profile.{Profile}

abbrev pub begins_here : (name : List ℕ) → Bool
begins_here [] = false
begins_here (b ∷ []) = false
begins_here (b ∷ c ∷ more) = b == 46 && c == 47

-- what stands behind `./`, without more slashes and more `./`
abbrev pub behind_here : (rest : List ℕ) → List ℕ
behind_here [] = []
behind_here (b ∷ []) = if b == 47 then [] else b ∷ []
behind_here (b ∷ c ∷ more) = if b == 47 then behind_here (c ∷ more) else (if b == 46 && c == 47 then behind_here more else b ∷ c ∷ more)

-- nothing is left of the name of the folder itself, which stays `./`
abbrev pub or_here : List ℕ → List ℕ
or_here [] = codes "./"
or_here (b ∷ bs) = b ∷ bs

abbrev pub short_name : (name : List ℕ) → List ℕ
short_name name = if begins_here name then or_here (behind_here (drop 2 name)) else name

-- a name as it is read in this profile
abbrev pub name_in : Profile → (name : List ℕ) → List ℕ
name_in profile name = if is_wide profile then short_name name else name

-- the name is its own short form
abbrev pub is_short : (name : List ℕ) → Bool
is_short name = bytes_eq (short_name name) name
