-- Comments, and what a line holds without them.
use Rattle.std.specs.Prelude.{◌≡◌, ◌⊎◌, ℕ, Bool, true, false, ◌||◌, ◌==◌, List, [], ◌∷◌, ◌++◌, flat_map}
use Rattle.mk_profile.specs.Profile.{is_wide}
use Rattle.mk_profile.specs.declared.profile.Profile.{Profile}
use Rattle.mk_lines.specs.Text.{is_empty, begins_with}
use Rattle.mk_lines.specs.References.{Lacks}
use Rattle.mk_lines.specs.Semicolon.{OpensRecipe}

-- a comment reaches from its `#` to the end, and may hold any bytes
abbrev pub IsComment : (comment : List ℕ) → Type 0
IsComment comment = (is_empty comment || begins_with 35 comment) ≡ true

-- what a line of the wide profile is made of before its comment: bytes, backslashes with the byte that follows, and `\#`,
-- which stands for `#` (GNU make, "What Makefiles Contain"; that two backslashes stay two: bmake)
pub data Written : Type 0 where
  byte : ℕ → Written
  backslash_and : ℕ → Written
  hash : Written

abbrev pub written_as : Written → List ℕ
written_as (byte b) = b ∷ []
written_as (backslash_and b) = 92 ∷ b ∷ []
written_as hash = 92 ∷ 35 ∷ []

abbrev pub stands_for : Written → List ℕ
stands_for (byte b) = b ∷ []
stands_for (backslash_and b) = 92 ∷ b ∷ []
stands_for hash = 35 ∷ []

abbrev pub IsWritten : Written → Type 0
IsWritten (byte b) = (b == 35 || b == 92) ≡ false
IsWritten (backslash_and b) = (b == 35) ≡ false
IsWritten hash = Unit {0}

abbrev pub AreWritten : List Written → Type 0
AreWritten [] = Unit {0}
AreWritten (one ∷ more) = IsWritten one × AreWritten more

-- at the end of the text a backslash may stand alone
abbrev pub IsLastOf : (last comment : List ℕ) → Type 0
IsLastOf last comment = (last ≡ []) ⊎ ((last ≡ 92 ∷ []) × (comment ≡ []))

-- what a line holds without its comment; in the strict profile the first `#` begins that
abbrev pub ContentIn : (wide : Bool) → (text content : List ℕ) → Type 0
ContentIn false text content = (comment : List ℕ) × (text ≡ content ++ comment) × Lacks 35 content × IsComment comment
ContentIn true text content =
    (parts : List Written) × (last : List ℕ) × (comment : List ℕ) × (text ≡ flat_map written_as parts ++ (last ++ comment))
    × (content ≡ flat_map stands_for parts ++ last) × AreWritten parts × IsLastOf last comment × IsComment comment

-- in the wide profile a line that opens a recipe has no comment
abbrev pub HasContent : Profile → (text content : List ℕ) → Type 0
HasContent profile text content =
    ((is_wide profile ≡ true) × OpensRecipe text × (content ≡ text))
    ⊎ ((is_wide profile ≡ true → OpensRecipe text → ⊥) × ContentIn (is_wide profile) text content)
