-- A report read name by name, which the private functions do. `Report` says what it comes to.
use Rattle.std.specs.Prelude.{◌≡◌, ℕ, ◌<◌, ◌≤◌, Bool, true, false, nat_lt, List, [], ◌∷◌, ◌++◌, length, if◌then◌else◌}
use Rattle.std.specs.List.{list_any}
use Rattle.st_records.specs.declared.limits.TheConstants.{MAX_NAME_BYTES, MAX_HIDDEN_NAMES}
use Rattle.mk_recipe.specs.declared.report.ReportFault.{ReportFault}
use Rattle.mk_recipe.specs.declared.report.ReportFault.TheVariants.{OutOfMemory, NotText, TooLong, TooMany}
use Rattle.mk_recipe.specs.Report.{has}

-- the names once this one is added: a new one comes last
abbrev pub added : (names : List (List ℕ)) (name : List ℕ) → List (List ℕ)
added names name = if has name names then names else names ++ name ∷ []

-- the names that weren't seen before, each at its first mention
abbrev pub new_names : (seen names : List (List ℕ)) → List (List ℕ)
new_names seen [] = []
new_names seen (name ∷ names) = if has name seen then new_names seen names else name ∷ new_names (seen ++ name ∷ []) names

-- the name is longer than a name may be
abbrev pub is_long : (name : List ℕ) → Bool
is_long name = nat_lt MAX_NAME_BYTES (length name)

abbrev pub any_long : (names : List (List ℕ)) → Bool
any_long names = list_any is_long names

-- these names were read, whatever follows: those that were seen and are hidden then, and whether one was left out since
-- there were as many as may be
pub record Reads (names seen hidden seen_then hidden_then : List (List ℕ)) (left_out : Bool) : Type 0 where
  pub short : (rest : List (List ℕ)) → any_long (new_names seen_then rest) ≡ any_long (new_names seen (names ++ rest))
  pub all : left_out ≡ false → (rest : List (List ℕ)) → hidden_then ++ new_names seen_then rest ≡ hidden ++ new_names seen (names ++ rest)
  pub more : left_out ≡ true → (rest : List (List ℕ)) → MAX_HIDDEN_NAMES < length (hidden ++ new_names seen (names ++ rest))
  pub within : length hidden ≤ MAX_HIDDEN_NAMES → length hidden_then ≤ MAX_HIDDEN_NAMES

-- one of these names can't be read, whatever follows: it is too long
abbrev pub Stops : (names seen : List (List ℕ)) → ReportFault → Type 0
Stops names seen OutOfMemory = Unit {0}
Stops names seen NotText = ⊥
Stops names seen TooLong = (rest : List (List ℕ)) → any_long (new_names seen (names ++ rest)) ≡ true
Stops names seen TooMany = ⊥
