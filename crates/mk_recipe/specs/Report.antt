-- What a report says of a target: the files that its commands read (own: a compiler's list of dependencies, as GCC's
-- -MD and cc's -xM write it).
use Rattle.std.specs.Prelude.{◌≡◌, ℕ, ◌+◌, ◌<◌, ◌≤◌, Bool, true, false, not, ◌&&◌, ◌==◌, List, [], ◌∷◌, take, drop, length, map, filter, Option, Some, None, option_map, Any, bytes_eq, if◌then◌else◌}
use Rattle.std.specs.List.{list_any, flat_map}
use Rattle.byte_strings.specs.Blanks.{is_blank, words}
use Rattle.mk_profile.specs.declared.profile.Profile.{Profile}
use Rattle.mk_lines.specs.Text.{is_text}
use Rattle.mk_lines.specs.Lines.{joined_lines}
use Rattle.mk_short_names.specs.Short.{name_in}
use Rattle.st_records.specs.declared.limits.TheConstants.{MAX_NAME_BYTES, MAX_HIDDEN_NAMES}
use Rattle.mk_recipe.specs.declared.report.ReportFault.{ReportFault}
use Rattle.mk_recipe.specs.declared.report.ReportFault.TheVariants.{OutOfMemory, NotText, TooLong, TooMany}

-- nothing follows, or a blank
abbrev pub ends_here : List ℕ → Bool
ends_here [] = true
ends_here (b ∷ bs) = is_blank b

-- the place of the first colon that a blank or the end follows
abbrev pub colon_at : (line : List ℕ) → Option ℕ
colon_at [] = None
colon_at (b ∷ bs) = if b == 58 && ends_here bs then Some 0 else option_map (λ n. n + 1) (colon_at bs)

-- the name is among these
abbrev pub has : (name : List ℕ) → List (List ℕ) → Bool
has name names = list_any (bytes_eq name) names

-- the names of a text, as they are read in this profile (in the wide one as GNU make reads the rule lines that such a report is)
abbrev pub names_in : Profile → (text : List ℕ) → List (List ℕ)
names_in profile text = map (name_in profile) (words text)

-- the words are just this one name
abbrev pub is_only : (name : List ℕ) → (ws : List (List ℕ)) → Bool
is_only name [] = false
is_only name (word ∷ []) = bytes_eq name word
is_only name (word ∷ next ∷ more) = false

-- the names that a line says of the target, cut at the colon at this place: none where it is another target's
abbrev pub names_behind : Profile → (target line : List ℕ) → (colon : Option ℕ) → List (List ℕ)
names_behind profile target line None = []
names_behind profile target line (Some at) = if is_only target (names_in profile (take at line)) then names_in profile (drop (at + 1) line) else []

abbrev pub names_on : Profile → (target line : List ℕ) → List (List ℕ)
names_on profile target line = names_behind profile target line (colon_at line)

-- the names that the lines of a report say of the target, in order and as often as they do
abbrev pub mentioned : Profile → (target : List ℕ) → (lines : List (List ℕ)) → List (List ℕ)
mentioned profile target lines = flat_map (names_on profile target) lines

-- each name at its first mention
abbrev pub first_mentions : List (List ℕ) → List (List ℕ)
first_mentions [] = []
first_mentions (name ∷ names) = name ∷ filter (λ other. not (bytes_eq other name)) (first_mentions names)

-- the hidden prerequisites that a report names, in order of first mention: neither the target nor one that is known
unfoldable pub hidden_names : Profile → (report target : List ℕ) → (known : List (List ℕ)) → List (List ℕ)
hidden_names profile report target known =
    filter (λ name. not (has name (target ∷ known))) (first_mentions (mentioned profile target (joined_lines (Some report))))

-- a fault of a report; want of memory is none
abbrev pub HasFault : Profile → (report target : List ℕ) → (known : List (List ℕ)) → ReportFault → Type 0
HasFault profile report target known OutOfMemory = ⊥
HasFault profile report target known NotText = is_text report ≡ false
HasFault profile report target known TooLong = Any (λ name. MAX_NAME_BYTES < length name) (hidden_names profile report target known)
HasFault profile report target known TooMany = MAX_HIDDEN_NAMES < length (hidden_names profile report target known)

-- the order of the faults
abbrev pub rank : ReportFault → ℕ
rank OutOfMemory = 0
rank NotText = 1
rank TooLong = 2
rank TooMany = 3

-- of the faults that a report has this is the first
pub record IsFirstFault (profile : Profile) (report target : List ℕ) (known : List (List ℕ)) (fault : ReportFault) : Type 0 where
  pub there : HasFault profile report target known fault
  pub first : (other : ReportFault) → HasFault profile report target known other → rank fault ≤ rank other

-- the fault of a call that may also want memory, though not to find that a report is no text
abbrev pub IsReportFault : Profile → (report target : List ℕ) → (known : List (List ℕ)) → ReportFault → Type 0
IsReportFault profile report target known OutOfMemory = is_text report ≡ true
IsReportFault profile report target known NotText = IsFirstFault profile report target known NotText
IsReportFault profile report target known TooLong = IsFirstFault profile report target known TooLong
IsReportFault profile report target known TooMany = IsFirstFault profile report target known TooMany

-- the hidden names, of a report that has no fault
pub record AreHidden (profile : Profile) (report target : List ℕ) (known names : List (List ℕ)) : Type 0 where
  pub sound : (fault : ReportFault) → HasFault profile report target known fault → ⊥
  pub names_are : names ≡ hidden_names profile report target known
