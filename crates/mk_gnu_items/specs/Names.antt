-- The names of a rule as texts of the wide profile, which are expanded once more and parted at blanks; and which names can't be told so (own).
use Rattle.std.specs.Prelude.{ℕ, ◌==◌, ◌||◌, if◌then◌else◌, Bool, not, List, [], ◌∷◌, ◌++◌, flat_map, Option, Some, None, option_map, bytes_eq, codes}
use Rattle.std.specs.List.{list_any, list_all}
use Rattle.byte_strings.specs.Blanks.{is_blank}
use Rattle.mk_lines.specs.Text.{begins_with}
use Rattle.mk_eval.specs.Static.{doubled, has_percent, quotes_percent}
use Rattle.mk_gnu_eval.specs.Reading.{is_sign}
use Rattle.mk_reader.specs.declared.fault.Feature.TheVariants.{QuotedPercent}
use Rattle.mk_gnu_items.specs.declared.fault.Cause.{Cause}
use Rattle.mk_gnu_items.specs.declared.fault.Cause.TheVariants.{Name, Unsupported}
use Rattle.mk_gnu_items.specs.declared.fault.Oddity.{Oddity}
use Rattle.mk_gnu_items.specs.declared.fault.Oddity.TheVariants.{Blank, Wildcard, Home, Bar, Percent}
use Rattle.mk_gnu_items.specs.declared.names.Names.{Names}

-- a byte that a name can't have there: a blank, or the end of a line
abbrev pub is_parting : ℕ → Bool
is_parting b = is_blank b || b == 10

-- what a name has that it can't be told with. `*`, `?`, `[` and a `~` in front stand for other names (GNU make manual, "Using Wildcard Characters in File
-- Names"), and `|` alone stands before order-only prerequisites
abbrev pub oddity_of : (name : List ℕ) → Option Oddity
oddity_of name =
    if list_any is_parting name then Some Blank
    else (if list_any is_sign name then Some Wildcard
    else (if begins_with 126 name then Some Home
    else (if bytes_eq name (codes "|") then Some Bar else None)))

-- the first of two, where there is one
abbrev pub or_next : {A : Type 0} → Option A → Option A → Option A
or_next (Some one) next = Some one
or_next None next = next

abbrev pub oddity_in : List (List ℕ) → Option Oddity
oddity_in [] = None
oddity_in (name ∷ more) = or_next (oddity_of name) (oddity_in more)

-- the first of a rule's names that can't be told
abbrev pub oddity : Names → Option Oddity
oddity names = or_next (oddity_in names.targets) (or_next (oddity_in names.prerequisites) (oddity_in names.order_only))

-- why a name of these can't be told
abbrev pub odd_cause : Names → Option Cause
odd_cause names = option_map Name (oddity names)

-- why a rule with these names would be read as another: a `%` among its targets makes it a pattern rule there, which has one in each target, and no backslash
-- before one
abbrev pub percent_cause : Names → Option Cause
percent_cause names =
    if not (list_any has_percent names.targets) then None
    else (if list_any quotes_percent names.targets || list_any quotes_percent names.prerequisites || list_any quotes_percent names.order_only
    then Some (Unsupported QuotedPercent)
    else (if list_all has_percent names.targets then None else Some (Name Percent)))

-- names, each behind a blank, with each `$` doubled
abbrev pub spelled : List (List ℕ) → List ℕ
spelled names = flat_map (λ name. 32 ∷ doubled name) names

-- order-only prerequisites stand behind a bar (GNU make manual, "Types of Prerequisites")
abbrev pub spelled_behind : (order_only : List (List ℕ)) → List ℕ
spelled_behind [] = []
spelled_behind (name ∷ more) = codes " |" ++ spelled (name ∷ more)

abbrev pub prerequisites_text : Names → List ℕ
prerequisites_text names = spelled names.prerequisites ++ spelled_behind names.order_only

-- how an odd name is told (own)
abbrev pub oddity_text : Oddity → List ℕ
oddity_text Blank = codes "a name with a blank"
oddity_text Wildcard = codes "a name with a wildcard"
oddity_text Home = codes "a name that begins with ~"
oddity_text Bar = codes "a name that is |"
oddity_text Percent = codes "a target with a % beside one without"
