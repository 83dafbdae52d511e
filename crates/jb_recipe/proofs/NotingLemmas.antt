-- A record that was checked.
use Rattle.std.proofs.Common.{◌≡◌, ℕ, true, if◌then◌else◌, List, [], ◌∷◌, ◌++◌, filter, codes, Option, Some, None, IfSome, Result, Ok, Err, is_ok, MatchResult, refl, ap, ◌∙◌}
use Rattle.std.specs.Str.{bytes_eq}
use Rattle.bd_lists.specs.declared.recipe.Variable.{Variable}
use Rattle.st_records.specs.declared.record.Record.{Record}
use Rattle.st_records.specs.declared.record.Record.TheVariants as records
use Rattle.st_records.specs.declared.limits.RecordFault.{RecordFault}
use Rattle.st_records.specs.declared.version.Form.{Form}
use Rattle.st_records.specs.declared.version.Form.TheVariants as forms
use Rattle.st_records.specs.Limits.{IsWithinIn, IsFirstFaultIn}
use Rattle.jb_recipe.specs.declared.variables.Makeflags.{Makeflags}
use Rattle.jb_recipe.specs.Environment.{environment, NamesReport, is_passed_on, last_value, report_to, set_flags}

-- it passed where it keeps the limits, and there alone
pub within_if_ok : (form : Form) (note : Record) (r : Result Unit RecordFault)
    → MatchResult r (λ _. IsWithinIn form note) (λ fault. IsFirstFaultIn form note fault) → is_ok r ≡ true → IsWithinIn form note
within_if_ok form note (Ok x) says ok = says
within_if_ok form note (Err fault) says ok = cc

pub ok_if_within : (form : Form) (note : Record) (r : Result Unit RecordFault)
    → MatchResult r (λ _. IsWithinIn form note) (λ fault. IsFirstFaultIn form note fault) → IsWithinIn form note → is_ok r ≡ true
ok_if_within form note (Ok x) says within = refl
ok_if_within form note (Err fault) says within = absurd (within fault says.broken)

-- what stands behind counts where it has the name
last_value_behind : (name found : List ℕ) (variables behind : List Variable)
    → last_value name found (variables ++ behind) ≡ last_value name (last_value name found variables) behind
unfolding last_value
last_value_behind name found [] behind = refl
last_value_behind name found (v ∷ variables) behind =
    last_value_behind name (if bytes_eq v.name name then v.value else found) variables behind

-- the variables that are given for a report name it
pub report_named : (definitions : List Variable) (flags : Makeflags) (path : Option (List ℕ)) (target : List ℕ) (variables : List Variable)
    → variables ≡ environment definitions flags path target → IfSome path (NamesReport target variables)
unfolding last_value
report_named definitions flags None target variables whole = tt
report_named definitions flags (Some path) target variables whole =
    let name = codes "SUNPRO_DEPENDENCIES" in
    let given = filter is_passed_on definitions in
    let named = report_to (Some path) target in
    ap (λ v. last_value name [] v) whole
    ∙ (last_value_behind name [] given (set_flags flags ++ named)
    ∙ last_value_behind name (last_value name [] given) (set_flags flags) named)
