-- What a line of a depfile names (GNU make manual, "Rule Syntax"; GCC manual, "-MD" and "-MP").
use Rattle.std.specs.Prelude.{ℕ, Bool, true, false, ◌||◌, List, [], ◌∷◌, length, take, ◌-◌, reverse, Result, Ok, Err, if◌then◌else◌}
use Rattle.byte_strings.specs.Blanks.{is_nonempty, trimmed_start}
use Rattle.mk_depfiles.specs.Lines.{begins_with}
use Rattle.mk_depfiles.specs.Words.{words}
use Rattle.mk_depfiles.specs.declared.refusal.Cause.{Cause}
use Rattle.mk_depfiles.specs.declared.refusal.Cause.TheVariants.{RecipeLine, NoColon, NoTarget}

-- what stands before the last byte
abbrev pub without_last : List ℕ → List ℕ
without_last bytes = take (length bytes - 1) bytes

-- a colon is the last byte; one inside a word belongs to its name, as in `C:\x.h`
abbrev pub ends_in_colon : (word : List ℕ) → Bool
ends_in_colon word = begins_with 58 (reverse word)

-- the words behind the first one that a colon ends. It has a target before it, or is behind one; names that end in a colon may follow
abbrev pub behind_targets : (has_target : Bool) → List (List ℕ) → Result (List (List ℕ)) Cause
behind_targets has_target [] = Err NoColon
behind_targets has_target (word ∷ more) =
    if ends_in_colon word then (if has_target || is_nonempty (without_last word) then Ok more else Err NoTarget) else behind_targets true more

-- what a line of these words names: nothing where it has none
abbrev pub named : List (List ℕ) → Result (List (List ℕ)) Cause
named [] = Ok []
named (word ∷ more) = behind_targets false (word ∷ more)

abbrev pub named_in : Result (List (List ℕ)) Cause → Result (List (List ℕ)) Cause
named_in (Ok found) = named found
named_in (Err cause) = Err cause

-- a comment is a line of its own, as rustc writes some; behind a rule there is none (own)
abbrev pub is_comment : (line : List ℕ) → Bool
is_comment line = begins_with 35 (trimmed_start line)

-- what a line names
abbrev pub line_names : (line : List ℕ) → Result (List (List ℕ)) Cause
line_names line = if begins_with 9 line then Err RecipeLine else (if is_comment line then Ok [] else named_in (words line))
