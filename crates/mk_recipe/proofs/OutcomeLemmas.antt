-- The first line that stops a recipe.
use Rattle.std.proofs.Common.{◌≡◌, ◌∙◌, ℕ, ◌⊎◌, inl, inr, Bool, true, false, cond, eqb, not, ◌&&◌, ◌||◌, List, [], ◌∷◌, ◌++◌, Option, Some, None, refl, sym, ap, arith, find}
use Rattle.std.specs.Prelude.{IsTrue}
use Rattle.std.specs.List.{All}
use Rattle.std.proofs.lemmas.List.Elements.{All-nil, All-cons, All-head, All-tail}
use Rattle.std.proofs.lemmas.Bool.Decides.{nat_tests}
use Rattle.mk_recipe.specs.declared.line_status.LineStatus.{LineStatus}
use Rattle.mk_recipe.specs.declared.line_status.Outcome.{Outcome}
use Rattle.mk_recipe.specs.declared.line_status.Outcome.TheVariants.{Done, Failed}
use Rattle.mk_recipe.specs.Tests.{stops}
use Rattle.mk_recipe.specs.Outcome.{Passes, IsOutcome}

-- what the first line that stops makes of a recipe
abbrev pub outcome_of : Option LineStatus → Outcome
outcome_of None = Done
outcome_of (Some line) = Failed line.status

passes_by : (ignore ignored : Bool) (status : ℕ) → (not (eqb status 0) && not (ignored || ignore)) ≡ false → (status ≡ 0) ⊎ (IsTrue ignored ⊎ IsTrue ignore)
passes_by ignore true status e = inr (inl refl)
passes_by true false status e = inr (inr refl)
passes_by false false status e = inl (grind (arith, nat_tests))

stops_by : (ignore ignored : Bool) (status : ℕ) → (not (eqb status 0) && not (ignored || ignore)) ≡ true → (status ≡ 0) ⊎ (IsTrue ignored ⊎ IsTrue ignore) → ⊥
stops_by ignore ignored status e (inl zero_is) = grind (arith, nat_tests)
stops_by ignore ignored status e (inr (inl line_says)) = grind (arith, nat_tests)
stops_by ignore ignored status e (inr (inr run_says)) = grind (arith, nat_tests)

passes : (ignore : Bool) (line : LineStatus) → stops ignore line ≡ false → Passes ignore line
passes ignore line e = passes_by ignore line.is_ignored line.status e

stopped : (ignore : Bool) (line : LineStatus) → stops ignore line ≡ true → Passes ignore line → ⊥
stopped ignore line e = stops_by ignore line.is_ignored line.status e

-- a line that passes changes nothing
behind_one : (ignore : Bool) (line : LineStatus) (lines : List LineStatus) (outcome : Outcome) → Passes ignore line → IsOutcome ignore lines outcome → IsOutcome ignore (line ∷ lines) outcome
behind_one ignore line lines Done here h = All-cons (Passes ignore) line lines here h
behind_one ignore line lines (Failed status) here h = record {
  before = line ∷ h.before;
  line = h.line;
  behind = h.behind;
  whole = ap (λ ls. line ∷ ls) h.whole;
  passed = All-cons (Passes ignore) line h.before here h.passed;
  stopped = h.stopped;
  status_is = h.status_is;
}

here_or_behind : (ignore : Bool) (line : LineStatus) (lines : List LineStatus) (b : Bool) → stops ignore line ≡ b
    → IsOutcome ignore lines (outcome_of (find (stops ignore) lines)) → IsOutcome ignore (line ∷ lines) (outcome_of (cond b (Some line) (find (stops ignore) lines)))
here_or_behind ignore line lines true e rest = record {
  before = [];
  line = line;
  behind = lines;
  whole = refl;
  passed = All-nil (Passes ignore);
  stopped = stopped ignore line e;
  status_is = refl;
}
here_or_behind ignore line lines false e rest = behind_one ignore line lines (outcome_of (find (stops ignore) lines)) (passes ignore line e) rest

-- the first line that stops gives the outcome
pub outcome_found : (ignore : Bool) (lines : List LineStatus) → IsOutcome ignore lines (outcome_of (find (stops ignore) lines))
outcome_found ignore [] = All-nil (Passes ignore)
outcome_found ignore (line ∷ lines) = here_or_behind ignore line lines (stops ignore line) refl (outcome_found ignore lines)

-- ---- one outcome

apart : (b : Bool) → b ≡ true → b ≡ false → ⊥
apart b e f = cc

no_stop : (ignore : Bool) (line : LineStatus) (b : Bool) → stops ignore line ≡ b → Passes ignore line → stops ignore line ≡ false
no_stop ignore line true e h = absurd (stopped ignore line e h)
no_stop ignore line false e h = e

a_stop : (ignore : Bool) (line : LineStatus) (b : Bool) → stops ignore line ≡ b → (Passes ignore line → ⊥) → stops ignore line ≡ true
a_stop ignore line true e h = e
a_stop ignore line false e h = absurd (h (passes ignore line e))

none_found : (ignore : Bool) (lines : List LineStatus) → All (Passes ignore) lines → find (stops ignore) lines ≡ None
none_found ignore [] h = refl
none_found ignore (line ∷ lines) h =
    ap (λ (b : Bool). cond b (Some line) (find (stops ignore) lines)) (no_stop ignore line (stops ignore line) refl (All-head (Passes ignore) line lines h))
    ∙ none_found ignore lines (All-tail (Passes ignore) line lines h)

found_behind : (ignore : Bool) (before behind : List LineStatus) (line : LineStatus) → All (Passes ignore) before → (Passes ignore line → ⊥) → find (stops ignore) (before ++ line ∷ behind) ≡ Some line
found_behind ignore [] behind line passed h =
    ap (λ (b : Bool). cond b (Some line) (find (stops ignore) behind)) (a_stop ignore line (stops ignore line) refl h)
found_behind ignore (first ∷ before) behind line passed h =
    ap (λ (b : Bool). cond b (Some first) (find (stops ignore) (before ++ line ∷ behind))) (no_stop ignore first (stops ignore first) refl (All-head (Passes ignore) first before passed))
    ∙ found_behind ignore before behind line (All-tail (Passes ignore) first before passed) h

outcome_is : (ignore : Bool) (lines : List LineStatus) (outcome : Outcome) → IsOutcome ignore lines outcome → outcome ≡ outcome_of (find (stops ignore) lines)
outcome_is ignore lines Done h = sym (ap outcome_of (none_found ignore lines h))
outcome_is ignore lines (Failed status) h =
    sym (ap outcome_of (ap (find (stops ignore)) h.whole ∙ found_behind ignore h.before h.behind h.line h.passed h.stopped) ∙ ap Failed h.status_is)

pub same_outcome : (ignore : Bool) (lines : List LineStatus) (a b : Outcome) → IsOutcome ignore lines a → IsOutcome ignore lines b → a ≡ b
same_outcome ignore lines a b h k = outcome_is ignore lines a h ∙ sym (outcome_is ignore lines b k)
