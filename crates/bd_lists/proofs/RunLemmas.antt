-- A recipe's run, line by line.
use Rattle.std.proofs.Common.{◌≡◌, ◌∙◌, ℕ, ◌+◌, ◌<◌, ◌≤◌, Bool, true, false, List, [], ◌∷◌, ◌++◌, length, drop, get_or, Result, refl, sym, ap, subst, append_assoc}
use Rattle.std.specs.List.{All}
use Rattle.std.proofs.lemmas.List.{drop_more, drop_all, append-nil}
use Rattle.std.proofs.lemmas.List.Elements.{All-nil, All-push}
use Rattle.mk_recipe.specs.declared.line.Line.{Line}
use Rattle.mk_recipe.specs.declared.line_status.LineStatus.{LineStatus}
use Rattle.mk_recipe.specs.declared.line_status.Outcome.TheVariants.{Done, Failed}
use Rattle.mk_recipe.specs.Line.{is_blank_text}
use Rattle.mk_recipe.specs.Outcome.{Passes}
use Rattle.bd_lists.specs.declared.exec.Ended.{Ended}
use Rattle.bd_lists.specs.declared.exec.ExecFault.{ExecFault}
use Rattle.bd_lists.specs.Running.{IsAnswer, status_of, Runs, all_ran, left_out, went_on, stopped, RanTo}

-- the first `index` lines were run as far as they aren't blank, and passed
pub record HasRun (answers : Line → Result Ended ExecFault → Type 0) (ignore : Bool) (lines : List Line) (index : ℕ) (before now : List Ended) : Type 0 where
  pub ended : List Ended
  pub statuses : List LineStatus
  pub added : now ≡ before ++ ended
  pub passed : All (Passes ignore) statuses
  pub goes_on : (more : List Ended) (behind : List LineStatus) → Runs answers ignore (drop index lines) more behind
      → Runs answers ignore lines (ended ++ more) (statuses ++ behind)

-- a line of the list
pub record IsLineAt (lines : List Line) (index : ℕ) (line : Line) : Type 0 where
  pub within : index < length lines
  pub is : line ≡ get_or lines index line

pub from_line : (lines : List Line) (index : ℕ) (line : Line) → IsLineAt lines index line → drop index lines ≡ line ∷ drop (index + 1) lines
from_line lines index line at = drop_more lines index line at.within ∙ ap (λ l. l ∷ drop (index + 1) lines) (sym at.is)

pub nothing_has_run : (answers : Line → Result Ended ExecFault → Type 0) (ignore : Bool) (lines : List Line) (before : List Ended)
    → HasRun answers ignore lines 0 before before
nothing_has_run answers ignore lines before = record {
  ended = [];
  statuses = [];
  added = sym (append-nil before);
  passed = All-nil (Passes ignore);
  goes_on = λ more behind h. h;
}

pub blank_passed : (answers : Line → Result Ended ExecFault → Type 0) (ignore : Bool) (lines : List Line) (index : ℕ) (before now : List Ended) (line : Line)
    → HasRun answers ignore lines index before now → IsLineAt lines index line → is_blank_text line.text ≡ true
    → HasRun answers ignore lines (index + 1) before now
blank_passed answers ignore lines index before now line run at blank = record {
  ended = run.ended;
  statuses = run.statuses;
  added = run.added;
  passed = run.passed;
  goes_on = λ more behind h. run.goes_on more behind
      (subst (λ (ls : List Line). Runs answers ignore ls more behind) (sym (from_line lines index line at)) (left_out line blank h));
}

pub line_passed : (answers : Line → Result Ended ExecFault → Type 0) (ignore : Bool) (lines : List Line) (index : ℕ) (before now : List Ended) (line : Line) (e : Ended)
    → HasRun answers ignore lines index before now → IsLineAt lines index line → is_blank_text line.text ≡ false
    → IsAnswer (answers line) e → Passes ignore (status_of line e)
    → HasRun answers ignore lines (index + 1) before (now ++ e ∷ [])
line_passed answers ignore lines index before now line e run at printed answer passes = record {
  ended = run.ended ++ e ∷ [];
  statuses = run.statuses ++ status_of line e ∷ [];
  added = ap (λ es. es ++ e ∷ []) run.added ∙ append_assoc before run.ended (e ∷ []);
  passed = All-push (Passes ignore) run.statuses (status_of line e) run.passed passes;
  goes_on = λ more behind h.
      rw (append_assoc run.ended (e ∷ []) more, append_assoc run.statuses (status_of line e ∷ []) behind)
      (run.goes_on (e ∷ more) (status_of line e ∷ behind)
      (subst (λ (ls : List Line). Runs answers ignore ls (e ∷ more) (status_of line e ∷ behind)) (sym (from_line lines index line at))
      (went_on line e printed answer passes h)));
}

pub line_stopped : (answers : Line → Result Ended ExecFault → Type 0) (ignore : Bool) (lines : List Line) (index : ℕ) (before now : List Ended) (line : Line) (e : Ended)
    → HasRun answers ignore lines index before now → IsLineAt lines index line → is_blank_text line.text ≡ false
    → IsAnswer (answers line) e → (Passes ignore (status_of line e) → ⊥)
    → RanTo answers ignore lines before (now ++ e ∷ []) (Failed e.status)
line_stopped answers ignore lines index before now line e run at printed answer fails = record {
  ended = run.ended ++ e ∷ [];
  statuses = run.statuses ++ status_of line e ∷ [];
  added = ap (λ es. es ++ e ∷ []) run.added ∙ append_assoc before run.ended (e ∷ []);
  runs = run.goes_on (e ∷ []) (status_of line e ∷ [])
      (subst (λ (ls : List Line). Runs answers ignore ls (e ∷ []) (status_of line e ∷ [])) (sym (from_line lines index line at))
      (stopped line e printed answer fails));
  comes_to = record {
    before = run.statuses;
    line = status_of line e;
    behind = [];
    whole = refl;
    passed = run.passed;
    stopped = fails;
    status_is = refl;
  };
}

pub all_passed : (answers : Line → Result Ended ExecFault → Type 0) (ignore : Bool) (lines : List Line) (index : ℕ) (before now : List Ended)
    → HasRun answers ignore lines index before now → length lines ≤ index → RanTo answers ignore lines before now Done
all_passed answers ignore lines index before now run past = record {
  ended = run.ended;
  statuses = run.statuses;
  added = run.added;
  runs = rw (← append-nil run.ended, ← append-nil run.statuses)
      (run.goes_on [] [] (subst (λ (ls : List Line). Runs answers ignore ls [] []) (sym (drop_all index lines past)) all_ran));
  comes_to = run.passed;
}
