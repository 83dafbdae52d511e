-- What each step of the loop leaves true of the texts that wait.
use Rattle.std.proofs.Common.{◌≡◌, ℕ, ◌≤◌, ◌<◌, true, false, List, [], ◌∷◌, ◌++◌, length, map, reverse, Some, None, refl, sym, ap, subst, ◌∙◌}
use Rattle.std.proofs.lemmas.List.{map_push, reverse-append}
use Rattle.mk_pieces.specs.Piece.{Piece, front}
use Rattle.mk_functions.specs.Variables.{Variables}
use Rattle.mk_functions.specs.Scope.{Site, Entry, inside, is_too_deep, called_name}
use Rattle.mk_functions.specs.Outcome.{Outcome, gives, fails, Fault, too_long, too_deep, limit}
use Rattle.mk_functions.specs.Values.{Answers}
use Rattle.mk_functions.specs.Steps.{State, asks, answers, piece_step, resumed}
use Rattle.mk_functions.specs.Expansion.{Expands, ends, goes_on, is_long, meets_fault, ComesTo, has_answer, is_resumed, is_stopped, is_deep, ExpandsTo}
use Rattle.mk_functions.specs.Waiting.{Waiting, site_at, waiting_of, stack_of, Goes, then_on, then_long, then_fault, Comes, Unwinds, Leads, LeadsFrom}
use Rattle.mk_functions.specs.declared.state.Waiting as code_waiting

pub stack_of-push : (cs : List code_waiting.Waiting) (c : code_waiting.Waiting) → stack_of (cs ++ c ∷ []) ≡ waiting_of c ∷ stack_of cs
stack_of-push cs c = ap reverse (map_push waiting_of cs c) ∙ reverse-append (map waiting_of cs) (waiting_of c ∷ [])

module _ (w : Answers) (variables : Variables) where
  goes : (site : Site) (made text : List ℕ) (piece : Piece) (rest : List ℕ) {of outcome : Outcome} → front text ≡ Some (piece, rest) →
      ComesTo w variables site (piece_step w variables site piece) of → Goes w variables site made rest of outcome → Expands w variables site made text outcome
  goes site made text piece rest e comes (then_on added fits more) = goes_on piece rest added e comes fits more
  goes site made text piece rest e comes (then_long added long) = is_long piece rest added e comes long
  goes site made text piece rest e comes (then_fault fault) = meets_fault piece rest fault e comes

  -- a fault is passed on by all that wait
  pub passed : (cs : List Waiting) (fault : Fault) → Unwinds w variables cs (fails fault) (fails fault)
  passed [] fault = refl
  passed (c ∷ cs) fault = (fails fault, fails fault, refl, then_fault fault, passed cs fault)

  asked : (site : Site) (entry : Entry) (text : List ℕ) (state : State) → is_too_deep entry site ≡ false → (inner of : Outcome) →
      Expands w variables (inside entry site) [] text inner → Comes w variables site state inner of → ComesTo w variables site (asks entry text state) of
  asked site entry text state shallow (gives value) of x comes = is_resumed value shallow x comes
  asked site entry text state shallow (fails fault) of x comes =
      subst (λ o. ComesTo w variables site (asks entry text state) o) (sym comes) (is_stopped fault shallow x)

  module _ (whole : List ℕ) where
    pub started : Leads w variables whole [] [] whole
    started inner outcome x u = subst (λ o. ExpandsTo w variables whole o) (sym u) x

    pub ended : (made text : List ℕ) → front text ≡ None → Leads w variables whole [] made text → ExpandsTo w variables whole (gives made)
    ended made text end leads = leads (gives made) (gives made) (ends end) refl

    module _ (cs : List Waiting) where
      pub from_look : (made text : List ℕ) (piece : Piece) (rest : List ℕ) → front text ≡ Some (piece, rest) → Leads w variables whole cs made text →
          LeadsFrom w variables whole cs made rest (piece_step w variables (site_at cs) piece)
      from_look made text piece rest e leads of outcome a inner g u = leads inner outcome (goes (site_at cs) made text piece rest e a g) u

      pub from_pop : (c : Waiting) (made text : List ℕ) → front text ≡ None → Leads w variables whole (c ∷ cs) made text →
          LeadsFrom w variables whole cs c.made c.rest (resumed w variables (site_at cs) c.state made)
      from_pop c made text end leads of outcome a inner g u = leads (gives made) outcome (ends end) (of, inner, a, g, u)

      module _ (made rest : List ℕ) where
        pub adds : (v : List ℕ) → LeadsFrom w variables whole cs made rest (answers (gives v)) → length (made ++ v) ≤ limit → Leads w variables whole cs (made ++ v) rest
        adds v from fits inner outcome x u = from (gives v) outcome has_answer inner (then_on v fits x) u

        pub long : (v : List ℕ) → LeadsFrom w variables whole cs made rest (answers (gives v)) → limit < length (made ++ v) → ExpandsTo w variables whole (fails too_long)
        long v from over = from (gives v) (fails too_long) has_answer (fails too_long) (then_long v over) (passed cs too_long)

        pub fault : (f : Fault) → LeadsFrom w variables whole cs made rest (answers (fails f)) → ExpandsTo w variables whole (fails f)
        fault f from = from (fails f) (fails f) has_answer (fails f) (then_fault f) (passed cs f)

        module _ (entry : Entry) (text : List ℕ) (state : State) (from : LeadsFrom w variables whole cs made rest (asks entry text state)) where
          pub deep : is_too_deep entry (site_at cs) ≡ true → ExpandsTo w variables whole (fails (too_deep (called_name entry)))
          deep is = from (fails (too_deep (called_name entry))) (fails (too_deep (called_name entry))) (is_deep is) (fails (too_deep (called_name entry)))
              (then_fault (too_deep (called_name entry))) (passed cs (too_deep (called_name entry)))

          pub waits : is_too_deep entry (site_at cs) ≡ false → Leads w variables whole (record { entry = entry; state = state; made = made; rest = rest } ∷ cs) [] text
          waits shallow o outcome x u = from u.0 outcome (asked (site_at cs) entry text state shallow o u.0 x u.2) u.1 u.3 u.4
