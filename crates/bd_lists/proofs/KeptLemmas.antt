-- The commands that the state keeps of lines, found line by line.
use Rattle.std.proofs.Common.{◌≡◌, ◌∙◌, ℕ, ◌+◌, ◌<◌, ◌≤◌, List, [], ◌∷◌, length, drop, get_or, Some, refl, sym, ap, subst, arith}
use Rattle.std.specs.Prelude.{slice_get}
use Rattle.std.proofs.lemmas.List.{drop_more, drop_all, length-drop}
use Rattle.std.proofs.lemmas.Option.{slice_get_within, get_or_from_slice_get, slice_get-get_or}
use Rattle.mk_recipe.specs.declared.line.Line.{Line}
use Rattle.mk_recipe.specs.Line.{IsRecorded, Records, nothing, kept, left_out}
use Rattle.bd_lists.proofs.RunLemmas.{IsLineAt, from_line}

-- the first lines have left the first commands: the rest of the lines leaves the rest of the commands where all do
pub record AreKept (lines : List Line) (commands : List (List ℕ)) (index count : ℕ) : Type 0 where
  pub within : count ≤ length commands
  pub whole : Records (drop index lines) (drop count commands) → Records lines commands
  pub rest : Records lines commands → Records (drop index lines) (drop count commands)

behind_left_out : (line : Line) (lines : List Line) (commands : List (List ℕ)) → (IsRecorded line → ⊥) → Records (line ∷ lines) commands → Records lines commands
behind_left_out line lines commands not (kept _ is behind) = absurd (not is)
behind_left_out line lines commands not (left_out _ other behind) = behind

-- where a line is kept, its text stands first
record IsFirst (line : Line) (lines : List Line) (commands : List (List ℕ)) : Type 0 where
  behind : List (List ℕ)
  is : commands ≡ line.text ∷ behind
  records : Records lines behind

behind_kept : (line : Line) (lines : List Line) (commands : List (List ℕ)) → IsRecorded line → Records (line ∷ lines) commands → IsFirst line lines commands
behind_kept line lines commands is (kept _ same behind) = record { behind = _; is = refl; records = behind }
behind_kept line lines commands is (left_out _ other behind) = absurd (other is)

none_left : (commands : List (List ℕ)) → Records [] commands → commands ≡ []
none_left commands nothing = refl

from_command : (commands : List (List ℕ)) (count : ℕ) (text : List ℕ) → slice_get commands count ≡ Some text → drop count commands ≡ text ∷ drop (count + 1) commands
from_command commands count text e =
    drop_more commands count text (slice_get_within commands count text e)
    ∙ ap (λ t. t ∷ drop (count + 1) commands) (get_or_from_slice_get commands count text text e)

pub none_kept : (lines : List Line) (commands : List (List ℕ)) → AreKept lines commands 0 0
none_kept lines commands = record { within = omega arith; whole = λ h. h; rest = λ h. h }

pub line_left_out : (lines : List Line) (commands : List (List ℕ)) (index count : ℕ) (line : Line) → AreKept lines commands index count
    → IsLineAt lines index line → (IsRecorded line → ⊥) → AreKept lines commands (index + 1) count
line_left_out lines commands index count line kept_are at not = record {
  within = kept_are.within;
  whole = λ h. kept_are.whole (subst (λ (ls : List Line). Records ls (drop count commands)) (sym (from_line lines index line at)) (left_out line not h));
  rest = λ h. behind_left_out line (drop (index + 1) lines) (drop count commands) not
      (subst (λ (ls : List Line). Records ls (drop count commands)) (from_line lines index line at) (kept_are.rest h));
}

pub line_kept : (lines : List Line) (commands : List (List ℕ)) (index count : ℕ) (line : Line) → AreKept lines commands index count
    → IsLineAt lines index line → IsRecorded line → slice_get commands count ≡ Some line.text → AreKept lines commands (index + 1) (count + 1)
line_kept lines commands index count line kept_are at is e =
    let same = from_command commands count line.text e in
    let within : count < length commands = slice_get_within commands count line.text e in
    record {
      within = omega arith;
      whole = λ h. kept_are.whole (subst (λ (ls : List Line). Records ls (drop count commands)) (sym (from_line lines index line at))
          (subst (λ (cs : List (List ℕ)). Records (line ∷ drop (index + 1) lines) cs) (sym same) (kept line is h)));
      rest = λ h.
          let first = behind_kept line (drop (index + 1) lines) (drop count commands) is
          (subst (λ (ls : List Line). Records ls (drop count commands)) (from_line lines index line at) (kept_are.rest h)) in
          let behind : first.behind ≡ drop (count + 1) commands = cc (first.is, same) in
          subst (λ (cs : List (List ℕ)). Records (drop (index + 1) lines) cs) behind first.records;
    }

at_place : (commands : List (List ℕ)) (count : ℕ) (text : List ℕ) (behind : List (List ℕ)) → drop count commands ≡ text ∷ behind → slice_get commands count ≡ Some text
at_place commands count text behind e =
    let within : count < length commands = omega (arith, ap length e, length-drop count commands) in
    let more = drop_more commands count text within in
    let here : get_or commands count text ≡ text = cc (more, e) in
    slice_get-get_or commands count text within ∙ ap Some here

pub line_missing : (lines : List Line) (commands : List (List ℕ)) (index count : ℕ) (line : Line) → AreKept lines commands index count
    → IsLineAt lines index line → IsRecorded line → (slice_get commands count ≡ Some line.text → ⊥) → Records lines commands → ⊥
line_missing lines commands index count line kept_are at is not h =
    let first = behind_kept line (drop (index + 1) lines) (drop count commands) is
    (subst (λ (ls : List Line). Records ls (drop count commands)) (from_line lines index line at) (kept_are.rest h)) in
    not (at_place commands count line.text first.behind first.is)

pub all_kept : (lines : List Line) (commands : List (List ℕ)) (index count : ℕ) → AreKept lines commands index count → length lines ≤ index
    → count ≡ length commands → Records lines commands
all_kept lines commands index count kept_are past e =
    kept_are.whole (subst (λ (ls : List Line). Records ls (drop count commands)) (sym (drop_all index lines past))
    (subst (λ (cs : List (List ℕ)). Records [] cs) (sym (drop_all count commands (omega arith))) nothing))

pub none_behind : (lines : List Line) (commands : List (List ℕ)) (index count : ℕ) → AreKept lines commands index count → length lines ≤ index
    → Records lines commands → count ≡ length commands
none_behind lines commands index count kept_are past h =
    let none = none_left (drop count commands) (subst (λ (ls : List Line). Records ls (drop count commands)) (drop_all index lines past) (kept_are.rest h)) in
    omega (arith, ap length none, length-drop count commands, kept_are.within)
