-- Words byte by byte.
use Rattle.std.proofs.Common.{◌≡◌, ℕ, List, [], ◌∷◌, ◌++◌, Option, Some, None, Result, Ok, Err, OnOk, refl, ap, subst, ◌∙◌, append_assoc}
use Rattle.mk_depfiles.specs.Words.{in_front, words_behind, words, ended, backslashes}
use Rattle.mk_depfiles.specs.Gathering.{read, Takes, Ends}
use Rattle.mk_depfiles.specs.declared.refusal.Cause.{Cause}
use Rattle.mk_depfiles.specs.declared.gathering.Gathering.{Gathering}
use Rattle.mk_depfiles.specs.declared.gathering.Held.TheVariants.{Backslashes}

in_front_none : (r : Result (List (List ℕ)) Cause) → in_front [] r ≡ r
in_front_none (Ok rest) = refl
in_front_none (Err cause) = refl

in_front_more : (xs ys : List (List ℕ)) (r : Result (List (List ℕ)) Cause) → in_front (xs ++ ys) r ≡ in_front xs (in_front ys r)
in_front_more xs ys (Ok rest) = ap Ok (append_assoc xs ys rest)
in_front_more xs ys (Err cause) = refl

-- a word that is put behind the others is ended
pub word_ended : {A E : Type 0} (r : Result A E) (before after : Gathering) (count : ℕ) → OnOk r (after.words ≡ before.words ++ ended (before.word.items ++ backslashes count)) →
    OnOk r (after.word.items ≡ []) → OnOk r (after.held ≡ Backslashes 0) → OnOk r (Ends before after count)
word_ended (Ok v) before after count closed no_word nothing = λ text.
    ap (λ ws. in_front ws (words_behind after.word.items after.held text)) closed
    ∙ ap (λ w. in_front (before.words ++ ended (before.word.items ++ backslashes count)) (words_behind w after.held text)) no_word
    ∙ ap (λ h. in_front (before.words ++ ended (before.word.items ++ backslashes count)) (words_behind [] h text)) nothing
    ∙ in_front_more before.words (ended (before.word.items ++ backslashes count)) (words_behind [] (Backslashes 0) text)
word_ended (Err e) before after count closed no_word nothing = tt

-- where a line begins
pub begun : (g : Gathering) (line : List ℕ) → g.words ≡ [] → g.word.items ≡ [] → g.held ≡ Backslashes 0 → read g line ≡ words line
begun g line no_words no_word nothing =
    ap (λ ws. in_front ws (words_behind g.word.items g.held line)) no_words ∙ in_front_none (words_behind g.word.items g.held line)
    ∙ ap (λ w. words_behind w g.held line) no_word ∙ ap (λ h. words_behind [] h line) nothing

pub taken : (before after : Gathering) (byte : ℕ) (told : Option Cause) → told ≡ None → Takes before after byte told → (text : List ℕ) → read after text ≡ read before (byte ∷ text)
taken before after byte told e t = subst (Takes before after byte) e t

pub refused : (before after : Gathering) (byte : ℕ) (told : Option Cause) (cause : Cause) → told ≡ Some cause → Takes before after byte told → (text : List ℕ) → read before (byte ∷ text) ≡ Err cause
refused before after byte told cause e t = subst (Takes before after byte) e t
