-- A text with each dollar doubled expands to it, whatever is defined.
use Rattle.std.proofs.Common.{◌≡◌, ℕ, suc, ◌+◌, ◌≤◌, Bool, true, false, cond, not, nat_lt, ◌==◌, List, [], ◌∷◌, ◌++◌, length, take, drop, Some, None, refl, sym, ap, subst, ◌∙◌, arith, one-add, append_assoc, append-nil, length-append}
use Rattle.std.specs.List.{list_any, prefix_len, position_or_len}
use Rattle.std.proofs.lemmas.Bool.Decides.{nat_tests, Decides-eqb}
use Rattle.std.proofs.lemmas.List.{take_at}
use Rattle.std.proofs.lemmas.List.Folds.{list_any-append}
use Rattle.std.proofs.Math.Seq.{drop-append_seam}
use Rattle.mk_profile.specs.Profile.{is_wide}
use Rattle.mk_macros.specs.Words.{place_of, is_byte}
use Rattle.mk_macros.specs.Reference.{plain, first, behind_dollar, plain_until, front}
use Rattle.mk_macros.specs.Expansion.{Meaning, Meanings, gives, limit, Expands, ends, goes_on, adds_bytes, ExpandsTo}
use Rattle.mk_macros.proofs.PatternLemmas.{place_of-at}
use Rattle.mk_lines.specs.Text.{is_dollar}
use Rattle.mk_lines.proofs.ReferenceLemmas.{either, or_false}
use Rattle.mk_eval.specs.Static.{doubled}

-- the text is what stands before its first `$`, and the rest
abbrev IsRun : List ℕ → Type 0
IsRun text = doubled text ≡ take (position_or_len is_dollar text) text ++ doubled (drop (position_or_len is_dollar text) text)

run_more : (b : ℕ) (bs : List ℕ) → IsRun bs → IsRun (b ∷ bs)
run_more b bs more = either _ (is_dollar b) stops further
  where
    at : (n : ℕ) → Type 0
    at n = doubled (b ∷ bs) ≡ take n (b ∷ bs) ++ doubled (drop n (b ∷ bs))

    stops : is_dollar b ≡ true → at (position_or_len is_dollar (b ∷ bs))
    stops e =
        let none : position_or_len is_dollar (b ∷ bs) ≡ 0 = ap (λ t. cond (not t) (1 + position_or_len is_dollar bs) 0) e in
        subst at (sym none) refl

    further : is_dollar b ≡ false → at (position_or_len is_dollar (b ∷ bs))
    further e =
        let one : position_or_len is_dollar (b ∷ bs) ≡ suc (position_or_len is_dollar bs) =
        ap (λ t. cond (not t) (1 + position_or_len is_dollar bs) 0) e ∙ one-add (position_or_len is_dollar bs) in
        subst at (sym one) (ap (λ t. cond t (36 ∷ b ∷ []) (b ∷ []) ++ doubled bs) e ∙ ap (λ xs. b ∷ xs) more)

pub doubled_run : (text : List ℕ) → IsRun text
doubled_run [] = refl
doubled_run (b ∷ bs) = run_more b bs (doubled_run bs)

-- no `$` stands in it
abbrev IsPlain : List ℕ → Type 0
IsPlain run = list_any is_dollar run ≡ false

all_plain : (run : List ℕ) → IsPlain run → prefix_len (λ b. not (is_byte 36 b)) run ≡ length run
all_plain [] h = refl
all_plain (b ∷ bs) h =
    let parts = or_false (b == 36) (list_any is_dollar bs) h in
    let rest : prefix_len (λ x. not (is_byte 36 x)) bs ≡ length bs = all_plain bs parts.1 in
    simp (parts.0, one-add) (ap suc rest)

none_found : (run : List ℕ) → IsPlain run → place_of 36 run ≡ None
none_found run h =
    let end : prefix_len (λ b. not (is_byte 36 b)) run ≡ length run = all_plain run h in
    let within : nat_lt (length run) (length run) ≡ false = grind (arith, nat_tests) in
    rw end (rw within refl)

plain_more : (run : List ℕ) (b : ℕ) → IsPlain run → (b == 36) ≡ false → IsPlain (run ++ b ∷ [])
plain_more run b h e = simp (list_any-append is_dollar run (b ∷ []), h, e) refl

module _ (wide : Bool) (meaning : List ℕ → Meaning) where
  abbrev Gives : (made text : List ℕ) → (bytes : List ℕ) → Type 0
  Gives made text bytes = Expands wide meaning [] made text (gives bytes)

  front_ends : (b : ℕ) (run : List ℕ) → IsPlain (b ∷ run) → front wide (b ∷ run) ≡ first (plain (b ∷ run)) []
  front_ends b run h =
      ap (λ t. cond t (behind_dollar wide run) (plain_until (b ∷ run) (place_of 36 (b ∷ run)))) (or_false (b == 36) (list_any is_dollar run) h).0
      ∙ ap (plain_until (b ∷ run)) (none_found (b ∷ run) h)

  front_stops : (b : ℕ) (run text : List ℕ) → IsPlain (b ∷ run) → front wide ((b ∷ run) ++ 36 ∷ text) ≡ first (plain (b ∷ run)) (36 ∷ text)
  front_stops b run text h =
      let whole = (b ∷ run) ++ 36 ∷ text in
      let at : place_of 36 whole ≡ Some (length (b ∷ run)) = place_of-at 36 (b ∷ run) text (none_found (b ∷ run) h) in
      ap (λ t. cond t (behind_dollar wide (run ++ 36 ∷ text)) (plain_until whole (place_of 36 whole))) (or_false (b == 36) (list_any is_dollar run) h).0
      ∙ ap (plain_until whole) at
      ∙ ap (λ xs. first (plain xs) (drop (length (b ∷ run)) whole)) (take_at (b ∷ run) (36 ∷ text) (length (b ∷ run)) refl)
      ∙ ap (first (plain (b ∷ run))) (drop-append_seam (b ∷ run) (36 ∷ text))

  run_ends : (made run : List ℕ) → IsPlain run → length (made ++ run) ≤ limit wide → Gives made run (made ++ run)
  run_ends made [] h fits = subst (Gives made []) (sym (append-nil made)) (ends refl)
  run_ends made (b ∷ run) h fits = goes_on (plain (b ∷ run)) [] (b ∷ run) (front_ends b run h) adds_bytes fits (ends refl)

  run_then : (made run text bytes : List ℕ) → IsPlain run → length (made ++ run) ≤ limit wide → Gives (made ++ run) (36 ∷ text) bytes → Gives made (run ++ 36 ∷ text) bytes
  run_then made [] text bytes h fits later = subst (λ m. Gives m (36 ∷ text) bytes) (append-nil made) later
  run_then made (b ∷ run) text bytes h fits later = goes_on (plain (b ∷ run)) (36 ∷ text) (b ∷ run) (front_stops b run text h) adds_bytes fits later

  dollar_then : (made text bytes : List ℕ) → length (made ++ 36 ∷ []) ≤ limit wide → Gives (made ++ 36 ∷ []) text bytes → Gives made (36 ∷ 36 ∷ text) bytes
  dollar_then made text bytes fits later = goes_on (plain (36 ∷ [])) text (36 ∷ []) refl adds_bytes fits later

  -- behind bytes that are read but not yet made anything of
  pub doubled_from : (text made run : List ℕ) → IsPlain run → length (made ++ (run ++ text)) ≤ limit wide → Gives made (run ++ doubled text) (made ++ (run ++ text))
  doubled_from [] made run h fits =
      subst (λ xs. Gives made xs (made ++ xs)) (sym (append-nil run)) (run_ends made run h (subst (λ xs. length (made ++ xs) ≤ limit wide) (append-nil run) fits))
  doubled_from (b ∷ more) made run h fits =
      either _ (b == 36)
      (λ e.
      let is : b ≡ 36 = (Decides-eqb b 36).0 e in
      let front = made ++ run in
      let one : (front ++ 36 ∷ []) ++ more ≡ made ++ (run ++ 36 ∷ more) = append_assoc front (36 ∷ []) more ∙ append_assoc made run (36 ∷ more) in
      let all : length ((front ++ 36 ∷ []) ++ more) ≤ limit wide = subst (λ xs. length xs ≤ limit wide) (sym one) (subst (λ c. length (made ++ (run ++ c ∷ more)) ≤ limit wide) is fits) in
      let part : length (front ++ 36 ∷ []) ≤ limit wide = omega (arith, all, length-append (front ++ 36 ∷ []) more) in
      let less : length front ≤ limit wide = omega (arith, part, length-append front (36 ∷ [])) in
      let later = subst (Gives (front ++ 36 ∷ []) (doubled more)) one (doubled_from more (front ++ 36 ∷ []) [] refl all) in
      subst (λ c. Gives made (run ++ doubled (c ∷ more)) (made ++ (run ++ c ∷ more))) (sym is)
      (run_then made run (36 ∷ doubled more) (made ++ (run ++ 36 ∷ more)) h less (dollar_then front (doubled more) (made ++ (run ++ 36 ∷ more)) part later)))
      (λ e.
      let one : (run ++ b ∷ []) ++ more ≡ run ++ b ∷ more = append_assoc run (b ∷ []) more in
      let text : (run ++ b ∷ []) ++ doubled more ≡ run ++ doubled (b ∷ more) =
      append_assoc run (b ∷ []) (doubled more) ∙ ap (λ t. run ++ (cond t (36 ∷ b ∷ []) (b ∷ []) ++ doubled more)) (sym e) in
      let later = doubled_from more made (run ++ b ∷ []) (plain_more run b h e) (subst (λ xs. length (made ++ xs) ≤ limit wide) (sym one) fits) in
      subst (λ xs. Gives made xs (made ++ (run ++ b ∷ more))) text (subst (λ xs. Gives made ((run ++ b ∷ []) ++ doubled more) (made ++ xs)) one later))

pub doubled_expands : (names : Meanings) (text : List ℕ) → length text ≤ limit (is_wide names.language) → ExpandsTo names (doubled text) (gives text)
doubled_expands names text fits = doubled_from (is_wide names.language) names.meaning text [] [] refl fits
