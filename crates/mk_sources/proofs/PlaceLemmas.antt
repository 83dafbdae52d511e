-- A list at a place: its front, and what is behind.
use Rattle.std.proofs.Common.{◌≡◌, ◌∙◌, ℕ, zero, suc, ◌+◌, List, [], ◌∷◌, ◌++◌, take, drop, refl, sym, ap, arith}
use Rattle.std.specs.Prelude.{slice_get, option_to_list}
use Rattle.std.proofs.lemmas.List.{append_assoc}
use Rattle.mk_names.specs.Names.{all_added}
use Rattle.mk_names.proofs.NameLemmas.{all_added-append}

pub take-next : (names : List (List ℕ)) (n : ℕ) → take n names ++ option_to_list (slice_get names n) ≡ take (suc n) names
take-next [] zero = refl
take-next [] (suc n) = refl
take-next (x ∷ names) zero = refl
take-next (x ∷ names) (suc n) = ap (λ l. x ∷ l) (take-next names n)

pub drop-next : (names : List (List ℕ)) (n : ℕ) → option_to_list (slice_get names n) ++ drop (suc n) names ≡ drop n names
drop-next [] zero = refl
drop-next [] (suc n) = refl
drop-next (x ∷ names) zero = refl
drop-next (x ∷ names) (suc n) = drop-next names n

one-more : (n : ℕ) → suc n ≡ n + 1
one-more n = omega arith

-- one name more of the front
pub front-next : (front after names : List (List ℕ)) (n : ℕ) → after ≡ front ++ option_to_list (slice_get names n) → front ≡ take n names → after ≡ take (n + 1) names
front-next front after names n adds so =
    adds ∙ ap (λ l. l ++ option_to_list (slice_get names n)) so ∙ take-next names n ∙ ap (λ k. take k names) (one-more n)

-- one name more of those behind
pub behind-next : (behind after names whole : List (List ℕ)) (n : ℕ) → after ≡ behind ++ option_to_list (slice_get names n) → behind ++ drop n names ≡ whole →
    after ++ drop (n + 1) names ≡ whole
behind-next behind after names whole n adds so =
    ap (λ k. after ++ drop k names) (sym (one-more n)) ∙ ap (λ l. l ++ drop (suc n) names) adds ∙ append_assoc behind (option_to_list (slice_get names n)) (drop (suc n) names)
    ∙ ap (λ l. behind ++ l) (drop-next names n) ∙ so

-- one mention more
pub mentioned-next : (start names after mentioned : List (List ℕ)) (n : ℕ) → after ≡ all_added names (option_to_list (slice_get mentioned n)) →
    names ≡ all_added start (take n mentioned) → after ≡ all_added start (take (n + 1) mentioned)
mentioned-next start names after mentioned n adds so =
    adds ∙ ap (λ ns. all_added ns (option_to_list (slice_get mentioned n))) so
    ∙ sym (all_added-append start (take n mentioned) (option_to_list (slice_get mentioned n))) ∙ ap (all_added start) (take-next mentioned n ∙ ap (λ k. take k mentioned) (one-more n))
