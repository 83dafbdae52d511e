-- Texts in which nothing is replaced.
use Rattle.std.proofs.Common.{◌≡◌, ℕ, ◌≤◌, false, ◌==◌, cond, List, [], ◌∷◌, length, refl, ap, ◌∙◌}
use Rattle.std.proofs.lemmas.Bool.{or_parts}
use Rattle.std.specs.List.{list_any}
use Rattle.mk_profile.specs.Profile.{is_wide}
use Rattle.mk_macros.specs.Expansion.{Meanings, ExpandsTo, ends, goes_on, adds_bytes, gives}
use Rattle.mk_macros.specs.Reference.{front, first, plain, plain_until, behind_dollar}
use Rattle.mk_macros.specs.Words.{place_of}
use Rattle.mk_macros.specs.declared.fault.TheConstants.{MAX_EXPANSION_BYTES}
use Rattle.mk_macros.proofs.PlainLemmas.{within_each}
use Rattle.mk_macros.proofs.SpelledLemmas.{place_of-none}

-- such a text is its own expansion
pub expands_to_itself : (text : List ℕ) → length text ≤ MAX_EXPANSION_BYTES → list_any (λ b. b == 36) text ≡ false → (names : Meanings) → ExpandsTo names text (gives text)
expands_to_itself [] within none names = ends refl
expands_to_itself (b ∷ text) within none names =
    let wide = is_wide names.language in
    let no : (b == 36) ≡ false = (or_parts (b == 36) (list_any (λ c. c == 36) text) none).0 in
    let whole : front wide (b ∷ text) ≡ first (plain (b ∷ text)) [] =
    ap (λ t. cond t (behind_dollar wide text) (plain_until (b ∷ text) (place_of 36 (b ∷ text)))) no
    ∙ ap (plain_until (b ∷ text)) (place_of-none 36 (b ∷ text) none) in
    goes_on (plain (b ∷ text)) [] (b ∷ text) whole adds_bytes (within_each wide (length (b ∷ text)) within) (ends refl)
