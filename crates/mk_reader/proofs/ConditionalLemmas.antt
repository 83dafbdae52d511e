-- What tells `:=` of a conditional macro from a definition, in the code and in the grammar.
use Rattle.std.proofs.Common.{◌≡◌, ℕ, ◌-◌, Bool, true, false, cond, not, ◌&&◌, ◌||◌, List, [], ◌∷◌, ◌++◌, length, take, drop, ◌+◌, reverse, refl, sym, ap, ◌∙◌, arith, length-append, Option, Some, None}
use Rattle.std.specs.List.{list_any, list_all}
use Rattle.std.proofs.lemmas.List.{reverse-append, take_at}
use Rattle.byte_strings.specs.Blanks.{is_blank, trimmed}
use Rattle.mk_profile.specs.Profile.{is_wide}
use Rattle.mk_profile.specs.declared.profile.Profile.{Profile}
use Rattle.mk_lines.specs.Text.{is_empty, begins_with, ends_with, without_last}
use Rattle.mk_reader.specs.Spelled.{without_plus, SpellsName, is_name_byte, is_apart, IsConditional, IsSet}
use Rattle.mk_lines.specs.References.{first_outside}
use Rattle.mk_reader.specs.Form.{is_macro_name, conditional_at}
use Rattle.mk_lines.specs.declared.reference.Place.TheVariants.{Outside}
use Rattle.mk_lines.proofs.ReferenceLemmas.{either, or_false, Said, said, cut_found, and_true}
use Rattle.mk_reader.proofs.BlankLemmas.{trimmed_is, trimmed_padded}
use Rattle.mk_lines.proofs.SpellingLemmas.{ends_at}
use Rattle.mk_lines.proofs.CutLemmas.{one_of, not_true, cut_left, cut_right}
use Rattle.mk_reader.proofs.TestLemmas.{not_false}

spelled : (left : List ℕ) (plus : Bool) → begins_with 43 (reverse left) ≡ plus → SpellsName left (trimmed (cond plus (without_last left) left)) plus
spelled left true e = (without_last left, ends_at 43 left (reverse left) refl e, trimmed_padded (without_last left))
spelled left false e = (e, trimmed_padded left)

plus_off : (left name : List ℕ) (append : Bool) → SpellsName left name append → trimmed (without_plus left) ≡ name
unfolding without_plus ends_with
plus_off left name true (rest, e, padded) =
    let plus : begins_with 43 (reverse left) ≡ true = ap (λ xs. begins_with 43 (reverse xs)) e ∙ ap (begins_with 43) (reverse-append rest (43 ∷ [])) in
    let front : without_last left ≡ rest = ap without_last e ∙ take_at rest (43 ∷ []) (length (rest ++ 43 ∷ []) - 1) (omega (arith, length-append rest (43 ∷ []))) in
    ap (λ t. trimmed (cond t (without_last left) left)) plus ∙ ap trimmed front ∙ trimmed_is rest name padded
plus_off left name false (plus, padded) = ap (λ t. trimmed (cond t (without_last left) left)) plus ∙ trimmed_is left name padded

conditional_of : (right : List ℕ) (o : Option ℕ) → Said 61 61 refl o right → conditional_at right o ≡ true → IsConditional right
unfolding conditional_at is_macro_name without_plus ends_with
conditional_of right None s h = absurd (cc h)
conditional_of right (Some n) (before, b, rest, e, whole, is_one, long) h =
    let same : b ≡ 61 = one_of 61 b is_one in
    let left : take n right ≡ before = cut_left right before b rest n e long in
    let behind : drop (n + 1) right ≡ rest = cut_right right before b rest n e long in
    let both = and_true (is_macro_name (trimmed (without_plus (take n right)))) (is_apart (take n right) (drop (n + 1) right)) h in
    let plus = begins_with 43 (reverse before) in
    let core : List ℕ → List ℕ = λ xs. trimmed (cond (begins_with 43 (reverse xs)) (without_last xs) xs) in
    let good : (not (is_empty (core before)) && list_all is_name_byte (core before)) ≡ true =
    ap (λ xs. not (is_empty (core xs)) && list_all is_name_byte (core xs)) (sym left) ∙ both.0 in
    let apart : is_apart before rest ≡ true = ap (λ xs. is_apart xs rest) (sym left) ∙ ap (is_apart (take n right)) (sym behind) ∙ both.1 in
    let parts = and_true (not (is_empty (core before))) (list_all is_name_byte (core before)) good in
    (before, rest, e ∙ ap (λ c. before ++ c ∷ rest) same, whole, core before, plus, spelled before plus refl, not_true (is_empty (core before)) parts.0, parts.1, apart)

conditional_said : (right : List ℕ) → conditional_at right (first_outside 61 61 Outside right) ≡ true → IsConditional right
conditional_said right h = conditional_of right (first_outside 61 61 Outside right) (said 61 61 refl right) h

conditional_is : (right : List ℕ) → IsConditional right → conditional_at right (first_outside 61 61 Outside right) ≡ true
unfolding conditional_at is_macro_name
conditional_is right (left, value, e, whole, name, append, spells, some, all, apart) =
    ap (conditional_at right) (cut_found 61 61 refl right left 61 value e whole refl)
    ∙ ap (λ xs. is_macro_name (trimmed (without_plus xs)) && is_apart xs (drop (length left + 1) right)) (cut_left right left 61 value (length left) e refl)
    ∙ ap (λ xs. is_macro_name (trimmed (without_plus left)) && is_apart left xs) (cut_right right left 61 value (length left) e refl)
    ∙ ap (λ xs. is_macro_name xs && is_apart left value) (plus_off left name append spells)
    ∙ ap (λ t. (not t && list_all is_name_byte name) && is_apart left value) some ∙ ap (λ t. t && is_apart left value) all ∙ apart

module _ (profile : Profile) (left right : List ℕ) where
  -- such a `:=` is refused
  abbrev pub is_unset : Bool
  is_unset = not (is_wide profile) || ((is_empty (trimmed left) || list_any is_blank (trimmed left)) || conditional_at right (first_outside 61 61 Outside right))

  pub set_parts : is_unset ≡ false → (is_wide profile ≡ true) × IsSet left right
  set_parts f =
      let conditional = conditional_at right (first_outside 61 61 Outside right) in
      let no_name = is_empty (trimmed left) || list_any is_blank (trimmed left) in
      let one = or_false (not (is_wide profile)) (no_name || conditional) f in
      let two = or_false no_name conditional one.1 in
      let word = or_false (is_empty (trimmed left)) (list_any is_blank (trimmed left)) two.0 in
      (not_false (is_wide profile) one.0, ((trimmed left, trimmed_padded left, word), (λ c. absurd (cc (conditional_is right c, two.1)))))

  pub set_taken : is_wide profile ≡ true → IsSet left right → is_unset ≡ false
  set_taken wide ((name, padded, one), none) =
      let conditional = conditional_at right (first_outside 61 61 Outside right) in
      ap (λ w. not w || ((is_empty (trimmed left) || list_any is_blank (trimmed left)) || conditional)) wide
      ∙ ap (λ xs. (is_empty xs || list_any is_blank xs) || conditional) (trimmed_is left name padded)
      ∙ ap (λ t. (t || list_any is_blank name) || conditional) one.0 ∙ ap (λ t. t || conditional) one.1
      ∙ either _ conditional (λ e. absurd (none (conditional_said right e))) (λ e. e)
