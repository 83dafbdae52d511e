-- Texts in which quoted colons aren't seen.
use Rattle.std.proofs.Common.{◌≡◌, ◌⊎◌, ℕ, ◌+◌, Bool, true, false, cond, not, ◌&&◌, ◌||◌, ◌==◌, List, [], ◌∷◌, ◌++◌, length, take, drop, Option, Some, None, inl, inr, refl, sym, ap, subst, ◌∙◌}
use Rattle.std.specs.List.{list_any}
use Rattle.mk_profile.specs.Profile.{is_wide}
use Rattle.mk_profile.specs.declared.profile.Profile.{Profile}
use Rattle.mk_lines.specs.Text.{is_backslash}
use Rattle.mk_lines.specs.Quoted.{seen, quotes, seen_from, without_quoted, signs_in, IsColonCut}
use Rattle.mk_lines.specs.References.{Without, first_outside}
use Rattle.mk_lines.specs.declared.reference.Place.TheVariants.{Outside}
use Rattle.mk_lines.proofs.ReferenceLemmas.{or_false, cut_found, none_found, Said, said}
use Rattle.mk_lines.proofs.CutLemmas.{one_of, cut_left, cut_right}

plain_from : (text : List ℕ) → list_any is_backslash text ≡ false → seen_from false text ≡ text
plain_from [] h = refl
plain_from (b ∷ bs) h =
    let parts = or_false (is_backslash b) (list_any is_backslash bs) h in
    ap (λ t. b ∷ seen_from (t && true) bs) parts.0 ∙ ap (λ xs. b ∷ xs) (plain_from bs parts.1)

pub all_seen : (text : List ℕ) → list_any is_backslash text ≡ false → without_quoted text ≡ text
all_seen = plain_from

-- in the strict profile, and in a text without a backslash, all is seen
pub none_quoted : (profile : Profile) (text : List ℕ) → (is_wide profile && list_any is_backslash text) ≡ false → signs_in profile text ≡ text
none_quoted profile text h = by (is_wide profile) h
  where
    by : (wide : Bool) → (wide && list_any is_backslash text) ≡ false → cond wide (without_quoted text) text ≡ text
    by true h = plain_from text h
    by false h = refl

-- where a sign is seen it stands
seen_byte : (quoted : Bool) (b c : ℕ) → (c == 61 || c == 58) ≡ true → seen quoted b ≡ c → b ≡ c
seen_byte quoted b c is_one e = by (quoted && b == 58) e
  where
    by : (t : Bool) → cond t 95 b ≡ c → b ≡ c
    by true e = absurd (cc (sym is_one ∙ ap (λ x. x == 61 || x == 58) (sym e)))
    by false e = e

pub cut_from : (quoted : Bool) (text before : List ℕ) (c : ℕ) (behind : List ℕ) → (c == 61 || c == 58) ≡ true → seen_from quoted text ≡ before ++ c ∷ behind →
    (left : List ℕ) × (right : List ℕ) × (text ≡ left ++ c ∷ right) × (length before ≡ length left)
cut_from quoted [] [] c behind is_one e = absurd (cc e)
cut_from quoted [] (a ∷ before) c behind is_one e = absurd (cc e)
cut_from quoted (b ∷ bs) [] c behind is_one e =
    let same : b ≡ c = seen_byte quoted b c is_one (cc e) in
    ([], bs, ap (λ x. x ∷ bs) same, refl)
cut_from quoted (b ∷ bs) (a ∷ before) c behind is_one e =
    let (left, right, at, long) = cut_from (quotes quoted b) bs before c behind is_one (cc e) in
    (b ∷ left, right, ap (λ xs. b ∷ xs) at, cc long)

pub cut_seen : (profile : Profile) (text before : List ℕ) (c : ℕ) (behind : List ℕ) → (c == 61 || c == 58) ≡ true → signs_in profile text ≡ before ++ c ∷ behind →
    (left : List ℕ) × (right : List ℕ) × (text ≡ left ++ c ∷ right) × (length before ≡ length left)
cut_seen profile text before c behind is_one e = by (is_wide profile) e
  where
    by : (wide : Bool) → cond wide (without_quoted text) text ≡ before ++ c ∷ behind → (left : List ℕ) × (right : List ℕ) × (text ≡ left ++ c ∷ right) × (length before ≡ length left)
    by true e = cut_from false text before c behind is_one e
    by false e = (before, behind, e, refl)

-- a byte that is neither a colon nor a backslash parts a text in two that are seen apart
apart_from : (quoted : Bool) (text : List ℕ) (b : ℕ) (more : List ℕ) → (b == 58) ≡ false → is_backslash b ≡ false →
    seen_from quoted (text ++ b ∷ more) ≡ seen_from quoted text ++ b ∷ without_quoted more
apart_from quoted [] b more colon backslash =
    ap (λ t. cond (quoted && t) 95 b ∷ seen_from (is_backslash b && not quoted) more) colon
    ∙ ap (λ t. cond t 95 b ∷ seen_from (is_backslash b && not quoted) more) (never quoted)
    ∙ ap (λ t. b ∷ seen_from (t && not quoted) more) backslash
  where
    never : (t : Bool) → (t && false) ≡ false
    never true = refl
    never false = refl
apart_from quoted (a ∷ text) b more colon backslash = ap (λ xs. seen quoted a ∷ xs) (apart_from (quotes quoted a) text b more colon backslash)

pub seen_apart : (profile : Profile) (text : List ℕ) (b : ℕ) (more : List ℕ) → (b == 58) ≡ false → is_backslash b ≡ false →
    signs_in profile (text ++ b ∷ more) ≡ signs_in profile text ++ b ∷ signs_in profile more
seen_apart profile text b more colon backslash = by (is_wide profile)
  where
    by : (wide : Bool) → cond wide (without_quoted (text ++ b ∷ more)) (text ++ b ∷ more) ≡ cond wide (without_quoted text) text ++ b ∷ cond wide (without_quoted more) more
    by true = apart_from false text b more colon backslash
    by false = refl

pub seen_first : (profile : Profile) (b : ℕ) (more : List ℕ) → is_backslash b ≡ false → signs_in profile (b ∷ more) ≡ b ∷ signs_in profile more
seen_first profile b more backslash = by (is_wide profile)
  where
    by : (wide : Bool) → cond wide (without_quoted (b ∷ more)) (b ∷ more) ≡ b ∷ cond wide (without_quoted more) more
    by true = ap (λ t. b ∷ seen_from (t && true) more) backslash
    by false = refl

length_from : (quoted : Bool) (text : List ℕ) → length (seen_from quoted text) ≡ length text
length_from quoted [] = refl
length_from quoted (b ∷ bs) = cc (length_from (quotes quoted b) bs)

pub seen_length : (profile : Profile) (text : List ℕ) → length (signs_in profile text) ≡ length text
seen_length profile text = by (is_wide profile)
  where
    by : (wide : Bool) → length (cond wide (without_quoted text) text) ≡ length text
    by true = length_from false text
    by false = refl

-- the first colon that is seen, where there is one
pub colon_none : (o : Option ℕ) (text : List ℕ) → o ≡ first_outside 58 58 Outside (without_quoted text) → o ≡ None → Without 58 58 (without_quoted text)
colon_none o text found none = subst (λ p. Said 58 58 refl p (without_quoted text)) (sym found ∙ none) (said 58 58 refl (without_quoted text))

pub colon_some : (o : Option ℕ) (text : List ℕ) (n : ℕ) → o ≡ first_outside 58 58 Outside (without_quoted text) → o ≡ Some n → IsColonCut text (take n text) (drop (n + 1) text)
colon_some o text n found some =
    let (before, b, behind, seen, whole, is_one, count) = subst (λ p. Said 58 58 refl p (without_quoted text)) (sym found ∙ some) (said 58 58 refl (without_quoted text)) in
    let at : without_quoted text ≡ before ++ 58 ∷ behind = seen ∙ ap (λ c. before ++ c ∷ behind) (one_of 58 b is_one) in
    let (left, right, e, same) = cut_from false text before 58 behind refl at in
    let long : length left ≡ n = sym same ∙ count in
    let front : take n text ≡ left = cut_left text left 58 right n e long in
    let back : drop (n + 1) text ≡ right = cut_right text left 58 right n e long in (
      e ∙ ap (λ xs. xs ++ 58 ∷ right) (sym front) ∙ ap (λ xs. take n text ++ 58 ∷ xs) (sym back),
      before,
      behind,
      at,
      whole,
      same ∙ ap length (sym front),
    )

-- it is one
abbrev length_of : Option ℕ → ℕ
length_of None = 0
length_of (Some n) = n

colon_place : (text left right : List ℕ) → IsColonCut text left right → first_outside 58 58 Outside (without_quoted text) ≡ Some (length left)
colon_place text left right (e, before, behind, seen, whole, long) = cut_found 58 58 refl (without_quoted text) before 58 behind seen whole refl ∙ ap Some long

pub one_colon : (text left right l r : List ℕ) → IsColonCut text left right → IsColonCut text l r → (left ≡ l) × (right ≡ r)
one_colon text left right l r a b =
    let long : length left ≡ length l = ap length_of (sym (colon_place text left right a) ∙ colon_place text l r b) in (
      sym (cut_left text left 58 right (length l) a.0 long) ∙ cut_left text l 58 r (length l) b.0 refl,
      sym (cut_right text left 58 right (length l) a.0 long) ∙ cut_right text l 58 r (length l) b.0 refl,
    )

pub no_colon : (text left right : List ℕ) → IsColonCut text left right → Without 58 58 (without_quoted text) → ⊥
no_colon text left right a w =
    let e : Some (length left) ≡ None = sym (colon_place text left right a) ∙ none_found 58 58 refl (without_quoted text) w in
    cc e

pub colon_found : (text : List ℕ) → Without 58 58 (without_quoted text) ⊎ ((left : List ℕ) × (right : List ℕ) × IsColonCut text left right)
colon_found text = at (first_outside 58 58 Outside (without_quoted text)) refl
  where
    at : (o : Option ℕ) → o ≡ first_outside 58 58 Outside (without_quoted text) → Without 58 58 (without_quoted text) ⊎ ((left : List ℕ) × (right : List ℕ) × IsColonCut text left right)
    at None e = inl (colon_none None text e refl)
    at (Some n) e = inr (take n text, drop (n + 1) text, colon_some (Some n) text n e refl)
