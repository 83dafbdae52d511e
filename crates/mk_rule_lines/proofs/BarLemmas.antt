-- The words on the one side of the bar, taken one by one.
use Rattle.std.proofs.Common.{◌≡◌, ℕ, Bool, true, false, ◌&&◌, ◌==◌, List, [], ◌∷◌, ◌++◌, refl, sym, ap, ◌∙◌, append-nil, true≢false}
use Rattle.std.specs.List.{list_any}
use Rattle.std.proofs.lemmas.Bool.{or_parts}
use Rattle.mk_profile.specs.declared.profile.Profile.{Profile}
use Rattle.mk_profile.specs.Profile.{is_wide}
use Rattle.mk_rule_lines.specs.Explicit.{is_bar, before_bar, behind_bar, without_waits, names_by}
use Rattle.mk_rule_lines.specs.declared.rule_line.RuleLine.{RuleLine}
use Rattle.mk_rule_lines.proofs.WordByteLemmas.{has_byte}

-- which of the words that are left belong to the one side, before the bar is passed or behind it
abbrev pub left_by : Profile → (order_only is_behind : Bool) → (left : List (List ℕ)) → List (List ℕ)
left_by profile false false left = before_bar profile left
left_by profile false true left = []
left_by profile true false left = behind_bar profile left
left_by profile true true left = left

-- nothing stands behind a bar that isn't there
pub none_behind : (profile : Profile) (words : List (List ℕ)) → list_any (is_bar profile) words ≡ false → behind_bar profile words ≡ []
none_behind profile [] none = refl
none_behind profile (word ∷ words) none =
    let parts = or_parts (is_bar profile word) (list_any (is_bar profile) words) none in
    let no : is_bar profile word ≡ false = parts.0 in
    simp no (none_behind profile words parts.1)

-- the order-only prerequisites of a line without a bar
pub none_order_only : (names : List (List ℕ)) (l : RuleLine) (order_only : Bool) → order_only ≡ true → list_any (is_bar l.profile) l.prerequisites ≡ false
    → names ≡ names ++ names_by order_only l
none_order_only names l true is none = sym (ap (λ ws. names ++ without_waits ws) (none_behind l.profile l.prerequisites none) ∙ append-nil names)
none_order_only names l false is none = absurd (true≢false (sym is))

-- the strict profile has no bar
pub no_bar_strict : (profile : Profile) (words : List (List ℕ)) → is_wide profile ≡ false → list_any (is_bar profile) words ≡ false
no_bar_strict profile [] strict = refl
no_bar_strict profile (word ∷ words) strict = simp strict (no_bar_strict profile words strict)

and_no : (a : Bool) → (a && false) ≡ false
and_no true = refl
and_no false = refl

-- a word without that byte is no bar
no_bar_at : (profile : Profile) (word : List ℕ) → has_byte 124 word ≡ false → is_bar profile word ≡ false
no_bar_at profile [] none = and_no (is_wide profile)
no_bar_at profile (b ∷ bs) none =
    let no : (b == 124) ≡ false = (or_parts (b == 124) (has_byte 124 bs) none).0 in
    simp no (and_no (is_wide profile))

-- nor has a line without the byte of the bar
pub no_bar : (profile : Profile) (words : List (List ℕ)) → list_any (has_byte 124) words ≡ false → list_any (is_bar profile) words ≡ false
no_bar profile [] plain = refl
no_bar profile (word ∷ words) plain =
    let parts = or_parts (has_byte 124 word) (list_any (has_byte 124) words) plain in
    let no : is_bar profile word ≡ false = no_bar_at profile word parts.0 in
    simp no (no_bar profile words parts.1)
