-- Signs are read as they are spelled.
use Rattle.std.proofs.Common.{◌≡◌, ℕ, ◌+◌, Bool, true, false, cond, ◌||◌, ◌&&◌, ◌==◌, List, [], ◌∷◌, ◌++◌, take, drop, length, Option, Some, None, refl, sym, ap, ◌∙◌, subst, eqb-true, codes}
use Rattle.std.specs.List.{prefix_len}
use Rattle.std.proofs.lemmas.List.{take-append-drop}
use Rattle.std.proofs.lemmas.Slice.Eq.{bytes_eq-Decides}
use Rattle.byte_strings.specs.Blanks.{is_blank, trimmed_start}
use Rattle.mk_conditionals.specs.Spelled.{begins_with}
use Rattle.mk_assignments.specs.Name.{is_half}
use Rattle.mk_assignments.specs.Sign.{IsSign, equals, colon, two_colons, three_colons, question, plus, exclamation}
use Rattle.mk_assignments.specs.Reading.{sign_at}
use Rattle.mk_assignments.specs.declared.sign.Sign.{Sign}
use Rattle.mk_assignments.proofs.NameLemmas.{Stops}

pub either : {A : Type 0} (P : A → Type 0) (t : Bool) (x y : A) → (t ≡ true → P x) → (t ≡ false → P y) → P (cond t x y)
either P true x y then otherwise = then refl
either P false x y then otherwise = otherwise refl

pub sign_met : (more : List ℕ) {mark : List ℕ} {sign : Sign} → IsSign mark sign → sign_at (mark ++ more) ≡ Some (sign, more)
unfolding sign_at
sign_met more equals = refl
sign_met more colon = refl
sign_met more two_colons = refl
sign_met more three_colons = refl
sign_met more question = refl
sign_met more plus = refl
sign_met more exclamation = refl

begins : (front text : List ℕ) → begins_with front text ≡ true → text ≡ front ++ drop (length front) text
begins front text e =
    let same : front ≡ take (length front) text = (bytes_eq-Decides front (take (length front) text)).0 e in
    sym (take-append-drop (length front) text) ∙ ap (λ f. f ++ drop (length front) text) (sym same)

-- a text begins with this sign, where one is told
abbrev pub HasSign : (text : List ℕ) → Option (Sign × List ℕ) → Type 0
HasSign text None = Unit {0}
HasSign text (Some found) = (mark : List ℕ) × IsSign mark found.0 × (text ≡ mark ++ found.1)

pub sign_said : (text : List ℕ) → HasSign text (sign_at text)
unfolding sign_at
sign_said text =
    either (HasSign text) (begins_with (codes "=") text) _ _ (λ e. (codes "=", equals, begins (codes "=") text e)) (λ _.
    either (HasSign text) (begins_with (codes ":=") text) _ _ (λ e. (codes ":=", colon, begins (codes ":=") text e)) (λ _.
    either (HasSign text) (begins_with (codes "::=") text) _ _ (λ e. (codes "::=", two_colons, begins (codes "::=") text e)) (λ _.
    either (HasSign text) (begins_with (codes ":::=") text) _ _ (λ e. (codes ":::=", three_colons, begins (codes ":::=") text e)) (λ _.
    either (HasSign text) (begins_with (codes "?=") text) _ _ (λ e. (codes "?=", question, begins (codes "?=") text e)) (λ _.
    either (HasSign text) (begins_with (codes "+=") text) _ _ (λ e. (codes "+=", plus, begins (codes "+=") text e)) (λ _.
    either (HasSign text) (begins_with (codes "!=") text) _ _ (λ e. (codes "!=", exclamation, begins (codes "!=") text e)) (λ _. record {})))))))

sign_stops : (more : List ℕ) {mark : List ℕ} {sign : Sign} → IsSign mark sign → Stops (mark ++ more)
sign_stops more equals = (refl, refl)
sign_stops more colon = (refl, refl)
sign_stops more two_colons = (refl, refl)
sign_stops more three_colons = (refl, refl)
sign_stops more question = (refl, refl)
sign_stops more plus = (refl, refl)
sign_stops more exclamation = (refl, refl)

no_dollar : (t : Bool) (b : ℕ) → (b == 36) ≡ t → is_blank b ≡ true → t ≡ false
no_dollar true b e h = let same : b ≡ 36 = eqb-true b 36 e in absurd (cc (subst (λ x. is_blank x ≡ true) same h))
no_dollar false b e h = refl

stops_by : (t : Bool) (b : ℕ) (bs more : List ℕ) {mark : List ℕ} {sign : Sign} → is_blank b ≡ t → IsSign mark sign →
    drop (cond t (1 + prefix_len is_blank bs) 0) (b ∷ bs) ≡ mark ++ more → Stops (b ∷ bs)
stops_by true b bs more e is h =
    (no_dollar (b == 36) b refl e, ap (λ t. t || b == 35 || b == 58 || b == 61 || (is_half b && begins_with (codes "=") bs)) e)
stops_by false b bs more e is h = subst Stops (sym h) (sign_stops more is)

-- a name ends in front of a sign, and of the blanks in front of one
pub stops : (behind more : List ℕ) {mark : List ℕ} {sign : Sign} → IsSign mark sign → trimmed_start behind ≡ mark ++ more → Stops behind
unfolding trimmed_start
stops [] more is h = subst Stops (sym h) (sign_stops more is)
stops (b ∷ bs) more is h = stops_by (is_blank b) b bs more refl is h
