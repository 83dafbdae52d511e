-- What is read of a line is what it spells.
use Rattle.std.proofs.Common.{◌≡◌, ℕ, Bool, true, false, cond, List, Option, Some, None, refl, sym, ap, ◌∙◌, subst, codes, true≢false}
use Rattle.std.specs.Str.{bytes_eq}
use Rattle.std.proofs.lemmas.Slice.Eq.{bytes_eq-Decides}
use Rattle.byte_strings.specs.Blanks.{is_nonempty}
use Rattle.mk_conditionals.specs.Cut.{front_word, behind_word}
use Rattle.mk_conditionals.specs.Spelled.{Asked, equal, defined, invalid, Condition, Said, Arguments, Tested, arguments, compared, asked_for, tested, turned, begun, said_behind, is_sign_next, said}
use Rattle.mk_conditionals.specs.Spelling.{Keyword, ifeq, ifneq, ifdef, ifndef, keyword_text, Compares, SpellsTest, BeginsWith, Spells}
use Rattle.mk_conditionals.specs.declared.directive.Directive.TheVariants.{Begins, Turns, Ends}
use Rattle.mk_conditionals.proofs.ArgumentLemmas.{arguments_met, arguments_said}

none_not_some : {A : Type 0} (o : Option A) (x : A) → o ≡ None → o ≡ Some x → ⊥
none_not_some o x e h = cc

no_arguments : (rest : List ℕ) (found : Option Arguments) → arguments rest ≡ found → Compares rest invalid false → found ≡ None
no_arguments rest None e h = refl
no_arguments rest (Some told) e h = absurd (h.0 told.0 told.1 told.2 (arguments_said rest told e))

compared_met : (negated : Bool) (rest : List ℕ) (asked : Asked) (behind : Bool) → Compares rest asked behind →
    compared negated (arguments rest) ≡ (record { is_negated = negated; asked = asked }, behind)
compared_met negated rest (equal first second) behind (left, spelled, is) =
    ap (compared negated) (arguments_met rest first second left spelled) ∙ ap (λ t. (record { is_negated = negated; asked = equal first second }, t)) (sym is)
compared_met negated rest invalid behind h =
    ap (compared negated) (no_arguments rest (arguments rest) refl (h.0, refl)) ∙ ap (λ t. (record { is_negated = negated; asked = invalid }, t)) (sym h.1)
compared_met negated rest (defined name) behind h = absurd h

compared_at : (negated : Bool) (rest : List ℕ) (found : Option Arguments) → arguments rest ≡ found →
    ((compared negated found).0.is_negated ≡ negated) × Compares rest (compared negated found).0.asked (compared negated found).1
compared_at negated rest None e =
    (refl, ((λ first second behind h. none_not_some (arguments rest) (first, second, behind) e (arguments_met rest first second behind h)), refl))
compared_at negated rest (Some told) e = (refl, (told.2, arguments_said rest told e, refl))

pub tested_met : (word : Keyword) (rest : List ℕ) (test : Condition) (behind : Bool) → SpellsTest word rest test behind → tested (keyword_text word) rest ≡ Some (test, behind)
unfolding tested
tested_met ifeq rest test behind h =
    ap Some (compared_met false rest test.asked behind h.1 ∙ ap (λ n. (record { is_negated = n; asked = test.asked }, behind)) (sym h.0))
tested_met ifneq rest test behind h =
    ap Some (compared_met true rest test.asked behind h.1 ∙ ap (λ n. (record { is_negated = n; asked = test.asked }, behind)) (sym h.0))
tested_met ifdef rest test behind h =
    let one : asked_for false rest ≡ (test, behind) =
    ap (λ n. (record { is_negated = n; asked = defined rest }, false)) (sym h.0)
    ∙ ap (λ a. (record { is_negated = test.is_negated; asked = a }, false)) (sym h.1)
    ∙ ap (λ t. (test, t)) (sym h.2) in
    ap Some one
tested_met ifndef rest test behind h =
    let one : asked_for true rest ≡ (test, behind) =
    ap (λ n. (record { is_negated = n; asked = defined rest }, false)) (sym h.0)
    ∙ ap (λ a. (record { is_negated = test.is_negated; asked = a }, false)) (sym h.1)
    ∙ ap (λ t. (test, t)) (sym h.2) in
    ap Some one

-- a word that begins this test
abbrev Begun : (word rest : List ℕ) → Tested → Type 0
Begun word rest told = (key : Keyword) × (word ≡ keyword_text key) × SpellsTest key rest told.0 told.1

same_word : (word text : List ℕ) → bytes_eq word text ≡ true → word ≡ text
same_word word text e = (bytes_eq-Decides word text).0 e

fourth : (t : Bool) (word rest : List ℕ) (told : Tested) → bytes_eq word (codes "ifndef") ≡ t → cond t (Some (asked_for true rest)) None ≡ Some told → Begun word rest told
fourth true word rest told e h =
    let is : asked_for true rest ≡ told = cc in
    subst (λ (p : Tested). Begun word rest p) is (ifndef, same_word word (codes "ifndef") e, (refl, refl, refl))
fourth false word rest told e h = absurd (cc)

third : (t : Bool) (word rest : List ℕ) (told : Tested) → bytes_eq word (codes "ifdef") ≡ t →
    cond t (Some (asked_for false rest)) (cond (bytes_eq word (codes "ifndef")) (Some (asked_for true rest)) None) ≡ Some told → Begun word rest told
third true word rest told e h =
    let is : asked_for false rest ≡ told = cc in
    subst (λ (p : Tested). Begun word rest p) is (ifdef, same_word word (codes "ifdef") e, (refl, refl, refl))
third false word rest told e h = fourth (bytes_eq word (codes "ifndef")) word rest told refl h

second : (t : Bool) (word rest : List ℕ) (told : Tested) → bytes_eq word (codes "ifneq") ≡ t →
    cond t (Some (compared true (arguments rest))) (cond (bytes_eq word (codes "ifdef")) (Some (asked_for false rest))
    (cond (bytes_eq word (codes "ifndef")) (Some (asked_for true rest)) None)) ≡ Some told → Begun word rest told
second true word rest told e h =
    let is : compared true (arguments rest) ≡ told = cc in
    subst (λ (p : Tested). Begun word rest p) is (ifneq, same_word word (codes "ifneq") e, compared_at true rest (arguments rest) refl)
second false word rest told e h = third (bytes_eq word (codes "ifdef")) word rest told refl h

first : (t : Bool) (word rest : List ℕ) (told : Tested) → bytes_eq word (codes "ifeq") ≡ t →
    cond t (Some (compared false (arguments rest))) (cond (bytes_eq word (codes "ifneq")) (Some (compared true (arguments rest)))
    (cond (bytes_eq word (codes "ifdef")) (Some (asked_for false rest)) (cond (bytes_eq word (codes "ifndef")) (Some (asked_for true rest)) None)))
    ≡ Some told → Begun word rest told
first true word rest told e h =
    let is : compared false (arguments rest) ≡ told = cc in
    subst (λ (p : Tested). Begun word rest p) is (ifeq, same_word word (codes "ifeq") e, compared_at false rest (arguments rest) refl)
first false word rest told e h = second (bytes_eq word (codes "ifneq")) word rest told refl h

tested_said : (word rest : List ℕ) (told : Tested) → tested word rest ≡ Some told → Begun word rest told
unfolding tested
tested_said word rest told h = first (bytes_eq word (codes "ifeq")) word rest told refl h

-- each of the four words begins a test
tested_some : (key : Keyword) (rest : List ℕ) → tested (keyword_text key) rest ≡ None → ⊥
unfolding tested
tested_some ifeq rest h = cc
tested_some ifneq rest h = cc
tested_some ifdef rest h = cc
tested_some ifndef rest h = cc

untested : (word rest : List ℕ) → tested word rest ≡ None → (key : Keyword) → word ≡ keyword_text key → ⊥
untested word rest h key e = tested_some key rest (subst (λ w. tested w rest ≡ None) e h)

no_test : (word rest : List ℕ) (found : Option Tested) → tested word rest ≡ found → ((key : Keyword) → word ≡ keyword_text key → ⊥) → found ≡ None
no_test word rest None e h = refl
no_test word rest (Some told) e h = let w = tested_said word rest told e in absurd (h w.0 w.1)

said_behind_word : (text word : List ℕ) → BeginsWith text word → said text ≡ said_behind word (behind_word text)
unfolding said
said_behind_word text word h =
    ap (λ t. cond t None (said_behind (front_word text) (behind_word text))) h.1 ∙ ap (λ w. said_behind w (behind_word text)) h.0

begun_behind : (key : Keyword) (rest : List ℕ) → said_behind (keyword_text key) rest ≡ begun (tested (keyword_text key) rest)
begun_behind ifeq rest = refl
begun_behind ifneq rest = refl
begun_behind ifdef rest = refl
begun_behind ifndef rest = refl

module _ (text : List ℕ) where
  -- the line begins with none of the six words
  abbrev IsOther : Type 0
  IsOther = ((key : Keyword) → front_word text ≡ keyword_text key → ⊥) × (front_word text ≡ codes "else" → ⊥) × (front_word text ≡ codes "endif" → ⊥)

  other_spells : IsOther → Spells text None
  other_spells h = ((λ key w. h.0 key w.0), (λ w. h.1 w.0), (λ w. h.2 w.0))

  apart : (word : List ℕ) → bytes_eq (front_word text) word ≡ false → front_word text ≡ word → ⊥
  apart word e h = true≢false (sym ((bytes_eq-Decides (front_word text) word).1 h) ∙ e)

  begun_spells : (found : Option Tested) → tested (front_word text) (behind_word text) ≡ found → is_sign_next (behind_word text) ≡ false →
      bytes_eq (front_word text) (codes "else") ≡ false → bytes_eq (front_word text) (codes "endif") ≡ false → Spells text (begun found)
  begun_spells None e sign no_else no_endif =
      other_spells (untested (front_word text) (behind_word text) e, apart (codes "else") no_else, apart (codes "endif") no_endif)
  begun_spells (Some told) e sign no_else no_endif =
      let w = tested_said (front_word text) (behind_word text) told e in (w.0, (w.1, sign), w.2)

  turned_spells : (found : Option Tested) → tested (front_word (behind_word text)) (behind_word (behind_word text)) ≡ found →
      BeginsWith text (codes "else") → Spells text (Some (turned (behind_word text) found))
  turned_spells None e begins = (begins, untested (front_word (behind_word text)) (behind_word (behind_word text)) e, refl)
  turned_spells (Some told) e begins =
      let w = tested_said (front_word (behind_word text)) (behind_word (behind_word text)) told e in (w.0, begins, w.1, w.2)

  else_spells : (t : Bool) → bytes_eq (front_word text) (codes "else") ≡ t → is_sign_next (behind_word text) ≡ false →
      bytes_eq (front_word text) (codes "endif") ≡ false →
      Spells text (cond t (Some (turned (behind_word text) (tested (front_word (behind_word text)) (behind_word (behind_word text)))))
      (begun (tested (front_word text) (behind_word text))))
  else_spells true e sign no_endif =
      turned_spells (tested (front_word (behind_word text)) (behind_word (behind_word text))) refl (same_word (front_word text) (codes "else") e, sign)
  else_spells false e sign no_endif = begun_spells (tested (front_word text) (behind_word text)) refl sign e no_endif

  endif_spells : (t : Bool) → bytes_eq (front_word text) (codes "endif") ≡ t → is_sign_next (behind_word text) ≡ false →
      Spells text (cond t (Some (Ends, is_nonempty (behind_word text))) (cond (bytes_eq (front_word text) (codes "else"))
      (Some (turned (behind_word text) (tested (front_word (behind_word text)) (behind_word (behind_word text)))))
      (begun (tested (front_word text) (behind_word text)))))
  endif_spells true e sign = ((same_word (front_word text) (codes "endif") e, sign), refl)
  endif_spells false e sign = else_spells (bytes_eq (front_word text) (codes "else")) refl sign e

  sign_spells : (t : Bool) → is_sign_next (behind_word text) ≡ t → Spells text (cond t None (said_behind (front_word text) (behind_word text)))
  sign_spells true e = ((λ key w. true≢false (sym e ∙ w.1)), (λ w. true≢false (sym e ∙ w.1)), (λ w. true≢false (sym e ∙ w.1)))
  sign_spells false e = endif_spells (bytes_eq (front_word text) (codes "endif")) refl e

  pub said_spells : Spells text (said text)
  unfolding said
  said_spells = sign_spells (is_sign_next (behind_word text)) refl

  nothing_said : (told : Option Said) → Spells text told → Spells text None → told ≡ None
  nothing_said None x y = refl
  nothing_said (Some (Begins test, behind)) x y = absurd (y.0 x.0 x.1)
  nothing_said (Some (Turns None, behind)) x y = absurd (y.1 x.0)
  nothing_said (Some (Turns (Some test), behind)) x y = absurd (y.1 x.1)
  nothing_said (Some (Ends, behind)) x y = absurd (y.2 x.0)

  pub spells_said : (told : Option Said) → Spells text told → said text ≡ told
  spells_said None x = nothing_said (said text) said_spells x
  spells_said (Some (Begins test, behind)) x =
      said_behind_word text (keyword_text x.0) x.1 ∙ begun_behind x.0 (behind_word text) ∙ ap begun (tested_met x.0 (behind_word text) test behind x.2)
  spells_said (Some (Turns None, behind)) x =
      said_behind_word text (codes "else") x.0
      ∙ ap (λ o. Some (turned (behind_word text) o)) (no_test (front_word (behind_word text)) (behind_word (behind_word text)) (tested (front_word (behind_word text)) (behind_word (behind_word text))) refl x.1)
      ∙ ap (λ t. Some (Turns None, t)) (sym x.2)
  spells_said (Some (Turns (Some test), behind)) x =
      said_behind_word text (codes "else") x.1
      ∙ ap (λ w. Some (turned (behind_word text) (tested w (behind_word (behind_word text))))) x.2
      ∙ ap (λ o. Some (turned (behind_word text) o)) (tested_met x.0 (behind_word (behind_word text)) test behind x.3)
  spells_said (Some (Ends, behind)) x = said_behind_word text (codes "endif") x.0 ∙ ap (λ t. Some (Ends, t)) (sym x.1)
