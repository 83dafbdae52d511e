-- A line says one thing.
use Rattle.std.proofs.Common.{◌≡◌, ℕ, true, false, cond, List, Option, Some, None, refl, sym, ap, ◌∙◌, subst, codes, true≢false}
use Rattle.std.specs.Str.{bytes_eq}
use Rattle.std.proofs.lemmas.Slice.Eq.{bytes_eq-Decides}
use Rattle.byte_strings.specs.Blanks.{trimmed_start}
use Rattle.mk_conditionals.specs.Cut.{front_word, behind_word}
use Rattle.mk_assignments.specs.Reading.{Defined}
use Rattle.mk_assignments.specs.Definition.{Spells}
use Rattle.mk_assignments.specs.Line.{Said, defines, begins, undefines, exports, unexports, modifier_text, and_modifier, opened, Assigns, definition, define, undefine, modified, nothing, Lists, Says, assigned, listed}
use Rattle.mk_assignments.specs.Steps.{listed_at}
use Rattle.mk_assignments.specs.declared.statement.Modifier.{Modifier}
use Rattle.mk_assignments.specs.declared.statement.Modifier.TheVariants.{Export, Override, Private}
use Rattle.mk_assignments.specs.declared.statement.Modifiers.{Modifiers}
use Rattle.mk_assignments.proofs.DefinitionLemmas.{spelled}
use Rattle.mk_assignments.proofs.SignLemmas.{either}

spells_once : (text : List ℕ) (one other : Option Defined) → Spells text one → Spells text other → one ≡ other
spells_once text one other x y = sym (spelled text one x) ∙ spelled text other y

apart : (word text : List ℕ) → bytes_eq word text ≡ false → word ≡ text → ⊥
apart word text e h = true≢false (sym ((bytes_eq-Decides word text).1 h) ∙ e)

two_words : (word : List ℕ) → word ≡ codes "define" → word ≡ codes "undefine" → ⊥
two_words word e h = apart (codes "define") (codes "undefine") refl (sym e ∙ h)

no_define : (m : Modifier) (word : List ℕ) → word ≡ modifier_text m → word ≡ codes "define" → ⊥
no_define Export word e h = apart (codes "export") (codes "define") refl (sym e ∙ h)
no_define Override word e h = apart (codes "override") (codes "define") refl (sym e ∙ h)
no_define Private word e h = apart (codes "private") (codes "define") refl (sym e ∙ h)

no_undefine : (m : Modifier) (word : List ℕ) → word ≡ modifier_text m → word ≡ codes "undefine" → ⊥
no_undefine Export word e h = apart (codes "export") (codes "undefine") refl (sym e ∙ h)
no_undefine Override word e h = apart (codes "override") (codes "undefine") refl (sym e ∙ h)
no_undefine Private word e h = apart (codes "private") (codes "undefine") refl (sym e ∙ h)

same_modifier : (one other : Modifier) → modifier_text one ≡ modifier_text other → one ≡ other
same_modifier Export Export e = refl
same_modifier Override Override e = refl
same_modifier Private Private e = refl
same_modifier Export Override e = absurd (cc)
same_modifier Export Private e = absurd (cc)
same_modifier Override Export e = absurd (cc)
same_modifier Override Private e = absurd (cc)
same_modifier Private Export e = absurd (cc)
same_modifier Private Override e = absurd (cc)

pub assigns_once : {m : Modifiers} {text : List ℕ} {one other : Option Said} → Assigns m text one → Assigns m text other → one ≡ other
assigns_once {m} {text} (definition d x) (definition e y) = let same : d ≡ e = cc (spells_once text (Some d) (Some e) x y) in ap (λ k. Some (defines m k)) same
assigns_once (definition d x) (define e y w z) = absurd (y d x)
assigns_once (definition d x) (undefine y w) = absurd (y d x)
assigns_once (definition d x) (modified k y w z) = absurd (y d x)
assigns_once (definition d x) (nothing y a b c) = absurd (y d x)
assigns_once (define e y w z) (definition d x) = absurd (y d x)
assigns_once {m} {text} (define d x w y) (define e z v u) = ap (λ k. Some (begins m (opened (behind_word text) k))) (spells_once (behind_word text) d e y u)
assigns_once {m} {text} (define d x w y) (undefine z v) = absurd (two_words (front_word text) w v)
assigns_once {m} {text} (define d x w y) (modified k z v u) = absurd (no_define k (front_word text) v w)
assigns_once (define d x w y) (nothing z a b c) = absurd (b w)
assigns_once (undefine y w) (definition d x) = absurd (y d x)
assigns_once {m} {text} (undefine z v) (define d x w y) = absurd (two_words (front_word text) w v)
assigns_once (undefine y w) (undefine z v) = refl
assigns_once {m} {text} (undefine y w) (modified k z v u) = absurd (no_undefine k (front_word text) v w)
assigns_once (undefine y w) (nothing z a b c) = absurd (c w)
assigns_once (modified k y w z) (definition d x) = absurd (y d x)
assigns_once {m} {text} (modified k z v u) (define d x w y) = absurd (no_define k (front_word text) v w)
assigns_once {m} {text} (modified k z v u) (undefine y w) = absurd (no_undefine k (front_word text) v w)
assigns_once {m} {text} {one} (modified k x w y) (modified j z v u) =
    assigns_once (subst (λ i. Assigns (and_modifier i m) (behind_word text) one) (same_modifier k j (sym w ∙ v)) y) u
assigns_once (modified k x w y) (nothing z a b c) = absurd (a k w)
assigns_once (nothing y a b c) (definition d x) = absurd (y d x)
assigns_once (nothing z a b c) (define d x w y) = absurd (b w)
assigns_once (nothing z a b c) (undefine y w) = absurd (c w)
assigns_once (nothing z a b c) (modified k x w y) = absurd (a k w)
assigns_once (nothing y a b c) (nothing z d e f) = refl

same_word : (word text : List ℕ) → bytes_eq word text ≡ true → word ≡ text
same_word word text e = (bytes_eq-Decides word text).0 e

pub lists : (text : List ℕ) → Lists text (listed_at text)
unfolding listed_at
lists text =
    either (Lists text) (bytes_eq (front_word text) (codes "export")) _ _ (λ e. (same_word (front_word text) (codes "export") e, refl)) (λ unlike.
    either (Lists text) (bytes_eq (front_word text) (codes "unexport")) _ _ (λ e. (same_word (front_word text) (codes "unexport") e, refl)) (λ other.
    (apart (front_word text) (codes "export") unlike, apart (front_word text) (codes "unexport") other)))

nothing_listed : (text : List ℕ) (told : Option Said) → Lists text told → Lists text None → told ≡ None
nothing_listed text None x y = refl
nothing_listed text (Some (exports names)) x y = absurd (y.0 x.0)
nothing_listed text (Some (unexports names)) x y = absurd (y.1 x.0)
nothing_listed text (Some (defines m d)) x y = absurd x
nothing_listed text (Some (begins m d)) x y = absurd x
nothing_listed text (Some (undefines m name)) x y = absurd x

by_word : (word rest : List ℕ) → Option Said
by_word word rest = cond (bytes_eq word (codes "export")) (Some (exports rest)) (cond (bytes_eq word (codes "unexport")) (Some (unexports rest)) None)

listed_met : (text : List ℕ) (told : Option Said) → Lists text told → listed_at text ≡ told
unfolding listed_at by_word
listed_met text None x = nothing_listed text (listed_at text) (lists text) x
listed_met text (Some (exports names)) x = ap (λ w. by_word w (behind_word text)) x.0 ∙ ap (λ n. Some (exports n)) (sym x.1)
listed_met text (Some (unexports names)) x = ap (λ w. by_word w (behind_word text)) x.0 ∙ ap (λ n. Some (unexports n)) (sym x.1)
listed_met text (Some (defines m d)) x = absurd x
listed_met text (Some (begins m d)) x = absurd x
listed_met text (Some (undefines m name)) x = absurd x

some_not_none : {A : Type 0} (x : A) → Some x ≡ None → ⊥
some_not_none x h = cc

pub says_once : (text : List ℕ) {one other : Option Said} → Says text one → Says text other → one ≡ other
says_once text (assigned s x) (assigned t y) = assigns_once x y
says_once text (assigned s x) (listed told y z) = absurd (some_not_none s (assigns_once x y))
says_once text (listed told y z) (assigned s x) = absurd (some_not_none s (assigns_once x y))
says_once text (listed a x y) (listed b z w) = sym (listed_met (trimmed_start text) a y) ∙ listed_met (trimmed_start text) b w
