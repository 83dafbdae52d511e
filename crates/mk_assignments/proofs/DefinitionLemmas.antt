-- Definitions are read as they are spelled.
use Rattle.std.proofs.Common.{◌≡◌, ℕ, ◌-◌, List, ◌++◌, take, length, Option, Some, None, refl, sym, ap, ◌∙◌, subst, arith, length-append}
use Rattle.std.proofs.Math.Seq.{take-append_seam}
use Rattle.byte_strings.specs.Blanks.{trimmed_start}
use Rattle.mk_assignments.specs.Reading.{outside, behind_name, sign_at, Defined, signed, named, definition}
use Rattle.mk_assignments.specs.Definition.{Defines, Spells}
use Rattle.mk_assignments.specs.declared.sign.Sign.{Sign}
use Rattle.mk_assignments.proofs.NameLemmas.{name_met, name_said}
use Rattle.mk_assignments.proofs.SignLemmas.{sign_met, HasSign, sign_said, stops}

front_of : (name behind : List ℕ) → take (length (name ++ behind) - length behind) (name ++ behind) ≡ name
front_of name behind =
    let size : length (name ++ behind) - length behind ≡ length name = omega (arith, length-append name behind) in
    ap (λ n. take n (name ++ behind)) size ∙ take-append_seam name behind

defines_met : (text : List ℕ) (d : Defined) → Defines text d → definition text ≡ Some d
unfolding definition
defines_met text d (behind, mark, more, whole, name, at, sign, value) =
    ap (λ t. named t (behind_name outside t)) whole
    ∙ ap (named (d.name ++ behind)) (name_met behind name (stops behind more sign at))
    ∙ ap (λ n. signed n (sign_at (trimmed_start behind))) (front_of d.name behind)
    ∙ ap (λ t. signed d.name (sign_at t)) at
    ∙ ap (signed d.name) (sign_met more sign)
    ∙ ap (λ v. Some (record { name = d.name; sign = d.sign; value = v })) (sym value)

said_by_sign : (text behind : List ℕ) (found : Option (Sign × List ℕ)) (d : Defined) → behind_name outside text ≡ Some behind → HasSign (trimmed_start behind) found →
    signed (take (length text - length behind) text) found ≡ Some d → Defines text d
said_by_sign text behind None d e is h = absurd (cc)
said_by_sign text behind (Some found) d e is h =
    let w = name_said text behind e in
    let front : take (length text - length behind) text ≡ w.0 = ap (λ t. take (length t - length behind) t) w.1 ∙ front_of w.0 behind in
    let whole : record { name = w.0; sign = found.0; value = trimmed_start found.1 } ≡ d = cc in
    subst (Defines text) whole (behind, is.0, found.1, w.1, w.2, is.2, is.1, refl)

said_behind : (text : List ℕ) (behind : Option (List ℕ)) (d : Defined) → behind_name outside text ≡ behind → named text behind ≡ Some d → Defines text d
said_behind text None d e h = absurd (cc)
said_behind text (Some behind) d e h = said_by_sign text behind (sign_at (trimmed_start behind)) d e (sign_said (trimmed_start behind)) h

defines_said : (text : List ℕ) (d : Defined) → definition text ≡ Some d → Defines text d
unfolding definition
defines_said text d h = said_behind text (behind_name outside text) d refl h

none_not_some : {A : Type 0} (o : Option A) (x : A) → o ≡ None → o ≡ Some x → ⊥
none_not_some o x e h = cc

pub spells : (text : List ℕ) (told : Option Defined) → definition text ≡ told → Spells text told
spells text (Some d) e = defines_said text d e
spells text None e = λ d is. none_not_some (definition text) d e (defines_met text d is)

nothing_found : (text : List ℕ) (found : Option Defined) → definition text ≡ found → Spells text None → found ≡ None
nothing_found text None e is = refl
nothing_found text (Some d) e is = absurd (is d (defines_said text d e))

pub spelled : (text : List ℕ) (told : Option Defined) → Spells text told → definition text ≡ told
spelled text (Some d) is = defines_met text d is
spelled text None is = nothing_found text (definition text) refl is
