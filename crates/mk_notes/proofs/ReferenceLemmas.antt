-- The references of a text, one byte after the other.
use Rattle.std.proofs.Common.{◌≡◌, ◌∙◌, ℕ, Bool, true, false, not, ◌&&◌, ◌||◌, List, [], ◌∷◌, refl, sym, ap}
use Rattle.std.specs.List.{list_any}
use Rattle.mk_profile.specs.declared.profile.Profile.{Profile}
use Rattle.mk_notes.specs.Notes.{all_noted}
use Rattle.mk_notes.specs.References.{is_dollar, subjects_in}
use Rattle.mk_notes.specs.declared.note.Note.{Note}

-- a test that fails for a list fails for its first element and for the others
neither : (first others : Bool) → (first || others) ≡ false → (first ≡ false) × (others ≡ false)
neither false others none = (refl, none)
neither true others none = absurd cc

-- a text without a dollar has no references
no_subjects : (profile : Profile) (text : List ℕ) → list_any is_dollar text ≡ false → subjects_in profile false text ≡ []
no_subjects profile [] none = refl
no_subjects profile (b ∷ text) none =
    let (plain, others) = neither (is_dollar b) (list_any is_dollar text) none in
    ap (λ d. subjects_in profile (d && true) text) plain ∙ no_subjects profile text others

refused : (b : Bool) → not b ≡ true → b ≡ false
refused false is = refl
refused true is = absurd cc

pub none_noted : (profile : Profile) (file : List ℕ) (line : ℕ) (text : List ℕ) (notes : List Note) → not (list_any is_dollar text) ≡ true →
    notes ≡ all_noted file line (subjects_in profile false text) notes
none_noted profile file line text notes none = ap (λ ss. all_noted file line ss notes) (sym (no_subjects profile text (refused (list_any is_dollar text) none)))
