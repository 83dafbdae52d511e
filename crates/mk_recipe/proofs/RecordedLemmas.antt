-- The texts that are kept are those that pass the test.
use Rattle.std.proofs.Common.{◌≡◌, ◌∙◌, ℕ, Bool, true, false, cond, not, ◌&&◌, List, [], ◌∷◌, map, filter, refl, sym, ap}
use Rattle.mk_recipe.specs.declared.line.Line.{Line}
use Rattle.mk_recipe.specs.Line.{is_blank_text, Records, nothing, kept, left_out}
use Rattle.mk_recipe.specs.Tests.{is_recorded, recorded_texts}

both_false : (a b : Bool) → (not a && not b) ≡ true → (a ≡ false) × (b ≡ false)
both_false true b e = absurd cc
both_false false true e = absurd cc
both_false false false e = (refl, refl)

one_true : (a b : Bool) → (not a && not b) ≡ false → (a ≡ false) × (b ≡ false) → ⊥
one_true a b e (p, q) =
    let both : (not a && not b) ≡ true = rw (p, q) refl in
    let clash : true ≡ false = sym both ∙ e in cc

recorded_one : (line : Line) (lines : List Line) (b : Bool) → is_recorded line ≡ b → Records lines (recorded_texts lines)
    → Records (line ∷ lines) (map (λ l. l.text) (cond b (line ∷ filter is_recorded lines) (filter is_recorded lines)))
recorded_one line lines true e rest = kept line (both_false line.is_exempt (is_blank_text line.text) e) rest
recorded_one line lines false e rest = left_out line (one_true line.is_exempt (is_blank_text line.text) e) rest

-- the texts that pass are the recorded ones
pub recorded_by : (lines : List Line) → Records lines (recorded_texts lines)
recorded_by [] = nothing
recorded_by (line ∷ lines) = recorded_one line lines (is_recorded line) refl (recorded_by lines)

-- ---- one list

same_behind : (line : Line) (lines : List Line) (a b : List (List ℕ)) → ((x y : List (List ℕ)) → Records lines x → Records lines y → x ≡ y)
    → Records (line ∷ lines) a → Records (line ∷ lines) b → a ≡ b
same_behind line lines a b same (kept _ is here) (kept _ is' there) = ap (λ ts. line.text ∷ ts) (same _ _ here there)
same_behind line lines a b same (kept _ is here) (left_out _ other there) = absurd (other is)
same_behind line lines a b same (left_out _ other here) (kept _ is there) = absurd (other is)
same_behind line lines a b same (left_out _ other here) (left_out _ other' there) = same _ _ here there

pub same_records : (lines : List Line) (a b : List (List ℕ)) → Records lines a → Records lines b → a ≡ b
same_records [] a b nothing nothing = refl
same_records (line ∷ lines) a b h k = same_behind line lines a b (same_records lines) h k
