-- Names that have no meaning elsewhere.
use Rattle.std.specs.List.{prefix_len}
use Rattle.std.proofs.Common.{◌≡◌, ℕ, suc, ◌+◌, Bool, true, false, ◌==◌, ◌&&◌, ◌||◌, List, [], ◌∷◌, take, drop, refl, sym, ap, ◌∙◌, true≢false, arith}
use Rattle.std.proofs.lemmas.Bool.{eqb-true}
use Rattle.mk_lines.specs.Text.{begins_with, is_empty}
use Rattle.mk_notes.specs.Names.{is_target, is_suffix, is_plain, is_suffix_name}

-- a name that begins with no dot is none of these
pub without_dot : (name : List ℕ) → begins_with 46 name ≡ false → false ≡ is_target name
without_dot [] none = refl
without_dot (b ∷ name) none = by (46 == b) refl
  where
    by : (t : Bool) → (46 == b) ≡ t → false ≡ is_target (b ∷ name)
    by true e =
        let here : (b == 46) ≡ true = ap (λ n. n == 46) (sym (eqb-true 46 b e)) in
        absurd (true≢false (sym here ∙ none))
    by false e = simp e refl

-- nor is it made of suffixes
unknown : (b : ℕ) (rest : List ℕ) → (46 == b) ≡ false → false ≡ is_suffix (b ∷ rest)
unknown b rest e = simp e refl

one_more : (n : ℕ) → (1 + n) ≡ suc n
one_more n = omega arith

pub no_suffix : (name : List ℕ) → begins_with 46 name ≡ false → false ≡ is_suffix_name name
no_suffix [] none = refl
no_suffix (b ∷ name) none = by (46 == b) refl
  where
    by : (t : Bool) → (46 == b) ≡ t → false ≡ is_suffix_name (b ∷ name)
    by true e =
        let here : (b == 46) ≡ true = ap (λ n. n == 46) (sym (eqb-true 46 b e)) in
        absurd (true≢false (sym here ∙ none))
    by false e =
        let n = prefix_len is_plain name in
        let behind = drop (1 + n) (b ∷ name) in
        ap (λ known. known && (is_empty behind || is_suffix behind))
        (unknown b (take n name) e ∙ ap (λ count. is_suffix (take count (b ∷ name))) (sym (one_more n)))
