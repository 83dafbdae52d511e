-- Texts that are cut at commas outside brackets.
use Rattle.std.proofs.Common.{◌≡◌, ℕ, suc, ◌+◌, ◌-◌, Bool, true, false, cond, not, ◌&&◌, ◌==◌, List, [], ◌∷◌, take, drop, Option, Some, None, option_map, refl, sym, ap, ◌∙◌, subst, eqb-true, arith}
use Rattle.mk_pieces.specs.Brackets.{next_depth, place_from, with_byte, parted}

never : (a c : Bool) → (a && (c && false)) ≡ false
never true true = refl
never true false = refl
never false c = refl

same_test : (a c e : Bool) → e ≡ false → (a && (c && not e)) ≡ (a && c)
same_test true true e h = ap not h
same_test true false e h = refl
same_test false c e h = refl

module _ (opening close : ℕ) where
  -- the last argument has all that is left
  pub parted-one : (depth : ℕ) (text : List ℕ) → parted opening close 1 depth text ≡ text ∷ []
  parted-one depth [] = refl
  parted-one depth (b ∷ text) =
      ap (λ t. cond t ([] ∷ parted opening close (1 - 1) 0 text) (with_byte b (parted opening close 1 (next_depth opening close depth b) text))) (never (b == 44) (depth == 0))
      ∙ ap (with_byte b) (parted-one (next_depth opening close depth b) text)

  -- how a text is cut whose first comma is found here
  abbrev pub IsParted : (most depth : ℕ) (text : List ℕ) → Option ℕ → Type 0
  IsParted most depth text None = parted opening close most depth text ≡ text ∷ []
  IsParted most depth text (Some i) = parted opening close most depth text ≡ take i text ∷ parted opening close (most - 1) 0 (drop (i + 1) text)

  module _ (most : ℕ) (more : (most == 1) ≡ false) where
    test : (depth b : ℕ) (text : List ℕ) (t : Bool) → (b == 44 && depth == 0) ≡ t →
        parted opening close most depth (b ∷ text) ≡ cond t ([] ∷ parted opening close (most - 1) 0 text) (with_byte b (parted opening close most (next_depth opening close depth b) text))
    test depth b text t e =
        ap (λ t. cond t ([] ∷ parted opening close (most - 1) 0 text) (with_byte b (parted opening close most (next_depth opening close depth b) text)))
        (same_test (b == 44) (depth == 0) (most == 1) more ∙ e)

    at : (depth b : ℕ) (text : List ℕ) (t : Bool) (found : Option ℕ) → (b == 44 && depth == 0) ≡ t → IsParted most (next_depth opening close depth b) text found →
        IsParted most depth (b ∷ text) (cond t (Some 0) (option_map (λ n. n + 1) found))
    at depth b text true found e h = test depth b text true e
    at depth b text false None e h = test depth b text false e ∙ ap (with_byte b) h
    at depth b text false (Some i) e h =
        let one : suc i ≡ i + 1 = omega arith in
        let two : suc (i + 1) ≡ i + 1 + 1 = omega arith in
        test depth b text false e ∙ ap (with_byte b) h
        ∙ ap (λ n. take n (b ∷ text) ∷ parted opening close (most - 1) 0 (drop (i + 1) text)) one
        ∙ ap (λ n. take (i + 1) (b ∷ text) ∷ parted opening close (most - 1) 0 (drop n (b ∷ text))) two

    pub is_parted : (depth : ℕ) (text : List ℕ) → IsParted most depth text (place_from 44 opening close depth text)
    is_parted depth [] = refl
    is_parted depth (b ∷ text) =
        at depth b text (b == 44 && depth == 0) (place_from 44 opening close (next_depth opening close depth b) text) refl
        (is_parted (next_depth opening close depth b) text)

  cut_by : (most : ℕ) (text : List ℕ) (t : Bool) → (most == 1) ≡ t → (found : Option ℕ) → found ≡ cond t None (place_from 44 opening close 0 text) → IsParted most 0 text found
  cut_by most text true e found h =
      subst (λ f. IsParted most 0 text f) (sym h) (subst (λ m. parted opening close m 0 text ≡ text ∷ []) (sym (eqb-true most 1 e)) (parted-one 0 text))
  cut_by most text false e found h = subst (λ f. IsParted most 0 text f) (sym h) (is_parted most e 0 text)

  -- a text is cut at the comma behind the first of so many arguments
  pub is_cut : (most : ℕ) (text : List ℕ) (found : Option ℕ) → found ≡ cond (most == 1) None (place_from 44 opening close 0 text) → IsParted most 0 text found
  is_cut most text found h = cut_by most text (most == 1) refl found h
