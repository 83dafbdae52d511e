-- Lines from their front.
use Rattle.std.proofs.Common.{◌≡◌, ℕ, suc, ◌+◌, ◌-◌, ◌<◌, Bool, true, false, cond, not, ◌&&◌, ◌==◌, List, [], ◌∷◌, length, take, drop, refl, sym, ap, subst, ◌∙◌, arith}
use Rattle.std.specs.List.{onto_first}
use Rattle.std.proofs.lemmas.List.{take_rest}
use Rattle.mk_depfiles.specs.Lines.{quotes_next, line_len, lines}

abbrev pub ends : (q : Bool) (b : ℕ) → Bool
ends q b = b == 10 && not q

pub len_ends : (q : Bool) (b : ℕ) (bs : List ℕ) → ends q b ≡ true → line_len q (b ∷ bs) ≡ 0
len_ends q b bs e = ap (λ t. cond t 0 (1 + line_len (quotes_next q b) bs)) e

pub len_more : (q : Bool) (b : ℕ) (bs : List ℕ) → ends q b ≡ false → line_len q (b ∷ bs) ≡ 1 + line_len (quotes_next q b) bs
len_more q b bs e = ap (λ t. cond t 0 (1 + line_len (quotes_next q b) bs)) e

pub lines_end : (q : Bool) (b : ℕ) (bs : List ℕ) → ends q b ≡ true → lines q (b ∷ bs) ≡ [] ∷ lines false bs
lines_end q b bs e = ap (λ t. cond t ([] ∷ lines false bs) (onto_first b (lines (quotes_next q b) bs))) e

pub lines_more : (q : Bool) (b : ℕ) (bs : List ℕ) → ends q b ≡ false → lines q (b ∷ bs) ≡ onto_first b (lines (quotes_next q b) bs)
lines_more q b bs e = ap (λ t. cond t ([] ∷ lines false bs) (onto_first b (lines (quotes_next q b) bs))) e

alone_by : (t : Bool) (q : Bool) (b : ℕ) (bs : List ℕ) → ends q b ≡ t → (line_len (quotes_next q b) bs ≡ length bs → lines (quotes_next q b) bs ≡ bs ∷ []) →
    line_len q (b ∷ bs) ≡ length (b ∷ bs) → lines q (b ∷ bs) ≡ (b ∷ bs) ∷ []
alone_by true q b bs e more whole = let none : 0 ≡ length (b ∷ bs) = sym (len_ends q b bs e) ∙ whole in absurd (omega (arith, none))
alone_by false q b bs e more whole =
    let long : 1 + line_len (quotes_next q b) bs ≡ length (b ∷ bs) = sym (len_more q b bs e) ∙ whole in
    lines_more q b bs e ∙ ap (onto_first b) (more (omega (arith, long)))

-- a text without such a newline is its one line
pub line_alone : (text : List ℕ) (q : Bool) → line_len q text ≡ length text → lines q text ≡ text ∷ []
line_alone [] q e = refl
line_alone (b ∷ bs) q e = alone_by (ends q b) q b bs refl (line_alone bs (quotes_next q b)) e

abbrev IsCut : Bool → List ℕ → ℕ → Type 0
IsCut q text n = lines q text ≡ take n text ∷ lines false (drop (n + 1) text)

cut_by : (t : Bool) (q : Bool) (b : ℕ) (bs : List ℕ) → ends q b ≡ t → (line_len (quotes_next q b) bs < length bs → IsCut (quotes_next q b) bs (line_len (quotes_next q b) bs)) →
    line_len q (b ∷ bs) < length (b ∷ bs) → IsCut q (b ∷ bs) (line_len q (b ∷ bs))
cut_by true q b bs e more within = subst (IsCut q (b ∷ bs)) (sym (len_ends q b bs e)) (lines_end q b bs e)
cut_by false q b bs e more within =
    let n = line_len (quotes_next q b) bs in
    let len : line_len q (b ∷ bs) ≡ suc n = len_more q b bs e ∙ omega arith in
    let next : suc n + 1 ≡ suc (n + 1) = omega arith in
    let inner : n < length bs = omega (arith, len, within) in
    subst (IsCut q (b ∷ bs)) (sym len)
    (lines_more q b bs e ∙ ap (onto_first b) (more inner) ∙ ap (λ k. (b ∷ take n bs) ∷ lines false (drop k (b ∷ bs))) (sym next))

cut_at : (text : List ℕ) (q : Bool) → line_len q text < length text → IsCut q text (line_len q text)
cut_at [] q within = absurd (omega (arith, within))
cut_at (b ∷ bs) q within = cut_by (ends q b) q b bs refl (cut_at bs (quotes_next q b)) within

-- and another is cut at the first
pub line_cut : (text : List ℕ) (n : ℕ) → n ≡ line_len false text → n < length text →
    lines false text ≡ take n text ∷ lines false (take (length text - (n + 1)) (drop (n + 1) text))
line_cut text n e within =
    subst (IsCut false text) (sym e) (cut_at text false (subst (λ m. m < length text) e within))
    ∙ ap (λ bs. take n text ∷ lines false bs) (sym (take_rest text (n + 1)))
