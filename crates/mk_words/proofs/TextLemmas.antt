-- Texts that are replaced, one by one.
use Rattle.std.proofs.Common.{◌≡◌, ◌<◌, arith, ℕ, zero, suc, ◌-◌, true, cond, List, [], ◌∷◌, ◌++◌, drop, take, length, refl, sym, ap, ◌∙◌, bytes_eq}
use Rattle.mk_words.specs.Texts.{replaced}

replaced-left : (from to : List ℕ) (left : ℕ) (text : List ℕ) → replaced from to left text ≡ replaced from to 0 (drop left text)
replaced-left from to zero [] = refl
replaced-left from to zero (b ∷ bs) = refl
replaced-left from to (suc left) [] = refl
replaced-left from to (suc left) (b ∷ bs) = replaced-left from to left bs

-- what stands at the front is replaced whole
pub replaced-hit : (from to rest : List ℕ) → 0 < length from → bytes_eq (take (length from) rest) from ≡ true → replaced from to 0 rest ≡ to ++ replaced from to 0 (drop (length from) rest)
replaced-hit [] to rest h is = absurd (omega (arith, h))
replaced-hit (o ∷ os) to [] h is = absurd (cc is)
replaced-hit (o ∷ os) to (b ∷ bs) h is =
    let less : length (o ∷ os) - 1 ≡ length os = omega arith in
    let more : length (o ∷ os) ≡ suc (length os) = omega arith in
    let same : drop (length os) bs ≡ drop (length (o ∷ os)) (b ∷ bs) = ap (λ n. drop n (b ∷ bs)) (sym more) in
    ap (λ t. cond t (to ++ replaced (o ∷ os) to (length (o ∷ os) - 1) bs) (b ∷ replaced (o ∷ os) to 0 bs)) is
    ∙ ap (λ n. to ++ replaced (o ∷ os) to n bs) less
    ∙ ap (λ v. to ++ v) (replaced-left (o ∷ os) to (length os) bs ∙ ap (λ v. replaced (o ∷ os) to 0 v) same)
