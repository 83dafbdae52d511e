-- Texts that are made word by word.
use Rattle.std.proofs.Common.{◌≡◌, ℕ, suc, ◌-◌, ◌<◌, List, [], ◌∷◌, ◌++◌, length, take, refl, sym, ap, ◌∙◌, arith, length-append}
use Rattle.std.proofs.lemmas.List.{append-nil}
use Rattle.mk_words.specs.Words.{spaced}

-- words with a space behind each
abbrev pub ended : List (List ℕ) → List ℕ
ended [] = []
ended (w ∷ ws) = w ++ 32 ∷ ended ws

take-behind : (w rest : List ℕ) → 0 < length rest → take (length (w ++ rest) - 1) (w ++ rest) ≡ w ++ take (length rest - 1) rest
take-behind [] rest h = refl
take-behind (b ∷ w) rest h =
    let more : length ((b ∷ w) ++ rest) - 1 ≡ suc (length (w ++ rest) - 1) = omega (arith, h, length-append w rest) in
    ap (λ n. take n (b ∷ (w ++ rest))) more ∙ ap (λ t. b ∷ t) (take-behind w rest h)

cut-ended : (ws : List (List ℕ)) → take (length (ended ws) - 1) (ended ws) ≡ spaced ws
cut-ended [] = refl
cut-ended (w ∷ []) = take-behind w (32 ∷ []) (omega arith) ∙ append-nil w
cut-ended (w ∷ v ∷ ws) =
    let some : 0 < length (ended (v ∷ ws)) = omega (arith, length-append v (32 ∷ ended ws)) in
    take-behind w (32 ∷ ended (v ∷ ws)) (omega arith)
    ∙ ap (λ t. w ++ t) (take-behind (32 ∷ []) (ended (v ∷ ws)) some ∙ ap (λ t. 32 ∷ t) (cut-ended (v ∷ ws)))

-- all words, without the space behind the last
pub ended-all : (out result : List ℕ) (left ws : List (List ℕ)) → left ≡ [] → out ++ ended left ≡ ended ws → result ≡ take (length out - 1) out → result ≡ spaced ws
ended-all out result left ws none e is =
    let whole : out ≡ ended ws = sym (append-nil out) ∙ ap (λ l. out ++ ended l) (sym none) ∙ e in
    is ∙ ap (λ t. take (length t - 1) t) whole ∙ cut-ended ws
