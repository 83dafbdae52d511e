-- What stands where, when it is written piece by piece.
use Rattle.std.proofs.Common.{◌≡◌, ℕ, List, [], ◌∷◌, ◌++◌, ap, ◌∙◌, append_assoc}

pub stamp_behind : (out kinded timed whole : List ℕ) (kind : ℕ) (time size : List ℕ) → kinded ≡ out ++ kind ∷ [] → timed ≡ kinded ++ time → whole ≡ timed ++ size → whole ≡ out ++ kind ∷ (time ++ size)
stamp_behind out kinded timed whole kind time size p q r =
    r ∙ ap (λ (t : List ℕ). t ++ size) (q ∙ ap (λ (t : List ℕ). t ++ time) p) ∙ simp append_assoc

pub three_behind : (out one two whole a b c : List ℕ) → one ≡ out ++ a → two ≡ one ++ b → whole ≡ two ++ c → whole ≡ out ++ (a ++ (b ++ c))
three_behind out one two whole a b c p q r = r ∙ ap (λ (t : List ℕ). t ++ c) (q ∙ ap (λ (t : List ℕ). t ++ b) p) ∙ simp append_assoc

pub four_behind : (out one two three whole a b c d : List ℕ) → one ≡ out ++ a → two ≡ one ++ b → three ≡ two ++ c → whole ≡ three ++ d → whole ≡ out ++ (a ++ (b ++ (c ++ d)))
four_behind out one two three whole a b c d p q r s =
    s ∙ ap (λ (t : List ℕ). t ++ d) (three_behind out one two three a b c p q r) ∙ simp append_assoc
