-- Bytes below 128 are text.
use Rattle.std.proofs.Common.{arith, ◌≡◌, ℕ, zero, suc, true, nat_lt, List, [], ◌∷◌, ltb-true}
use Rattle.std.specs.List.{list_all}
use Rattle.std.specs.Str.{is_utf8, IsAscii}
use Rattle.std.proofs.lemmas.Bool.{and_parts}
use Rattle.std.proofs.lemmas.Str.{IsUtf8-from_ascii, is_utf8-from_IsUtf8}

ascii : (bs : List ℕ) → list_all (λ b. nat_lt b 128) bs ≡ true → IsAscii bs
ascii [] plain i = omega arith
ascii (b ∷ bs) plain zero = ltb-true b 128 (and_parts (nat_lt b 128) (list_all (λ b. nat_lt b 128) bs) plain).0
ascii (b ∷ bs) plain (suc i) = ascii bs (and_parts (nat_lt b 128) (list_all (λ b. nat_lt b 128) bs) plain).1 i

pub plain_is_text : (bs : List ℕ) → list_all (λ b. nat_lt b 128) bs ≡ true → is_utf8 bs ≡ true
plain_is_text bs plain = is_utf8-from_IsUtf8 bs (IsUtf8-from_ascii bs (ascii bs plain))
