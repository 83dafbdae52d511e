-- A name without bytes up to the newline holds neither NUL nor newline.
use Rattle.std.proofs.Common.{◌≡◌, ℕ, ◌≤◌, false, eqb, ltb, List, [], ◌∷◌, refl, arith}
use Rattle.std.specs.List.{list_any}
use Rattle.std.proofs.lemmas.Bool.{ltb-false, ne_eqb, or_parts}
use Rattle.st_records.specs.Tests.{has_byte, is_bad_name}

pub none_bad : (name : List ℕ) → list_any (λ byte. ltb byte 11) name ≡ false → is_bad_name name ≡ false
none_bad [] e = refl
none_bad (b ∷ bs) e =
    let p = or_parts (ltb b 11) (list_any (λ byte. ltb byte 11) bs) e in
    let high : 11 ≤ b = ltb-false b 11 p.0 in
    let more = or_parts (has_byte 0 bs) (has_byte 10 bs) (none_bad bs p.1) in
    let nul : eqb b 0 ≡ false = ne_eqb b 0 (λ is. omega (arith, is, high)) in
    let newline : eqb b 10 ≡ false = ne_eqb b 10 (λ is. omega (arith, is, high)) in
    rw (nul, newline, more.0, more.1) refl
