-- Names with their entries, by their places.
use Rattle.std.proofs.Common.{◌≡◌, ℕ, List, [], ◌∷◌, ap, refl}
use Rattle.std.proofs.lemmas.Map.Lookups.{map_keys}
use Rattle.st_records.specs.declared.record.Entry.{Entry}

pub map_keys-same : (es : List (List ℕ × Entry)) → map_keys (λ k. k) es ≡ es
map_keys-same [] = refl
map_keys-same (e ∷ es) = ap (λ rest. e ∷ rest) (map_keys-same es)
