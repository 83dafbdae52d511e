-- Chained hashes, as they lie in memory: each stands beside the place of the one before it. Own.
use Rattle.std.specs.Prelude.{◌≡◌, ℕ, List, length, map}
use Rattle.mk_names.specs.Chains.{AreChained}
use Rattle.mk_names.specs.Hashing.{hash_of}
use Rattle.mk_names.specs.declared.chains.Link.{Link}

abbrev pub hashes_of : List Link → List ℕ
hashes_of links = map (λ l. l.hash) links

abbrev pub befores_of : List Link → List ℕ
befores_of links = map (λ l. l.before) links

abbrev pub AreLinked : (links : List Link) (heads : List ℕ) → Type 0
AreLinked links heads = AreChained (hashes_of links) (befores_of links) heads

-- the names are found by these: each has a link, with its hash
pub record AreFoundBy (names : List (List ℕ)) (links : List Link) (heads : List ℕ) : Type 0 where
  pub many : length links ≡ length names
  pub hashed : hashes_of links ≡ map hash_of names
  pub chained : AreLinked links heads
