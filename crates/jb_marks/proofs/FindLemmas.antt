-- A name that is looked for among those that the entry names.
use Rattle.std.proofs.Common.{◌≡◌, ◌∙◌, ℕ, zero, suc, ◌<◌, ◌≤◌, true, false, List, [], ◌∷◌, length, Option, Some, None, sym, arith}
use Rattle.std.specs.Prelude.{IsSomeAnd, slice_get}
use Rattle.std.specs.Str.{bytes_eq}
use Rattle.std.proofs.lemmas.Slice.Eq.{bytes_eq-Decides}
use Rattle.st_marks.specs.declared.mark.Mark.{Mark}
use Rattle.jb_marks.specs.declared.before.Known.{Known}
use Rattle.jb_marks.specs.Done.{HasNot}
use Rattle.jb_marks.specs.Tests.{is_named}

pub named_at : (found : Option Known) (name : List ℕ) → is_named name found ≡ true → IsSomeAnd found (λ k. k.name ≡ name)
named_at None name e = absurd cc
named_at (Some k) name e = (bytes_eq-Decides k.name name).0 e

-- none of the first ones has the name
abbrev pub IsPassed : List Known → (name : List ℕ) → (place : ℕ) → Type 0
IsPassed known name place = (j : ℕ) → j < place → is_named name (slice_get known j) ≡ false

inside : (Q : Known → Type 0) (known : List Known) (j : ℕ) → IsSomeAnd (slice_get known j) Q → j < length known
inside Q [] j some = absurd some
inside Q (k ∷ known) zero some = omega arith
inside Q (k ∷ known) (suc j) some = let rest = inside Q known j some in omega arith

not_named : (found : Option Known) (name : List ℕ) (m : Option Mark) → is_named name found ≡ false → IsSomeAnd found (λ k. (k.name ≡ name) × (k.mark ≡ m)) → ⊥
not_named None name m e some = some
not_named (Some k) name m e some =
    let is : bytes_eq k.name name ≡ true = (bytes_eq-Decides k.name name).1 some.0 in
    let wrong : false ≡ true = sym e ∙ is in absurd cc

pub none_passed : (known : List Known) (name : List ℕ) (place : ℕ) → length known ≤ place → IsPassed known name place → HasNot known name
none_passed known name place past passed m (j, has) =
    let within = inside (λ k. (k.name ≡ name) × (k.mark ≡ m)) known j has in
    not_named (slice_get known j) name m (passed j (omega arith)) has
