-- The references that recipe lines begin with, as they stand there. Own; make(1S) has references and names of one character.
use Rattle.std.specs.Prelude.{ℕ, Bool, ◌&&◌, ◌==◌, ◌+◌, nat_le, List, [], ◌∷◌, Option, Some, None, take, drop, if◌then◌else◌}
use Rattle.std.specs.List.{list_any, prefix_len}
use Rattle.mk_notes.specs.BuiltIn.{differs}
use Rattle.mk_notes.specs.References.{is_dollar, closing}

-- the byte goes on with a character that one before it has begun (UTF-8)
abbrev pub goes_on : ℕ → Bool
goes_on b = nat_le 128 b && nat_le b 191

-- what stands in brackets, unless that holds references, and what stands behind the closing one
abbrev pub parted : (inside rest : List ℕ) → Option (List ℕ × List ℕ)
parted inside [] = None
parted inside (b ∷ behind) = if list_any is_dollar inside then None else Some (inside, behind)

-- so with what stands behind the opening one, up to the first that closes it
abbrev pub bracketed : (closing : ℕ) (inner : List ℕ) → Option (List ℕ × List ℕ)
bracketed c inner =
    if list_any (λ b. b == c) inner then parted (take (prefix_len (differs c) inner) inner) (drop (prefix_len (differs c) inner) inner) else None

-- the character that a text begins with, and what stands behind it
abbrev pub single : List ℕ → List ℕ × List ℕ
single [] = ([], [])
single (b ∷ more) = (take (1 + prefix_len goes_on more) (b ∷ more), drop (1 + prefix_len goes_on more) (b ∷ more))

abbrev pub referred_by : (closing : Option ℕ) (b : ℕ) (inner : List ℕ) → Option (List ℕ × List ℕ)
referred_by None b inner = Some (single (b ∷ inner))
referred_by (Some c) b inner = bracketed c inner

-- the same of what stands behind a dollar. Two dollars begin no reference
abbrev pub referred_behind : List ℕ → Option (List ℕ × List ℕ)
referred_behind [] = None
referred_behind (b ∷ inner) = if is_dollar b then None else referred_by (closing b) b inner

-- what the reference that a text begins with has in its brackets, or the character behind its dollar; and what stands behind it
abbrev pub referred : (text : List ℕ) → Option (List ℕ × List ℕ)
referred [] = None
referred (b ∷ behind) = if is_dollar b then referred_behind behind else None
