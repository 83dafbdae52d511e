-- What a text defines, as it is read from its front.
use Rattle.std.specs.Prelude.{ℕ, suc, zero, ◌+◌, ◌-◌, ◌==◌, List, [], ◌∷◌, take, drop, length, Option, Some, None, codes, if◌then◌else◌}
use Rattle.byte_strings.specs.Blanks.{trimmed_start}
use Rattle.mk_conditionals.specs.Spelled.{begins_with}
use Rattle.mk_assignments.specs.Name.{opening, closing, ends_name}
use Rattle.mk_assignments.specs.declared.name.Brackets.{Brackets}
use Rattle.mk_assignments.specs.declared.name.Brackets.TheVariants.{Round, Curly}
use Rattle.mk_assignments.specs.declared.sign.Sign.{Sign}
use Rattle.mk_assignments.specs.declared.sign.Sign.TheVariants.{Recursive, Simple, Immediate, Conditional, Appending, Shell}

-- where a byte of a name stands: outside references, behind a `$`, or in brackets, and in so many inner ones of their kind
pub data Place : Type 0 where
  outside : Place
  behind_dollar : Place
  within : (kind : Brackets) (depth : ℕ) → Place

abbrev pub closed : Brackets → (depth : ℕ) → Place
closed kind zero = outside
closed kind (suc depth) = within kind depth

abbrev pub place_within : (kind : Brackets) (depth b : ℕ) → Place
place_within kind depth b = if b == opening kind then within kind (depth + 1) else (if b == closing kind then closed kind depth else within kind depth)

abbrev pub place_behind_dollar : (b : ℕ) → Place
place_behind_dollar b = if b == 40 then within Round 0 else (if b == 123 then within Curly 0 else outside)

-- what stands behind the name; a text that is a name to its end, or in which brackets aren't closed, has none
abbrev pub behind_name : Place → List ℕ → Option (List ℕ)
behind_name place [] = None
behind_name outside (b ∷ bs) =
    if b == 36 then behind_name behind_dollar bs else (if ends_name b bs then Some (b ∷ bs) else behind_name outside bs)
behind_name behind_dollar (b ∷ bs) = behind_name (place_behind_dollar b) bs
behind_name (within kind depth) (b ∷ bs) = behind_name (place_within kind depth b) bs

-- the sign that a text begins with, and what stands behind it
unfoldable pub sign_at : List ℕ → Option (Sign × List ℕ)
sign_at text =
    if begins_with (codes "=") text then Some (Recursive, drop 1 text)
    else (if begins_with (codes ":=") text then Some (Simple, drop 2 text)
    else (if begins_with (codes "::=") text then Some (Simple, drop 3 text)
    else (if begins_with (codes ":::=") text then Some (Immediate, drop 4 text)
    else (if begins_with (codes "?=") text then Some (Conditional, drop 2 text)
    else (if begins_with (codes "+=") text then Some (Appending, drop 2 text)
    else (if begins_with (codes "!=") text then Some (Shell, drop 2 text) else None))))))

-- a definition: its name, its sign, its value
pub record Defined : Type 0 where
  pub name : List ℕ
  pub sign : Sign
  pub value : List ℕ

abbrev pub signed : (name : List ℕ) → Option (Sign × List ℕ) → Option Defined
signed name None = None
signed name (Some found) = Some (record { name = name; sign = found.0; value = trimmed_start found.1 })

abbrev pub named : (text : List ℕ) → (behind : Option (List ℕ)) → Option Defined
named text None = None
named text (Some behind) = signed (take (length text - length behind) text) (sign_at (trimmed_start behind))

-- what a text defines that begins with a name
unfoldable pub definition : List ℕ → Option Defined
definition text = named text (behind_name outside text)
