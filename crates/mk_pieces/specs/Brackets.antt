-- Where brackets end, and where commas part what stands in them (GNU make manual, "Function Call Syntax": delimiters of the kind that
-- the call has come in matching pairs).
use Rattle.std.specs.Prelude.{ℕ, ◌+◌, ◌-◌, Bool, not, ◌&&◌, ◌==◌, if◌then◌else◌, List, [], ◌∷◌, position, Option, Some, None, option_map}

-- the first place of a byte
abbrev pub place_of : (wanted : ℕ) → List ℕ → Option ℕ
place_of wanted text = position (λ b. b == wanted) text

-- within how many brackets of a kind the byte behind this one stands
abbrev pub next_depth : (opening close depth b : ℕ) → ℕ
next_depth opening close depth b = if b == opening then depth + 1 else (if b == close then depth - 1 else depth)

-- the first place of a byte outside all brackets of a kind, read from within so many of them
abbrev pub place_from : (wanted opening close depth : ℕ) → List ℕ → Option ℕ
place_from wanted opening close depth [] = None
place_from wanted opening close depth (b ∷ text) =
    if b == wanted && depth == 0 then Some 0
    else option_map (λ n. n + 1) (place_from wanted opening close (next_depth opening close depth b) text)

abbrev pub place_outside : (wanted opening close : ℕ) → List ℕ → Option ℕ
place_outside wanted opening close text = place_from wanted opening close 0 text

-- where brackets are closed, of which this stands behind the opening one
abbrev pub closing : (opening close : ℕ) → List ℕ → Option ℕ
closing opening close text = place_outside close opening close text

-- a byte more at the front of the first text
abbrev pub with_byte : ℕ → List (List ℕ) → List (List ℕ)
with_byte b [] = (b ∷ []) ∷ []
with_byte b (argument ∷ more) = (b ∷ argument) ∷ more

-- a byte that parts two arguments, of which there may be so many more; 0 stands for any number
abbrev pub is_parting : (most depth b : ℕ) → Bool
is_parting most depth b = b == 44 && (depth == 0 && not (most == 1))

-- a text cut at the commas outside brackets of a kind, read from within so many of them
abbrev pub parted : (opening close most depth : ℕ) → List ℕ → List (List ℕ)
parted opening close most depth [] = [] ∷ []
parted opening close most depth (b ∷ text) =
    if is_parting most depth b then [] ∷ parted opening close (most - 1) 0 text
    else with_byte b (parted opening close most (next_depth opening close depth b) text)

-- the arguments of a call, so many at most
abbrev pub arguments_of : (opening close most : ℕ) → List ℕ → List (List ℕ)
arguments_of opening close most text = parted opening close most 0 text

-- the arguments that are left, where there are any
abbrev pub arguments_left : (opening close most : ℕ) → Option (List ℕ) → List (List ℕ)
arguments_left opening close most None = []
arguments_left opening close most (Some text) = arguments_of opening close most text
