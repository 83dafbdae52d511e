-- How a line is written, as a relation: in parts, each by one of these forms (GCC's libcpp/mkdeps.cc, "munge"; GNU make manual, "Rule Syntax").
use Rattle.std.specs.Prelude.{◌≡◌, ℕ, ◌+◌, ◌/◌, Bool, true, false, ◌||◌, ◌==◌, List, [], ◌∷◌, ◌++◌, Result, Ok, Err}
use Rattle.byte_strings.specs.Blanks.{is_blank}
use Rattle.mk_depfiles.specs.Lines.{begins_with}
use Rattle.mk_depfiles.specs.Words.{is_gap, backslashes, ended}
use Rattle.mk_depfiles.specs.declared.refusal.Cause.{Cause}
use Rattle.mk_depfiles.specs.declared.refusal.Cause.TheVariants.{Nul, Unfinished, RecipeLine, LoneDollar, BareHash, NoColon, NoTarget}

-- so many backslashes of a word, and what stands behind them
pub data Part : Type 0 where
  plain : (n b : ℕ) → Part
  blank : (n b : ℕ) → Part
  hash : (n : ℕ) → Part
  dollar : (n : ℕ) → Part
  gap : (n b : ℕ) → Part
  joint : (n : ℕ) → Part

-- how it is written: a blank of a word behind one backslash, and two for each other; a gap behind two for each; a newline behind one too
abbrev pub part_text : Part → List ℕ
part_text (plain n b) = backslashes n ++ b ∷ []
part_text (blank n b) = backslashes (n + n + 1) ++ b ∷ []
part_text (hash n) = backslashes (n + 1) ++ 35 ∷ []
part_text (dollar n) = (backslashes n ++ 36 ∷ []) ++ 36 ∷ []
part_text (gap n b) = backslashes (n + n) ++ b ∷ []
part_text (joint n) = backslashes n ++ 10 ∷ []

-- a byte that needn't stand for itself
abbrev pub is_sign : ℕ → Bool
is_sign b = b == 92 || (is_gap b || (b == 35 || b == 36))

abbrev pub IsPart : Part → Type 0
IsPart (plain n b) = is_sign b ≡ false
IsPart (blank n b) = is_blank b ≡ true
IsPart (hash n) = Unit {0}
IsPart (dollar n) = Unit {0}
IsPart (gap n b) = is_blank b ≡ true
IsPart (joint n) = Unit {0}

abbrev pub AreParts : List Part → Type 0
AreParts [] = Unit {0}
AreParts (part ∷ parts) = IsPart part × AreParts parts

abbrev pub parts_text : List Part → List ℕ
parts_text [] = []
parts_text (part ∷ parts) = part_text part ++ parts_text parts

-- the words of parts behind a word that is begun, and with so many backslashes at their end
abbrev pub spoken : (word : List ℕ) → List Part → (last : ℕ) → List (List ℕ)
spoken word [] last = ended (word ++ backslashes (last / 2))
spoken word (plain n b ∷ parts) last = spoken ((word ++ backslashes n) ++ b ∷ []) parts last
spoken word (blank n b ∷ parts) last = spoken ((word ++ backslashes n) ++ b ∷ []) parts last
spoken word (hash n ∷ parts) last = spoken ((word ++ backslashes n) ++ 35 ∷ []) parts last
spoken word (dollar n ∷ parts) last = spoken ((word ++ backslashes n) ++ 36 ∷ []) parts last
spoken word (gap n b ∷ parts) last = ended (word ++ backslashes n) ++ spoken [] parts last
spoken word (joint n ∷ parts) last = ended (word ++ backslashes (n / 2)) ++ spoken [] parts last

-- the text is written for these words, or in it stands, behind parts, what isn't written so
abbrev pub Writes : (text : List ℕ) → Result (List (List ℕ)) Cause → Type 0
Writes text (Ok words) =
    (parts : List Part) × (last : ℕ) × (text ≡ parts_text parts ++ backslashes last) × AreParts parts × (words ≡ spoken [] parts last)
Writes text (Err BareHash) = (parts : List Part) × (rest : List ℕ) × (text ≡ parts_text parts ++ 35 ∷ rest) × AreParts parts
Writes text (Err LoneDollar) =
    (parts : List Part) × (n : ℕ) × (rest : List ℕ) × (text ≡ parts_text parts ++ (backslashes n ++ 36 ∷ rest)) × AreParts parts
    × (begins_with 36 rest ≡ false)
Writes text (Err Nul) = ⊥
Writes text (Err Unfinished) = ⊥
Writes text (Err RecipeLine) = ⊥
Writes text (Err NoColon) = ⊥
Writes text (Err NoTarget) = ⊥
