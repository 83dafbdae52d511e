-- Whether a text refers to the list of newer prerequisites (make(1S), "Dynamic Macros").
use Rattle.std.specs.Prelude.{◌≡◌, ℕ, Bool, true, false, ◌||◌, List, ◌∷◌, codes, bytes_eq}
use Rattle.mk_macros.specs.Reference.{Piece, plain, reference, unclosed, nested, first, front}

-- `?`, or its D or F part
abbrev pub is_newer_name : (name : List ℕ) → Bool
is_newer_name name = bytes_eq name (codes "?") || (bytes_eq name (codes "?D") || bytes_eq name (codes "?F"))

abbrev pub names_newer : Piece → Bool
names_newer (plain bytes) = false
names_newer (reference name use_of) = is_newer_name name
names_newer unclosed = false
names_newer (nested inner) = false

-- brackets that may hold references
abbrev pub holds_references : Piece → Bool
holds_references (plain bytes) = false
holds_references (reference name use_of) = false
holds_references unclosed = true
holds_references (nested inner) = true

-- the text begins with such a reference, or what stands behind its first piece refers to one. In the wide profile
-- brackets that may hold references are entered; a name that is made by expansion isn't seen (our own)
pub data RefersToNewer (wide : Bool) : (text : List ℕ) → Type 0 where
  in_front : {text : List ℕ} (piece : Piece) (rest : List ℕ) →
      front wide text ≡ first piece rest → names_newer piece ≡ true → RefersToNewer wide text
  behind : {text : List ℕ} (piece : Piece) (rest : List ℕ) →
      front wide text ≡ first piece rest → (wide ≡ true → holds_references piece ≡ false) → RefersToNewer wide rest →
      RefersToNewer wide text
  in_brackets : {text : List ℕ} (piece : Piece) (rest : List ℕ) (opening : ℕ) (inner : List ℕ) →
      wide ≡ true → front wide text ≡ first piece rest → holds_references piece ≡ true → text ≡ 36 ∷ opening ∷ inner →
      RefersToNewer wide inner → RefersToNewer wide text
