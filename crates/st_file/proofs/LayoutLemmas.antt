-- The numbers of the format, and the header of a side.
use Rattle.std.proofs.Common.{◌≡◌, ℕ, zero, suc, ◌<◌, ◌^◌, List, ◌∷◌, ◌++◌, refl, subst, arith}
use Rattle.st_records.specs.declared.version.Form.{Form}
use Rattle.st_records.specs.declared.version.Form.TheVariants as forms
use Rattle.st_file.specs.Layout.{header_text_in, IsReadIn, IsNamed, HasHeaderIn}

pub positive : (n : ℕ) → (n ≡ 0 → ⊥) → 0 < n
positive zero h = absurd (h refl)
positive (suc n) h = omega arith

-- version 1 is read, whatever the newest is
pub old_is_read : (newest : Form) → IsReadIn newest forms.Old
old_is_read forms.Old = omega arith
old_is_read forms.Plain = omega arith
old_is_read forms.Marked = omega arith

-- and so is the newest
pub itself_is_read : (newest : Form) → IsReadIn newest newest
itself_is_read newest = omega arith

-- what stands behind the name, by another spelling
pub IsNamed-along : (x rest after : List ℕ) → IsNamed x rest → rest ≡ after → IsNamed x after
IsNamed-along x rest after named e = let P : List ℕ → Type 0 = λ y. IsNamed x y in subst P e named

-- a header's text behind an open gate makes a header of what follows it
pub HasHeader-of : (x : List ℕ) (form : Form) (generation gate : ℕ) (rest : List ℕ) → 0 < gate → 0 < generation → generation < 2 ^ 64 → x ≡ gate ∷ (header_text_in form generation ++ rest) → HasHeaderIn x form generation rest
HasHeader-of x form generation gate rest opened some fits e =
    record { some = some; fits = fits; named = record { gate = gate; is_open = opened; text = e } }

-- and what has a header begins with its text
pub HasHeader-text : (x : List ℕ) (form : Form) (generation : ℕ) (rest : List ℕ) (h : HasHeaderIn x form generation rest) → x ≡ h.named.gate ∷ (header_text_in form generation ++ rest)
HasHeader-text x form generation rest h = h.named.text
