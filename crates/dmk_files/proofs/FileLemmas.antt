-- What was read of files.
use Rattle.std.proofs.Common.{◌≡◌, ℕ, Bool, true, false, cond, List, Option, Some, None, Vec, option_map, refl}
use Rattle.std.specs.declared.alloc.Global.{Global}
use Rattle.std.specs.declared.rc.Rc.{Rc}

-- a text that is shared
abbrev Shared : Type 0
Shared = Rc (Vec ℕ Global) Global

abbrev pub text_of : Option Shared → Option (List ℕ)
text_of = option_map (λ text. text.value.items)

-- a text that is added, or not
pub added_text : (is_it : Bool) (text : Option Shared) (before : Option (Option Shared)) →
    option_map text_of (cond is_it (Some text) before) ≡ cond is_it (Some (text_of text)) (option_map text_of before)
added_text true text before = refl
added_text false text before = refl

-- what is lent of a text
pub shown_text : {R : Type 0} (found : Option R) (lent : R → Option Shared) → option_map (λ r. text_of (lent r)) found ≡ option_map text_of (option_map lent found)
shown_text None lent = refl
shown_text (Some r) lent = refl
