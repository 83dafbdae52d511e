-- Rules in which the wide profile finds nothing to look at again: they give themselves in each profile (own).
use Rattle.std.specs.Prelude.{◌≡◌, ℕ, Bool, false, ◌&&◌, ◌||◌, ◌==◌, List, [], ◌∷◌, Ok}
use Rattle.mk_macros.specs.Ranks.{Defined}
use Rattle.mk_reader.specs.declared.item.Item.{Item}
use Rattle.mk_eval.specs.Output.{World}
use Rattle.mk_eval.specs.Makefile.{behind, ItemItems}

-- the byte may begin a wildcard or a reference, part a line, or quote a byte: it is one of * : = ? [ \ and $
abbrev pub is_sign : ℕ → Bool
is_sign b = b == 42 || b == 58 || (b == 61 || b == 63) || (b == 91 || b == 92) || b == 36

-- such a byte stands in the text, or a `/` behind a `.`, where this byte stands before the text
abbrev pub has_sign_behind : (before : ℕ) (text : List ℕ) → Bool
has_sign_behind before [] = false
has_sign_behind before (b ∷ bs) = (is_sign b || (before == 46 && b == 47)) || has_sign_behind b bs

-- the item gives itself, and counts for no line below it, whatever other files hold and is defined
abbrev pub GivesItself : Item → Type 0
GivesItself one =
    ((given : Defined) → behind given (one ∷ []) ≡ given)
    × ((world : World) (given : Defined) → ItemItems world one given (Ok (one ∷ [])))
