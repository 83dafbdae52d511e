-- How names begin and end. Own.
use Rattle.std.specs.Prelude.{◌≡◌, ℕ, List, false}
use Rattle.name_keys.specs.Ends.{may_have}
use Rattle.name_keys.specs.declared.ends.NameEnds.{NameEnds}
use Rattle.mk_names.specs.Names.{has_name}

-- a name that begins or ends otherwise isn't among them
abbrev pub AreEndsOf : NameEnds → (names : List (List ℕ)) → Type 0
AreEndsOf ends names = (name : List ℕ) → may_have ends name ≡ false → has_name names name ≡ false
