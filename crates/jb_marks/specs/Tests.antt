-- What private functions compute, by one test after the other. `Same` and `Done` say what it means.
use Rattle.std.specs.Prelude.{ℕ, Bool, true, false, ◌&&◌, List, [], ◌∷◌, Option, Some, None, nat_eq}
use Rattle.std.specs.Str.{bytes_eq}
use Rattle.std.specs.Ordering.{int_eq}
use Rattle.jb_marks.specs.declared.before.Known.{Known}
use Rattle.jb_marks.specs.declared.sights.Sight.{Sight}
use Rattle.jb_marks.specs.declared.sights.Sight.TheVariants.{File}

abbrev pub is_still : (before behind : Sight) → Bool
is_still (File time size changed) (File now bytes other) = int_eq time now && (nat_eq size bytes && int_eq changed other)
is_still _ _ = false

abbrev pub is_same : (before behind : List Sight) → Bool
is_same [] [] = true
is_same [] (b ∷ behind) = false
is_same (a ∷ before) [] = false
is_same (a ∷ before) (b ∷ behind) = is_still a b && is_same before behind

-- it is there, and has this name
abbrev pub is_named : (name : List ℕ) → Option Known → Bool
is_named name None = false
is_named name (Some k) = bytes_eq k.name name
