-- Files that a recipe left as they were. Own; ninja's `restat` compares the time alone (ninja manual, "Rule variables").
use Rattle.std.specs.Prelude.{◌≡◌, List}
use Rattle.jb_marks.specs.declared.sights.Sight.{Sight}
use Rattle.jb_marks.specs.declared.sights.Sight.TheVariants.{NoFile, Other, File}
use Rattle.jb_marks.specs.Each.{EachWith}

-- an ordinary file was there, it is there, and nothing of it was changed, which its ctime tells
abbrev pub IsStill : (before behind : Sight) → Type 0
IsStill NoFile behind = ⊥
IsStill Other behind = ⊥
IsStill (File time size changed) behind = behind ≡ File time size changed

-- so it is of each file
abbrev pub IsSame : (before behind : List Sight) → Type 0
IsSame before behind = EachWith IsStill before behind
