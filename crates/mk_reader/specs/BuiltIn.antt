-- The rules that are built in, which stand in no file.
use Rattle.std.specs.Prelude.{ℕ, List, codes}

-- the name that they are read under (own)
abbrev pub built_in_name : List ℕ
built_in_name = codes "(built-in)"
