-- Which state a run keeps where none is named. Own.
use Rattle.std.specs.Prelude.{ℕ, List, [], ◌++◌, Option, None, Some, bytes_eq, codes, if◌then◌else◌}
use Rattle.mk_profile.specs.declared.profile.Profile.{Profile}
use Rattle.mk_profile.specs.declared.profile.Profile.TheVariants.{Strict, Posix}

-- what stands before the usual name: in the wide profile the first makefile that the words name, unless that is standard input;
-- so makefiles of one folder that make each other have a state each
abbrev pub stem : Profile → (first : Option (List ℕ)) → List ℕ
stem Strict first = []
stem Posix None = []
stem Posix (Some name) = if bytes_eq name (codes "-") then [] else name

abbrev pub usual_state : Profile → (first : Option (List ℕ)) → List ℕ
usual_state profile first = stem profile first ++ codes ".make.state"
