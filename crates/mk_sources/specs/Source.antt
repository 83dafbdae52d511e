-- The search for the file that an implicit rule makes a name from.
use Rattle.std.specs.Prelude.{◌≡◌, ℕ, slice_get, take, true, false, List, ◌∷◌, ◌++◌, Option, Some, None}
use Rattle.std.specs.List.{list_all}
use Rattle.mk_makefile.specs.Source.{stem_of, source_at, source_of}
use Rattle.mk_makefile.specs.Table.{is_named, named_at}
use Rattle.mk_sources.specs.There.{is_there}
use Rattle.mk_makefile.specs.declared.form.Form.{Form}
use Rattle.mk_makefile.specs.declared.table.TargetTable.{TargetTable}
use Rattle.mk_rule_lines.specs.declared.fault.RuleFault.{RuleFault}
use Rattle.mk_rule_lines.specs.declared.fault.RuleFault.TheVariants as fault
use Rattle.mk_nodes.specs.declared.file_look.FileLook.{FileLook}

-- the name n is the first of these that isn't known to be there: no target, and for any looks that are still possible those before it
-- are there
pub record IsFirstAsked (targets : TargetTable) (allowed : (List ℕ → Option FileLook) → Type 0) (names : List (List ℕ)) (n : List ℕ) : Type 0 where
  pub before : List (List ℕ)
  pub behind : List (List ℕ)
  pub is : names ≡ before ++ n ∷ behind
  pub no_target : is_named (named_at targets n) ≡ false
  pub there : (looks : List ℕ → Option FileLook) → allowed looks → list_all (is_there targets looks) before ≡ true

-- the fault of asking whether all of these names are there
abbrev pub IsAllFault : TargetTable → (allowed : (List ℕ → Option FileLook) → Type 0) → (refuses : List ℕ → Type 0) → (names : List (List ℕ)) → RuleFault → Type 0
IsAllFault targets allowed refuses names fault.OutOfMemory = Unit {0}
IsAllFault targets allowed refuses names (fault.Tree n) = IsFirstAsked targets allowed names n × refuses n
IsAllFault targets allowed refuses names _ = ⊥

-- the search for a source reaches the name n: it is among those of a candidate, the first that isn't known to be there, and for any looks
-- that are still possible no candidate of an earlier form is there
pub record IsReached (targets : TargetTable) (allowed : (List ℕ → Option FileLook) → Type 0) (forms : List Form) (name n : List ℕ) : Type 0 where
  pub place : ℕ
  pub form : Form
  pub stem : List ℕ × List ℕ
  pub at : slice_get forms place ≡ Some form
  pub fits : stem_of form name ≡ Some stem
  pub first : IsFirstAsked targets allowed (source_at form stem).names n
  pub earlier : (looks : List ℕ → Option FileLook) → allowed looks → source_of (is_there targets looks) (take place forms) name ≡ None

-- the fault of looking for the source of a name
abbrev pub IsSourceFault : TargetTable → (allowed : (List ℕ → Option FileLook) → Type 0) → (refuses : List ℕ → Type 0) → List Form → (name : List ℕ) → RuleFault → Type 0
IsSourceFault targets allowed refuses forms name fault.OutOfMemory = Unit {0}
IsSourceFault targets allowed refuses forms name (fault.Tree n) = IsReached targets allowed forms name n × refuses n
IsSourceFault targets allowed refuses forms name _ = ⊥
