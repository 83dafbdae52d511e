-- Which names the search for a chain asks for.
use Rattle.std.specs.Prelude.{◌≡◌, ◌⊎◌, ◌<◌, ◌≤◌, ℕ, zero, suc, false, not, List, [], ◌∷◌, ◌++◌, Option, None}
use Rattle.mk_makefile.specs.Source.{candidates, source_of}
use Rattle.mk_makefile.specs.Table.{is_named, named_at}
use Rattle.mk_sources.specs.There.{is_there}
use Rattle.mk_makefile.specs.declared.form.Form.{Form}
use Rattle.mk_makefile.specs.declared.form.Source.{Source}
use Rattle.mk_makefile.specs.declared.table.TargetTable.{TargetTable}
use Rattle.mk_rule_lines.specs.declared.fault.RuleFault.{RuleFault}
use Rattle.mk_rule_lines.specs.declared.fault.RuleFault.TheVariants as fault
use Rattle.mk_nodes.specs.Chain.{has_a_type, usable}
use Rattle.mk_sources.specs.Source.{IsReached}
use Rattle.mk_nodes.specs.declared.file_look.FileLook.{FileLook}

-- one of these names leads to n
pub record IsAmong (leads : (name n : List ℕ) → Type 0) (names : List (List ℕ)) (n : List ℕ) : Type 0 where
  pub before : List (List ℕ)
  pub name : List ℕ
  pub behind : List (List ℕ)
  pub is : names ≡ before ++ name ∷ behind
  pub lead : leads name n

-- one of the names of a candidate leads to n, once its rule is taken
pub record IsBehind (leads : (rule : ℕ) (name n : List ℕ) → Type 0) (forms : List Form) (name n : List ℕ) : Type 0 where
  pub before : List Source
  pub source : Source
  pub behind : List Source
  pub is : candidates forms name ≡ before ++ source ∷ behind
  pub lead : IsAmong (leads source.rule) source.names n

-- whether a name can be in so many steps leads to n: it is that name, or one that leads to what makes it
abbrev pub IsAskedIn : List Form → (steps : ℕ) (taken : List ℕ) (name n : List ℕ) → Type 0
IsAskedIn forms zero taken name n = n ≡ name
IsAskedIn forms (suc steps) taken name n =
    (n ≡ name) ⊎ IsBehind (λ rule. IsAskedIn forms steps (rule ∷ taken)) (usable false taken forms) name n

-- the search for a chain of so many steps that makes the name leads to n
abbrev pub IsChainedTo : List Form → (steps : ℕ) (name n : List ℕ) → Type 0
IsChainedTo forms steps name n = IsBehind (λ rule. IsAskedIn forms steps (rule ∷ [])) (usable (not (has_a_type forms name)) [] forms) name n

-- the fault of a search that leads to these names: one that no line makes, and that the tree refuses
abbrev pub IsLedFault : TargetTable → (refuses : List ℕ → Type 0) → (leads : List ℕ → Type 0) → RuleFault → Type 0
IsLedFault targets refuses leads fault.OutOfMemory = Unit {0}
IsLedFault targets refuses leads (fault.Tree n) = (is_named (named_at targets n) ≡ false) × leads n × refuses n
IsLedFault targets refuses leads _ = ⊥

-- where no candidate is there, some search for a chain leads to the name n, which no line makes
pub record IsLedTo (targets : TargetTable) (allowed : (List ℕ → Option FileLook) → Type 0) (forms : List Form) (steps : ℕ) (name n : List ℕ) : Type 0 where
  pub none : (looks : List ℕ → Option FileLook) → allowed looks → source_of (is_there targets looks) forms name ≡ None
  pub no_target : is_named (named_at targets n) ≡ false
  pub count : ℕ
  pub some : 0 < count
  pub few : count ≤ steps
  pub leads : IsChainedTo forms count name n

-- the search for a source asks for the name n
abbrev pub IsSearched : TargetTable → (allowed : (List ℕ → Option FileLook) → Type 0) → List Form → (steps : ℕ) (name n : List ℕ) → Type 0
IsSearched targets allowed forms steps name n = IsReached targets allowed forms name n ⊎ IsLedTo targets allowed forms steps name n

-- the fault of looking for the source of a name, by a chain of at most so many steps before the last one
abbrev pub IsSearchFault : TargetTable → (allowed : (List ℕ → Option FileLook) → Type 0) → (refuses : List ℕ → Type 0) → List Form → (steps : ℕ) (name : List ℕ) → RuleFault → Type 0
IsSearchFault targets allowed refuses forms steps name fault.OutOfMemory = Unit {0}
IsSearchFault targets allowed refuses forms steps name (fault.Tree n) = IsSearched targets allowed forms steps name n × refuses n
IsSearchFault targets allowed refuses forms steps name _ = ⊥
