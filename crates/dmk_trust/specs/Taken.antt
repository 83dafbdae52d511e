-- Which targets of a graph are taken as they are, and what is then recorded of them. Own; that a target is left which has a file and
-- no later prerequisite is what POSIX make says where nothing is recorded.
use Rattle.std.specs.Prelude.{◌≡◌, ℕ, Bool, true, false, List, [], ◌∷◌, ◌++◌, Option, Some, None, slice_set, option_to_list}
use Rattle.std.specs.List.{AllByRecursion}
use Rattle.mk_names.specs.Names.{name_at}
use Rattle.mk_rule_lines.specs.declared.fault.TextFault.{TextFault}
use Rattle.mk_recipe.specs.Line.{Records}
use Rattle.mk_recipe.specs.declared.line.Line.{Line}
use Rattle.mk_nodes.specs.declared.graph.Graph.{Graph}
use Rattle.mk_plan.specs.Nodes.{explicit_of}
use Rattle.mk_plan.specs.Passage.{Passage, to_make}
use Rattle.mk_plan.specs.Passing.{Passes, PassesUnlisted, IsFaultAt}
use Rattle.mk_plan.specs.declared.fault.RecipeFault.TheVariants as fault
use Rattle.mk_plan.specs.declared.why.Why.{Why}
use Rattle.st_records.specs.Limits.{IsGoodIn}
use Rattle.st_records.specs.Parts.{target_of}
use Rattle.st_records.specs.declared.version.Form.{Form}
use Rattle.jb_recipe.specs.Noting.{said_in}
use Rattle.jb_recipe.specs.OnDisk.{files_made}
use Rattle.jb_recipe.specs.Seen.{IsTextSeen}
use Rattle.st_records.specs.declared.record.Record.{Record}
use Rattle.st_records.specs.declared.record.Record.TheVariants as records
use Rattle.dmk_reading.specs.Passing.{no_marks}

-- the record that the recipe of node n was run to its end with these commands: it names the prerequisites that the makefile names
-- now, no hidden ones, and of the form that has marks those of the files as they are
abbrev pub IsDoneOf : Form → Graph → (n : ℕ) → (commands : List (List ℕ)) → Record → Type 0
IsDoneOf form graph n commands note =
    (text : List ℕ) × IsTextSeen form graph n text × (note ≡ records.Done (name_at graph.names n) commands [] (said_in form (explicit_of graph n) text))

-- what comes of node n, where the marks are those of the nodes before it that count as remade: whether it counts as remade, and the
-- record with which it is taken
pub data Takes (form : Form) (graph : Graph) (marks : List Bool) (n : ℕ) : (remade : Bool) → (note : Option Record) → Type 0 where
  -- by the times of files alone it isn't to be made, and the record has the commands with which it would be
  is_taken : (told : List Passage) (why : Why) (lines : List Line) (commands : List (List ℕ)) (note : Record) →
      Passes false graph marks n false told →
      Passes true graph marks n true (to_make (name_at graph.names n) why lines ∷ []) →
      Records lines commands → IsDoneOf form graph n commands note → IsGoodIn form note → Takes form graph marks n false (Some note)
  -- so it is, but that record may not stand in a state
  cannot_be_recorded : (told : List Passage) (why : Why) (lines : List Line) (commands : List (List ℕ)) (note : Record) →
      Passes false graph marks n false told →
      Passes true graph marks n true (to_make (name_at graph.names n) why lines ∷ []) →
      Records lines commands → IsDoneOf form graph n commands note → (IsGoodIn form note → ⊥) → Takes form graph marks n true None
  -- it is to be made by the times of files too
  is_made : (told : List Passage) → Passes false graph marks n true told → Takes form graph marks n true None
  -- nothing is to be run for it: it has no recipe, or the state has it as up to date
  has_nothing_to_run : (remade : Bool) → PassesUnlisted true graph marks n remade → Takes form graph marks n remade None
  -- a line of its recipe has no expansion, which is told when the run comes to it
  is_faulty : (f : TextFault) → IsFaultAt graph marks n (fault.Macro f) → Takes form graph marks n true None

-- the nodes are passed in this order, behind others whose marks these are, and these are the records of those that are taken
pub data TakesAll (form : Form) (graph : Graph) : (marks : List Bool) → (order : List ℕ) → List Record → Type 0 where
  at_end : {marks : List Bool} → TakesAll form graph marks [] []
  behind : {marks : List Bool} {n : ℕ} {order : List ℕ} {remade : Bool} {note : Option Record} {taken : List Record} →
      Takes form graph marks n remade note → TakesAll form graph (slice_set marks n remade) order taken →
      TakesAll form graph marks (n ∷ order) (option_to_list note ++ taken)

-- the records of all targets of the graph that are taken as they are, in its order
abbrev pub AreTaken : Form → Graph → List Record → Type 0
AreTaken form graph taken = TakesAll form graph (no_marks graph) graph.order.items taken

-- the record is of a target whose files, all that its recipe makes, are on the disk (`synced` says so of one)
abbrev pub IsOnDisk : (synced : List ℕ → Type 0) → Graph → Record → Type 0
IsOnDisk synced graph note = (n : ℕ) × (target_of note ≡ name_at graph.names n) × AllByRecursion synced (files_made graph n)
