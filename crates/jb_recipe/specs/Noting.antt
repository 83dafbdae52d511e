-- What is noted of a recipe. Own.
use Rattle.std.specs.Prelude.{◌≡◌, ◌⊎◌, ℕ, Bool, ◌&&◌, not, is_some, List, map}
use Rattle.mk_graph.specs.Edges.{row}
use Rattle.mk_names.specs.Names.{name_at}
use Rattle.mk_rule_lines.specs.Explicit.{is_phony}
use Rattle.mk_settings.specs.Marks.{has_mark}
use Rattle.mk_nodes.specs.declared.graph.Graph.{Graph}
use Rattle.mk_recipe.specs.declared.line_status.Outcome.{Outcome}
use Rattle.mk_recipe.specs.declared.line_status.Outcome.TheVariants as outcomes
use Rattle.st_records.specs.declared.version.Form.{Form}
use Rattle.st_records.specs.declared.version.Form.TheVariants as forms
use Rattle.st_records.specs.declared.record.Record.{Record}
use Rattle.st_records.specs.declared.record.Record.TheVariants as records
use Rattle.st_records.specs.declared.record.Explicit.{Explicit}
use Rattle.st_records.specs.declared.record.Explicit.TheVariants.{Unknown, Known, Marked}

-- the names of its source and of its explicit prerequisites
abbrev pub known_of : Graph → (n : ℕ) → List (List ℕ)
known_of graph n = map (name_at graph.names) (row graph.hard n)

-- the file of a target is removed where its recipe fails and has changed it: in the wide profile, which keeps the table of targets,
-- under `.DELETE_ON_ERROR`, but no target of `.PRECIOUS` and no phony one (GNU make manual, "Errors in Recipes")
abbrev pub removes : Graph → (n : ℕ) → Bool
removes graph n =
    is_some graph.targets && (graph.settings.deletes_on_error
    && (not (has_mark graph.settings.precious (name_at graph.names n)) && not (is_phony graph.lines.items (name_at graph.names n))))

-- what a 'done' of each form says of a target's explicit names: nothing, the names, or the names and which files they were
abbrev pub said_in : Form → (names : List (List ℕ)) → (marks : List ℕ) → Explicit
said_in forms.Old names marks = Unknown
said_in forms.Plain names marks = Known names
said_in forms.Marked names marks = Marked names marks

-- the record of a recipe's end, by what came of it. A recipe that failed is 'failed' with its status. One that passed is 'done' with
-- these commands and explicit names and such marks, or 'failed' with status 256 where its report or its target's file can't be taken
abbrev pub IsEndOf : Form → Outcome → (target : List ℕ) → (commands explicit : List (List ℕ)) → (marked : (hidden : List (List ℕ)) → (text : List ℕ) → Type 0)
    → Record → Type 0
IsEndOf form (outcomes.Failed status) target commands explicit marked note = note ≡ records.Failed target status
IsEndOf form outcomes.Done target commands explicit marked note =
    (note ≡ records.Failed target 256)
    ⊎ ((hidden : List (List ℕ)) × (text : List ℕ) × marked hidden text × (note ≡ records.Done target commands hidden (said_in form explicit text)))
