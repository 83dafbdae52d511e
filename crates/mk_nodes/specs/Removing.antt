-- Which files aren't left half made.
use Rattle.std.specs.Prelude.{ℕ, Bool, List, ◌&&◌, not, is_some}
use Rattle.mk_rule_lines.specs.Explicit.{is_phony}
use Rattle.mk_settings.specs.Marks.{has_mark}
use Rattle.mk_nodes.specs.declared.graph.Graph.{Graph}

-- the file of a target, as far as its recipe has changed it, goes where the run is stopped meanwhile: in the wide profile, which keeps
-- the table of targets, where no state is kept, so that the recipe has no report, but of no target of `.PRECIOUS` and of no phony one
-- (POSIX, make, "Asynchronous Events"; of phony ones GNU make)
abbrev pub goes_if_stopped : Graph → (target : List ℕ) → (has_report : Bool) → Bool
goes_if_stopped graph target has_report =
    is_some graph.targets && (not has_report
    && (not (has_mark graph.settings.precious target) && not (is_phony graph.lines.items target)))
