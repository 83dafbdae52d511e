-- What special rules set, taken in one line after the other.
use Rattle.std.specs.Prelude.{ℕ, List, [], false, ◌||◌, ◌++◌, Option, Some, None, if◌then◌else◌}
use Rattle.mk_names.specs.Names.{all_added}
use Rattle.mk_settings.specs.Goals.{is_no_parallel, is_delete_on_error, is_depfile}
use Rattle.mk_settings.specs.Pools.{pools_with}
use Rattle.mk_settings.specs.Marks.{speaks_of_all, names_in, patterns_in}
use Rattle.mk_settings.specs.declared.marked.Mark.{Mark}
use Rattle.mk_settings.specs.declared.marked.Mark.TheVariants.{Ignored, Silent, Precious, Console}
use Rattle.mk_settings.specs.declared.marked.Marked.{Marked}
use Rattle.mk_rule_lines.specs.declared.rule_line.RuleLine.{RuleLine}
use Rattle.mk_settings.specs.declared.settings.Settings.{Settings}

abbrev pub nothing_marked : Marked
nothing_marked = record { all = false; names = []; patterns = [] }

-- the targets of a mark with those of one more line
abbrev pub marked_with : Mark → Marked → RuleLine → Marked
marked_with m marked l = record {
  all = marked.all || speaks_of_all m l;
  names = all_added marked.names (names_in m l);
  patterns = marked.patterns ++ patterns_in m l;
}

abbrev pub patterns_said : Option (List (List ℕ)) → List (List ℕ)
patterns_said None = []
patterns_said (Some patterns) = patterns

-- where recipes write what they read, with one more line
abbrev pub depfiles_with : Option (List (List ℕ)) → RuleLine → Option (List (List ℕ))
depfiles_with said l = if is_depfile l.special then Some (patterns_said said ++ l.prerequisites) else said

abbrev pub nothing_set : Settings
nothing_set = record {
  has_one_worker = false;
  deletes_on_error = false;
  depfiles = None;
  ignored = nothing_marked;
  silent = nothing_marked;
  precious = nothing_marked;
  console = nothing_marked;
  pools = [];
}

-- what is set with one more line
abbrev pub settings_with : Settings → RuleLine → Settings
settings_with s l = record {
  has_one_worker = s.has_one_worker || is_no_parallel l.special;
  deletes_on_error = s.deletes_on_error || is_delete_on_error l.special;
  depfiles = depfiles_with s.depfiles l;
  ignored = marked_with Ignored s.ignored l;
  silent = marked_with Silent s.silent l;
  precious = marked_with Precious s.precious l;
  console = marked_with Console s.console l;
  pools = pools_with s.pools l;
}
