-- Which file an implicit rule makes a name from (make(1S), "Implicit Rules"; POSIX make, "Inference Rules").
use Rattle.std.specs.Prelude.{ℕ, ◌+◌, Bool, true, false, if◌then◌else◌, List, [], ◌∷◌, ◌++◌, map, take, drop, Option, Some, None, find, option_map, option_and_then, option_to_list}
use Rattle.std.specs.List.{list_all}
use Rattle.std.specs.Option.{option_map_or}
use Rattle.mk_macros.specs.Words.{place_of, file_of, without_front, without_end}
use Rattle.mk_makefile.specs.declared.form.Form.{Form}
use Rattle.mk_makefile.specs.declared.form.Source.{Source}
use Rattle.mk_rule_lines.specs.Patterns.{folder_of}

-- the folder that a form leaves aside, if it does, and what it looks at (GNU make manual, "How Patterns Match")
abbrev pub seen_by : Form → (name : List ℕ) → List ℕ × List ℕ
seen_by form name = if form.leaves_folders then (folder_of name, file_of name) else ([], name)

-- the folder and the stem, which have at least one byte, unless they may be empty
abbrev pub stem_by : (takes_empty : Bool) → (folder stem : List ℕ) → Option (List ℕ × List ℕ)
stem_by true folder stem = Some (folder, stem)
stem_by false [] [] = None
stem_by false folder stem = Some (folder, stem)

-- the stem of a file of a form, behind its folder
abbrev pub stem_in : Form → (seen : List ℕ × List ℕ) → Option (List ℕ × List ℕ)
stem_in form seen =
    option_and_then (stem_by form.takes_empty seen.0) (option_and_then (without_end form.after) (without_front form.before seen.1))

-- the stem of a name of this form, and before it the folder that is left aside
abbrev pub stem_of : Form → (name : List ℕ) → Option (List ℕ × List ℕ)
stem_of form name = stem_in form (seen_by form name)

-- a prerequisite with this stem in the place of its first `%`, in the folder that was left aside; one without a `%` is itself
-- (GNU make manual, "Pattern Rules", "How Patterns Match")
abbrev pub with_stem : (folder stem pattern : List ℕ) → List ℕ
with_stem folder stem pattern = option_map_or (λ i. folder ++ (take i pattern ++ (stem ++ drop (i + 1) pattern))) (place_of 37 pattern) pattern

-- what a form makes the name with this folder and stem from, and behind it the order-only prerequisites
abbrev pub source_at : Form → (stem : List ℕ × List ℕ) → Source
source_at form stem =
    record {
      names = map (with_stem stem.0 stem.1) form.prerequisites;
      ordinary = form.ordinary;
      stem = stem.0 ++ stem.1;
      rule = form.rule;
      leader = option_map (with_stem stem.0 stem.1) form.leader;
      others = map (with_stem stem.0 stem.1) form.others;
    }

-- what a name may be made from, in the order of the forms
abbrev pub candidates : List Form → (name : List ℕ) → List Source
candidates [] name = []
candidates (form ∷ forms) name = option_to_list (option_map (source_at form) (stem_of form name)) ++ candidates forms name

-- what a name is made from: the first of all candidates whose names are all there, order-only ones too (GNU make), as those of a rule
-- without prerequisites are. One step; a source's own source is not asked for (own)
abbrev pub source_of : (is_there : List ℕ → Bool) → List Form → (name : List ℕ) → Option Source
source_of is_there forms name = find (λ source. list_all is_there source.names) (candidates forms name)
