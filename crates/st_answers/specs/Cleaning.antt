-- Files of targets that may be removed, since the state knows that they were made, and what is told of those that stay (own). What a
-- look at a name finds is said as a mark ("Stale").
use Rattle.std.specs.Prelude.{ℕ, ◌==◌, ◌&&◌, ◌||◌, not, Bool, true, false, List, [], ◌∷◌, Option, None, Some, codes, drop, filter, if◌then◌else◌}
use Rattle.std.specs.Bool.{nat_eq}
use Rattle.std.specs.List.{flat_map, list_any, starts_with}
use Rattle.std.specs.Str.{bytes_eq}
use Rattle.std.specs.FinMap as map
use Rattle.st_records.specs.declared.record.Phase.{Phase}
use Rattle.st_records.specs.declared.record.Phase.TheVariants as phases
use Rattle.st_records.specs.declared.record.Entry.{Entry}
use Rattle.st_marks.specs.declared.mark.Mark.{Mark}
use Rattle.st_marks.specs.declared.mark.Mark.TheVariants.{Unknown, NoFile, Other, File, Own}
use Rattle.st_state.specs.State.{StateMap}
use Rattle.st_answers.specs.Lines.{row}
use Rattle.st_answers.specs.Stale.{own_mark, has_stamp, is_no_file, is_other}

-- ---- names that lead out of the tree (POSIX, 4.16 "Pathname Resolution")

-- a part of a path ends here
abbrev pub ends_part : List ℕ → Bool
ends_part [] = true
ends_part (byte ∷ rest) = byte == 47

-- the path's first part is `..`
abbrev pub begins_up : List ℕ → Bool
begins_up path = starts_with nat_eq path (codes "..") && ends_part (drop 2 path)

-- some part of it is; the first one counts where a part begins there
abbrev pub has_up : Bool → List ℕ → Bool
has_up begins [] = false
has_up begins (byte ∷ rest) = (begins && begins_up (byte ∷ rest)) || has_up (byte == 47) rest

-- an absolute path, or one with a part `..`
abbrev pub leads_out : List ℕ → Bool
leads_out name = starts_with nat_eq name (codes "/") || has_up true name

-- ---- which files were made

-- an ordinary file is there, of the time and size that the mark says
abbrev pub has_mark : Option Mark → (look : Mark) → Bool
has_mark None look = false
has_mark (Some Unknown) look = false
has_mark (Some NoFile) look = false
has_mark (Some Other) look = false
has_mark (Some (File stamp)) look = has_stamp stamp look
has_mark (Some (Own stamp)) look = has_stamp stamp look

abbrev pub is_made_by : Phase → Option Mark → (look : Mark) → Bool
is_made_by phases.Begun mark look = false
is_made_by phases.Done mark look = has_mark mark look
is_made_by (phases.Failed status) mark look = false

-- a command that does nothing (POSIX, "colon" and "true")
abbrev pub is_idle : List ℕ → Bool
is_idle command = bytes_eq command (codes ":") || bytes_eq command (codes "true")

-- some command does something: a file that none made may be a source
abbrev pub has_work : List (List ℕ) → Bool
has_work commands = list_any (λ c. not (is_idle c)) commands

-- the target is done by commands, and its file the one that was made
abbrev pub is_made : Entry → (look : Mark) → Bool
is_made entry look = is_made_by entry.phase (own_mark entry) look && has_work entry.commands

-- what is no target was never made
abbrev pub is_known_made : Option Entry → (look : Mark) → Bool
is_known_made None look = false
is_known_made (Some entry) look = is_made entry look

-- ---- which are removed

-- a file that was made, and outside the tree just where that is allowed
abbrev pub is_removable : (look : List ℕ → Mark) → (outside : Bool) → StateMap → (name : List ℕ) → Bool
is_removable look outside m name = is_known_made (map.get m name) (look name) && (outside || not (leads_out name))

-- those of the names, in their order
abbrev pub removable : (look : List ℕ → Mark) → (outside : Bool) → StateMap → (names : List (List ℕ)) → List (List ℕ)
removable look outside m names = filter (is_removable look outside m) names

-- ---- which stay, and why

-- of a file that is as it was made
abbrev pub made_word : (work : Bool) → List ℕ
made_word work = if work then codes "outside" else codes "idle"

-- of a file of a done target
abbrev pub file_word : (work : Bool) → Option Mark → (look : Mark) → List ℕ
file_word work None look = codes "unmarked"
file_word work (Some Unknown) look = codes "unmarked"
file_word work (Some NoFile) look = codes "changed"
file_word work (Some Other) look = if is_other look then codes "other" else codes "changed"
file_word work (Some (File stamp)) look = if has_stamp stamp look then made_word work else codes "changed"
file_word work (Some (Own stamp)) look = if has_stamp stamp look then made_word work else codes "changed"

abbrev pub stay_word : Phase → (work : Bool) → Option Mark → (look : Mark) → List ℕ
stay_word phases.Begun work mark look = codes "begun"
stay_word phases.Done work mark look = file_word work mark look
stay_word (phases.Failed status) work mark look = codes "failed"

-- a line for a file that is there and isn't removed
abbrev pub stay_row : (removed : Bool) → (name : List ℕ) → Entry → (look : Mark) → List ℕ
stay_row removed name entry look =
    if removed || is_no_file look then [] else row (stay_word entry.phase (has_work entry.commands) (own_mark entry) look) name

abbrev pub known_row : (removed : Bool) → (name : List ℕ) → Option Entry → (look : Mark) → List ℕ
known_row removed name None look = []
known_row removed name (Some entry) look = stay_row removed name entry look

abbrev pub name_row : (look : List ℕ → Mark) → (outside : Bool) → StateMap → (name : List ℕ) → List ℕ
name_row look outside m name = known_row (is_removable look outside m name) name (map.get m name) (look name)

-- such a line for each of the names that is a target
abbrev pub stay_text : (look : List ℕ → Mark) → (outside : Bool) → StateMap → (names : List (List ℕ)) → List ℕ
stay_text look outside m names = flat_map (name_row look outside m) names
