-- What the state has of the files of a target as it is now. Own.
use Rattle.std.specs.Prelude.{ℕ, suc, ◌+◌, Bool, true, false, not, List, length, Option, Some, None, option_to_list}
use Rattle.std.specs.Str.{bytes_eq}
use Rattle.st_marks.specs.declared.mark.Mark.{Mark as KeptMark}
use Rattle.mk_verdict.specs.declared.mark.Mark.TheVariants.{NotKept, Unknown}
use Rattle.mk_marks.specs.Marks.{nothing_kept, so_many_kept}
use Rattle.mk_marks.specs.Said.{said}
use Rattle.mk_marks.specs.declared.noted.Noted.{Noted}

abbrev pub same_source : (recorded source : Option (List ℕ)) → Bool
same_source None None = true
same_source None (Some s) = false
same_source (Some r) None = false
same_source (Some r) (Some s) = bytes_eq r s

-- by what the text says: where it is none, or of another number of marks, each is unknown
abbrev pub noted_by : Option (Option (List ℕ) × List KeptMark) → (source : Option (List ℕ)) (others names : ℕ) → Noted
noted_by None source others names = record { source_changed = false; kept = nothing_kept Unknown }
noted_by (Some (recorded, marks)) source others names = record {
  source_changed = not (same_source recorded source);
  kept = so_many_kept marks (suc (others + (length (option_to_list recorded) + names)));
}

-- what the state has of a target with this text of its marks, if it has one, where the target has this source now, if any, and so many
-- files are made beside it, and so many explicit and hidden names are recorded
abbrev pub noted : (text : Option (List ℕ)) (source : Option (List ℕ)) (others names : ℕ) → Noted
noted None source others names = record { source_changed = false; kept = nothing_kept NotKept }
noted (Some text) source others names = noted_by (said text) source others names
