use Rattle.std.proofs.Common.{◌≡◌, false, length}
use Rattle.mk_notes.specs.Notes.{all_noted}
use Rattle.mk_notes.specs.References.{subjects_in}
use Rattle.mk_notes.proofs.notes.Notes.note_references.Given as goal

abbrev pub invariant-loop-byte : goal.invariant-loop-byte
invariant-loop-byte l = record {
  found : all_noted l.file l.line (subjects_in l.profile l.is_behind l.rest) l.self.found.items
      ≡ all_noted l.file l.line (subjects_in l.profile false l.text) l.fn.self.found.items;
  suffixes : l.self.suffixes ≡ l.fn.self.suffixes;
  defined : l.self.defined ≡ l.fn.self.defined;
}

abbrev pub decreases-loop-byte : goal.decreases-loop-byte
decreases-loop-byte l = length l.rest
