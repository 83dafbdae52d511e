use Rattle.std.proofs.Common.{◌≡◌, ◌++◌, drop}
use Rattle.std.specs.List.{flat_map}
use Rattle.mk_notes.specs.Statements.{statements_noted, statement_suffixes, statement_marks}
use Rattle.mk_notes.proofs.notes.Notes.see.Given as goal

abbrev pub invariant-loop-statement : goal.invariant-loop-statement
invariant-loop-statement l = record {
  found : statements_noted l.profile l.file (drop l.statement-index l.statements) l.self.found.items
      ≡ statements_noted l.profile l.file l.statements l.fn.self.found.items;
  suffixes : l.self.suffixes.items ++ flat_map statement_suffixes (drop l.statement-index l.statements)
      ≡ l.fn.self.suffixes.items ++ flat_map statement_suffixes l.statements;
  defined : l.self.defined.items ++ flat_map (statement_marks l.profile) (drop l.statement-index l.statements)
      ≡ l.fn.self.defined.items ++ flat_map (statement_marks l.profile) l.statements;
}
