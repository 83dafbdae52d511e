use Rattle.std.proofs.Common.{◌≡◌, drop}
use Rattle.mk_notes.specs.Statements.{recipe_texts, texts_noted}
use Rattle.mk_notes.proofs.notes.Notes.see_recipe.Given as goal

abbrev pub invariant-loop-raw : goal.invariant-loop-raw
invariant-loop-raw l = record {
  found : texts_noted l.profile l.file (recipe_texts (drop l.raw-index l.lines)) l.self.found.items
      ≡ texts_noted l.profile l.file (recipe_texts l.lines) l.fn.self.found.items;
  suffixes : l.self.suffixes ≡ l.fn.self.suffixes;
  defined : l.self.defined ≡ l.fn.self.defined;
}
