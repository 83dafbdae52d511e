-- The crate's own values as the definitions see them.
use Rattle.std.specs.Prelude.{ℕ, ◌+◌, List, length, Option, Some, None, option_map, nat_eq, Vec}
use Rattle.std.specs.Borrow.{Bor}
use Rattle.std.specs.Option.{option_map_or}
use Rattle.std.specs.Cmp.Lexicographic.{pointwise}
use Rattle.std.specs.declared.alloc.Global.{Global}
use Rattle.indexmap.specs.IndexMap.{IndexMap, get_by}
use Rattle.mk_macros.specs.Ranks.{Ranks, no_ranks}
use Rattle.mk_macros.specs.declared.definitions.Definition.{Definition}
use Rattle.mk_macros.specs.Words as word
use Rattle.mk_macros.specs.Reference as text
use Rattle.mk_macros.specs.declared.substitution.Pattern.{Pattern}
use Rattle.mk_macros.specs.declared.substitution.WordChange.{WordChange}
use Rattle.mk_macros.specs.declared.substitution.WordChange.TheVariants.{ByPattern, Directory, File}
use Rattle.mk_macros.specs.declared.reference.Use.{Use}
use Rattle.mk_macros.specs.declared.reference.Use.TheVariants.{Whole, Words}
use Rattle.mk_macros.specs.declared.reference.Piece.{Piece}
use Rattle.mk_macros.specs.declared.reference.Piece.TheVariants.{Plain, Reference, Unclosed, Nested}

-- a pattern, by its bytes
abbrev pub shown_pattern : Pattern → word.Pattern
shown_pattern p = record { before = p.before.now; after = p.after.now; front = p.front.now; keeps_stem = p.keeps_stem; back = p.back.now }

-- how each word changes
abbrev pub shown_change : WordChange → word.WordChange
shown_change (ByPattern p) = word.by_pattern (shown_pattern p)
shown_change Directory = word.to_directory
shown_change File = word.to_file

-- what a reference takes
abbrev pub shown_use : Use → text.Use
shown_use Whole = text.whole
shown_use (Words change) = text.words_changed (shown_change change)

-- a piece of a text
abbrev pub shown_piece : Piece → text.Piece
shown_piece (Plain bytes) = text.plain bytes.now
shown_piece (Reference name use_of) = text.reference name.now (shown_use use_of)
shown_piece Unclosed = text.unclosed
shown_piece (Nested inner) = text.nested inner.now

-- how many bytes brackets take that hold a `$`, and what they hold
abbrev pub inner_len : text.Piece → ℕ
inner_len (text.nested inner) = length inner + 2
inner_len (text.plain bytes) = 0
inner_len (text.reference name use_of) = 0
inner_len text.unclosed = 0

-- what `next_piece` answers
abbrev pub shown_front : Option (Piece × Bor (List ℕ)) → text.Front
shown_front None = text.nothing
shown_front (Some found) = text.first (shown_piece found.0) found.1.now

-- the texts that a definition holds
abbrev pub ranks_of : Definition → Ranks
ranks_of d = record {
  command_line = option_map (λ v. v.items) d.command_line;
  makefile = option_map (λ v. v.items) d.makefile;
  environment = option_map (λ v. v.items) d.environment;
  tool = option_map (λ v. v.items) d.tool;
  is_fixed = d.is_fixed;
}

-- a name and its texts
abbrev pub shown_definition : Vec ℕ Global × Definition → List ℕ × Ranks
shown_definition e = (e.0.items, ranks_of e.1)

-- what the map has for a name
abbrev pub texts_at : {S : Type 0} → IndexMap (Vec ℕ Global) Definition S → (name : List ℕ) → Ranks
texts_at definitions name = option_map_or ranks_of (get_by (λ k. pointwise nat_eq name k.items) definitions) no_ranks
