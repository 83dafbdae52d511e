use Rattle.std.proofs.Common.{Some, ap, ◌∙◌, cond, option_map}
use Rattle.std.specs.Map.{lookup}
use Rattle.std.specs.Str.{bytes_eq}
use Rattle.mk_macros.proofs.DefinitionLemmas.{is_named}
use Rattle.mk_rule_lines.proofs.NameLemmas.{lookup-inserted}
use Rattle.dmk_files.specs.Files.{known_text}
use Rattle.dmk_files.proofs.FileLemmas.{added_text, text_of}
use Rattle.dmk_files.proofs.texts.Texts.add.Goals as goal

pub returns-clause-ok : goal.returns-clause-ok
returns-clause-ok c = λ n.
    let entries = c.args.self.now.known.entries in
    let inserted = lookup-inserted (λ k. k.items) n c.in_ok-from_slice.field-0 c.args.text entries in
    ap (λ es. option_map text_of (lookup (is_named (λ k. k.items) n) es)) c.in_ok-insert.ensures.entries ∙ ap (option_map text_of) inserted
    ∙ added_text (bytes_eq n c.in_ok-from_slice.field-0.items) c.args.text (lookup (is_named (λ k. k.items) n) entries)
    ∙ ap (λ m. cond (bytes_eq n m) (Some (text_of c.args.text)) (known_text c.args.self.now n)) c.in_ok-from_slice.ensures.items
