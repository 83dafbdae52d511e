use Rattle.std.proofs.Common.{Some, ap, ◌∙◌, cond}
use Rattle.std.specs.Map.{lookup}
use Rattle.std.specs.Str.{bytes_eq}
use Rattle.mk_macros.proofs.DefinitionLemmas.{is_named}
use Rattle.mk_rule_lines.proofs.NameLemmas.{lookup-inserted}
use Rattle.dmk_files.specs.Listings.{known_names}
use Rattle.dmk_files.proofs.listings.Listings.add.Goals as goal

pub returns-clause-ok : goal.returns-clause-ok
returns-clause-ok c = λ f.
    let entries = c.args.self.now.known.entries in
    ap (lookup (is_named (λ k. k.items) f)) c.in_ok-insert.ensures.entries
    ∙ lookup-inserted (λ k. k.items) f c.in_ok-from_slice.field-0 c.args.names entries
    ∙ ap (λ m. cond (bytes_eq f m) (Some c.args.names) (known_names c.args.self.now f)) c.in_ok-from_slice.ensures.items
