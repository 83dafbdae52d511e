use Rattle.std.proofs.Common.{◌∙◌, sym}
use Rattle.std.proofs.lemmas.Str.{IsUtf8-from_ascii, is_utf8-from_IsUtf8}
use Rattle.mk_seen.proofs.text_names.is_text_name.Goals as goal

pub returns-then-is_ascii : goal.returns-then-is_ascii
returns-then-is_ascii c =
    c.if-is_ascii.true ∙ sym (is_utf8-from_IsUtf8 c.args.name.now (IsUtf8-from_ascii c.args.name.now c.if-is_ascii.ensures.cases))
