use Rattle.std.proofs.Common.{ap, ◌∙◌, option_map}
use Rattle.dmk_files.proofs.FileLemmas.{text_of, shown_text}
use Rattle.dmk_files.proofs.texts.Texts.get.Goals as goal

pub returns : goal.returns
returns c = shown_text c.get.result (λ r. r.now) ∙ ap (option_map text_of) c.get.ensures.value
