use Rattle.std.proofs.Common.{[], ◌∷◌, sym, ap, ◌∙◌, option_map}
use Rattle.dmk_files.proofs.CommandLemmas.{output_is, new_output_is, agree_before}
use Rattle.dmk_files.proofs.file_texts.FileTexts.written.Goals as goal

pub returns-in-Some-clause-output : goal.returns-in-Some-clause-output
returns-in-Some-clause-output g c = λ world fits.
    c.in_ok-copy.ensures.items
    ∙ output_is c.args.self.now.commands.run.items c.args.file.now c.args.line c.args.command.now c.in-Some.known.now world.outputs
    (sym c.get.ensures ∙ ap (option_map (λ o. o.now)) c.in-Some.is) fits.1

pub returns-clause-output : goal.returns-clause-output
returns-clause-output g c = λ world fits.
    sym c.as_slice.ensures.value
    ∙ new_output_is c.args.self.now.commands.run.items _ (record { file = c.args.file.now; line = c.args.line; text = c.args.command.now; output = c.as_slice.result.now }) world.outputs c.in_ok-add.ensures.ok
    (sym c.get.ensures ∙ ap (option_map (λ o. o.now)) c.in_default.is) fits.1

pub returns-clause-grows : goal.returns-clause-grows
returns-clause-grows g c = λ world fits. (
  fits.0,
  agree_before c.args.self.now.commands.run.items (record { file = c.args.file.now; line = c.args.line; text = c.args.command.now; output = c.as_slice.result.now } ∷ []) _ world.outputs c.in_ok-add.ensures.ok fits.1,
)
