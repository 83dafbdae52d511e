use Rattle.std.proofs.Common.{option_map, sym, ap, ◌∙◌}
use Rattle.dmk_reading.proofs.makefile.file_named.Goals as goal

pub returns-in_ok-from_slice-in-Some-clause-read : goal.returns-in_ok-from_slice-in-Some-clause-read
returns-in_ok-from_slice-in-Some-clause-read g c = λ world may. sym (c.in_ok-text.ensures.content world may) ∙ ap (option_map (λ v. v.value.items)) c.in-Some.is

pub returns-in-None-clause-read : goal.returns-in-None-clause-read
returns-in-None-clause-read g c = λ world may. sym (c.in_ok-text.ensures.content world may) ∙ ap (option_map (λ v. v.value.items)) c.in-None.is
