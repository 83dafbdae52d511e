use Rattle.st_listing.proofs.SendingLemmas.{all_but_a_part}
use Rattle.st_listing.proofs.text.write_lines.Goals as goal

pub returns-clause-part : goal.returns-clause-part
returns-clause-part g c = all_but_a_part c.write_text.result _ _ _ _ _ _ c.in_ok-send_entries.ensures (rw c.as_slice.ensures.value at c.write_text.ensures.part)
