use Rattle.st_listing.proofs.marked.send_mark.Goals as goal

pub returns : goal.returns
returns g c = rw (c.as_slice.ensures.value, c.mark_text-text.ensures) at c.send_line.ensures
