use Rattle.std.proofs.Common.{◌+◌, [], List, ℕ, drop, subst, sym, take}
use Rattle.std.specs.List.{flat_map}
use Rattle.st_records.specs.declared.record.Entry.{Entry}
use Rattle.st_listing.specs.Listing.{entry_lines}
use Rattle.st_listing.specs.Writing.{Sends}
use Rattle.st_listing.proofs.LineLemmas.{lines_around, lines_from}
use Rattle.st_listing.proofs.ListingLemmas.{lines_of_more}
use Rattle.st_listing.proofs.SendingLemmas.{at_error, part_within, sends_more, sends_nothing, sends_nothing_more}
use Rattle.st_listing.proofs.text.send_entries.Goals as goal

pub loop-place-init : goal.loop-place-init
loop-place-init g c = sends_nothing _ _

pub returns-in_err-look_ahead : goal.returns-in_err-look_ahead
returns-in_err-look_ahead g c =
    let named = c.args.named.now in
    let place = c.loop-place.place in
    at_error _ c.from_residual.result _ _ _ _ _ c.from_residual.ensures.1 (
    part_within _ _ _ _ _ (flat_map entry_lines (take place named)) [] (flat_map entry_lines (drop place named)) _ (lines_from named place) c.loop-place.invariant c.in_err-look_ahead.ensures
    )

pub returns-in_err-send_entry : goal.returns-in_err-send_entry
returns-in_err-send_entry g c =
    let named = c.args.named.now in
    let place = c.loop-place.place in
    let entry : List ℕ × Entry = (c.at.result.0.now, c.at.result.1.now) in
    at_error _ c.from_residual-in_err-send_entry.result _ _ _ _ _ c.from_residual-in_err-send_entry.ensures.1 (
    part_within _ _ _ _ _ (flat_map entry_lines (take place named)) (entry_lines entry) (flat_map entry_lines (drop (place + 1) named)) _ (lines_around named place entry c.at.ensures)
    (sends_nothing_more _ _ _ _ _ _ _ c.loop-place.invariant c.in_ok-look_ahead.ensures)
    c.in_err-send_entry.ensures
    )

pub loop-place-preserved : goal.loop-place-preserved
loop-place-preserved g c =
    let entry : List ℕ × Entry = (c.at.result.0.now, c.at.result.1.now) in
    subst (Sends (g.W.Write.contents c.args.writer.now) (g.W.Write.contents c.send_entry.new.writer) c.args.buffer.now.items c.send_entry.new.buffer.items)
    (sym (lines_of_more c.args.named.now c.loop-place.place entry c.at.ensures))
    (sends_more _ _ _ _ _ _ _ _ (sends_nothing_more _ _ _ _ _ _ _ c.loop-place.invariant c.in_ok-look_ahead.ensures) c.in_ok-send_entry.ensures)
