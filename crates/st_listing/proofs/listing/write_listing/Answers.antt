use Rattle.std.proofs.Common.{sym, subst, ◌∙◌}
use Rattle.std.specs.Io.KnownBytes.{Appends}
use Rattle.std.proofs.KnownBytes.{Appends-nil}
use Rattle.st_listing.proofs.ListingLemmas.{nothing_listed}
use Rattle.st_listing.proofs.listing.write_listing.Goals as goal

pub returns-then-len-eq0-clause-listed : goal.returns-then-len-eq0-clause-listed
returns-then-len-eq0-clause-listed g c =
    let contents = g.W.Write.contents c.args.writer.now in
    subst (Appends contents contents) (sym (nothing_listed c.args.state.now (sym c.len.ensures ∙ c.if-len-eq0.true))) (Appends-nil contents)
