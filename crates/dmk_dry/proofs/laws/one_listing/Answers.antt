use Rattle.dmk_dry.proofs.ListingLemmas.{lists_once}
use Rattle.dmk_dry.proofs.laws.one_listing.Goals as goal

pub returns : goal.returns
returns c = λ keeping graph marks order a b h k. lists_once keeping graph order marks a b h k
