use Rattle.std.proofs.Common.{subst}
use Rattle.dmk_files.specs.Listings.{AgreeIn}
use Rattle.dmk_files.specs.declared.listings.Listings.{Listings}
use Rattle.dmk_files.proofs.file_texts.FileTextsIncludes.output.Goals as goal

pub returns-clause-grows : goal.returns-clause-grows
returns-clause-grows g c = λ world now. (
  c.written.ensures.grows world now.0,
  subst (λ (l : Listings). AgreeIn l world.folders) c.written.ensures.listings now.1,
)
