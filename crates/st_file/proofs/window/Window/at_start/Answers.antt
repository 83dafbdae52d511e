use Rattle.std.proofs.Common.{ℕ, List, length, refl, sym, ap, subst, ◌∙◌, arith}
use Rattle.st_disk.specs.declared.which.Which.{Which}
use Rattle.st_file.specs.Window.{Shows}
use Rattle.st_file.proofs.WindowLemmas.{Shows-start, ShowsHeader-of}
use Rattle.st_file.proofs.window.Window.at_start.Goals as goal

pub reach-requires-clause-shows : goal.reach-requires-clause-shows
reach-requires-clause-shows g c = λ honest.
    Shows-start _ _ (c.in_ok-len.ensures.len honest ∙ ap (λ (f : Which → List ℕ). length (f c.args.side)) (sym (c.in_ok-len.ensures.seen honest))) refl c.new.ensures.items

pub returns-clause-header : goal.returns-clause-header
returns-clause-header g c = λ honest.
    let shows = subst (λ (f : Which → List ℕ). Shows (f c.args.side) c.reach.new.self) (c.in_ok-len.ensures.seen honest) (c.in_ok-reach.ensures.shows honest) in
    ShowsHeader-of _ _ shows c.reach.ensures.place (omega (arith, c.min.ensures, c.reach.ensures.len, c.in_ok-reach.ensures.reached))
