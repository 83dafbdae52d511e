use Rattle.std.proofs.Common.{◌≡◌, rules, None}
use Rattle.mk_words.specs.Patterns.{pattern_of}
use Rattle.mk_words.proofs.PartedLemmas.{parted-literal}
use Rattle.mk_words.proofs.patterns.Patterns.add.Goals as goal

pub returns-in_ok-insert-in-None : goal.returns-in_ok-insert-in-None
returns-in_ok-insert-in-None c =
    let literal : pattern_of c.args.text.now ≡ (c.pattern.inside.front.items, None) = search rules in
    parted-literal c.args.self.now.literals.keys c.insert.new.self.keys c.pattern.inside.front c.args.self.now.forms.items (pattern_of c.args.text.now)
    c.in_ok-insert-in-None.ensures.keys literal
