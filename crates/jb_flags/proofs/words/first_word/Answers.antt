use Rattle.std.proofs.Common.{sym}
use Rattle.jb_flags.proofs.WordLemmas.{leads_start, leads_on, leads_to, spelled_shorter}
use Rattle.jb_flags.proofs.words.first_word.Goals as goal

pub loop-byte-init : goal.loop-byte-init
loop-byte-init c = leads_start c.new-word.result.items c.args.text.now c.new-word.ensures.items

pub loop-byte-smaller : goal.loop-byte-smaller
loop-byte-smaller c = spelled_shorter c.loop-byte.rest.now c.in-Some.byte c.in-Some.behind.now (sym c.in-Some.ensures)

pub loop-byte-preserved : goal.loop-byte-preserved
loop-byte-preserved c =
    leads_on c.loop-byte.word.items c.push.new.self.items c.args.text.now c.loop-byte.rest.now c.in-Some.byte c.in-Some.behind.now c.in_ok-push.ensures.items
    (sym c.in-Some.ensures) c.loop-byte.invariant

pub returns : goal.returns
returns c = leads_to c.loop-byte.word.items c.args.text.now c.loop-byte.rest.now (sym c.in_default.ensures) c.loop-byte.invariant
