use Rattle.mk_depfiles.proofs.MentionLemmas.{mentions_more}
use Rattle.mk_depfiles.proofs.mentions.first_mentions.Goals as goal

pub loop-name-preserved : goal.loop-name-preserved
loop-name-preserved c =
    mentions_more c.loop-name.once c.push_new.new.names c.loop-name.seen.keys c.insert.new.self.keys c.in_ok-from_slice.field-0 c.in-Some.name.now c.short_name-name.result.now
    c.in_ok-is_new.is_new c.loop-name.name-iterator c.next.new.self c.args.names.now
    c.loop-name.invariant c.in-Some.ensures.steps c.short_name-name.ensures c.in_ok-from_slice.ensures.items c.in_ok-is_new.ensures.added c.in_ok-is_new.ensures.keys
    c.in_ok-push_new.ensures
