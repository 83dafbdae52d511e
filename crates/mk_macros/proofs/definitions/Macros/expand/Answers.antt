use Rattle.std.proofs.Common.{[], subst}
use Rattle.mk_profile.specs.Profile.{is_wide}
use Rattle.mk_macros.specs.Ranks.{defined_by, meaning_of}
use Rattle.mk_macros.specs.Expansion.{gives, Expands, MeetsFault}
use Rattle.mk_macros.proofs.PlainLemmas.{ok_with, err_with}
use Rattle.mk_macros.proofs.definitions.Macros.expand.Goals as goal

pub returns-then-not-has_reference-clause-found : goal.returns-then-not-has_reference-clause-found
returns-then-not-has_reference-clause-found c = ok_with c.expand_plain.result _ _
    (λ made expands. subst (λ profile. Expands (is_wide profile) (meaning_of (defined_by c.args.self.now).ranks c.args.line.now) [] [] c.args.text.now (gives made.items)) c.profile.ensures (expands _)) c.expand_plain.ensures.found

pub returns-then-not-has_reference-clause-fault : goal.returns-then-not-has_reference-clause-fault
returns-then-not-has_reference-clause-fault c = err_with c.expand_plain.result _ _
    (λ fault meets. subst (λ profile. MeetsFault (is_wide profile) (meaning_of (defined_by c.args.self.now).ranks c.args.line.now) c.args.text.now fault) c.profile.ensures (meets _)) c.expand_plain.ensures.fault
