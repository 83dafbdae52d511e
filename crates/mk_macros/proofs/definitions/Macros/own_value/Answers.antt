use Rattle.std.proofs.Common.{◌≤◌, length, sym, subst}
use Rattle.mk_macros.specs.Expansion.{limit}
use Rattle.mk_macros.specs.Ranks.{defined_by}
use Rattle.mk_profile.specs.Profile.{is_wide}
use Rattle.mk_macros.proofs.SimpleLemmas.{undefined_value_adds, defined_adds}
use Rattle.mk_macros.proofs.definitions.Macros.own_value.Goals as goal

pub returns-in-None : goal.returns-in-None
returns-in-None c =
    undefined_value_adds (defined_by c.args.self.now) c.args.line.now c.args.name.now c.undefined_value.result c.requires (sym c.in-None.ensures.text) c.undefined_value.ensures

pub returns-in-Some : goal.returns-in-Some
returns-in-Some c =
    let plain = c.is_own_value.ensures c.if-is_own_value.true in
    defined_adds (defined_by c.args.self.now) c.args.line.now c.args.name.now c.in-Some.text.now c.requires (sym c.in-Some.ensures.text) plain.0
    (subst (λ profile. length c.in-Some.text.now ≤ limit (is_wide profile)) c.profile.ensures plain.1)
