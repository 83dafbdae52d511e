use Rattle.std.proofs.Common.{◌≤◌, ◌∙◌, length, ap, subst}
use Rattle.mk_macros.specs.Expansion.{limit}
use Rattle.mk_macros.specs.Ranks.{defined_by}
use Rattle.mk_macros.specs.Reference.{front}
use Rattle.mk_macros.specs.Shown.{shown_piece}
use Rattle.mk_profile.specs.Profile.{is_wide}
use Rattle.mk_macros.proofs.SimpleLemmas.{none_yet, one_more, no_more, held}
use Rattle.mk_macros.proofs.definitions.Macros.expand_simply.Goals as goal

pub loop-piece-init : goal.loop-piece-init
loop-piece-init c = none_yet (defined_by c.args.self.now) c.args.line.now c.args.text.now _ c.in_ok-made.ensures.items

pub loop-piece-preserved : goal.loop-piece-preserved
loop-piece-preserved c =
    let (made_is, within) = held c.in_ok-fits.fits c.if-not-fits.false c.in_ok-fits.ensures in
    one_more (defined_by c.args.self.now) c.args.line.now c.args.text.now c.loop-piece.made.items c.loop-piece.rest.now c.in-Some.after.now
    c.in-Some-simple_piece.bytes.now c.append_within.new.made.items (shown_piece c.in-Some.piece)
    (c.in-Some.ensures.front ∙ ap (λ profile. front (is_wide profile) c.loop-piece.rest.now) c.profile-profile.ensures) c.in-Some-simple_piece.ensures
    made_is
    (subst (λ most. length c.append_within.new.made.items ≤ most) (c.most_bytes.ensures ∙ ap (λ profile. limit (is_wide profile)) c.profile-profile.ensures) within)
    c.loop-piece.invariant

pub returns : goal.returns
returns c = no_more (defined_by c.args.self.now) c.args.line.now c.args.text.now c.loop-piece.made.items c.loop-piece.rest.now (c.in_default.ensures.front ∙ ap (λ profile. front (is_wide profile) c.loop-piece.rest.now) c.profile-profile.ensures) c.loop-piece.invariant
