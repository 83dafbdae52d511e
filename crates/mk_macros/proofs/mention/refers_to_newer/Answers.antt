use Rattle.std.proofs.Common.{◌∙◌, ◌≡◌, true, false, refl, sym, subst}
use Rattle.std.proofs.lemmas.List.{take_rest}
use Rattle.mk_profile.specs.Profile.{is_wide}
use Rattle.mk_macros.specs.Reference.{first, front}
use Rattle.mk_macros.specs.Shown.{shown_piece}
use Rattle.mk_macros.specs.Mention.{RefersToNewer, in_front, behind, names_newer, holds_references}
use Rattle.mk_macros.proofs.MentionLemmas.{none_left, goes_on, enters, entered, clash}
use Rattle.mk_macros.proofs.mention.refers_to_newer.Goals as goal
use Rattle.mk_macros.proofs.mention.refers_to_newer.Goals.{else-is_wide-via-then-is_wide+else-holds_references, else-is_wide-via-else-is_wide}

pub returns-then-names_newer : goal.returns-then-names_newer
returns-then-names_newer c =
    (λ _. c.loop-piece.invariant.0 (in_front _ _ (sym c.in-Some.ensures.front) (sym c.names_newer.ensures ∙ c.if-names_newer.true)), λ _. refl)

pub loop-piece-preserved-then-holds_references : goal.loop-piece-preserved-then-holds_references
loop-piece-preserved-then-holds_references c =
    let wide = is_wide c.args.profile in
    let text = c.loop-piece.rest.now in
    let at : front wide text ≡ first (shown_piece c.in-Some.piece) c.in-Some.after.now = sym c.in-Some.ensures.front in
    let none : names_newer (shown_piece c.in-Some.piece) ≡ false = sym c.names_newer.ensures ∙ c.if-names_newer.false in
    let w : wide ≡ true = sym c.is_wide-is_wide.ensures ∙ c.if-is_wide.true in
    let holds : holds_references (shown_piece c.in-Some.piece) ≡ true = sym c.holds_references.ensures ∙ c.if-holds_references.true in
    let same = take_rest text 2 in (
      λ h. c.loop-piece.invariant.0 (enters wide text c.in-Some.after.now (shown_piece c.in-Some.piece) at w holds (subst (RefersToNewer wide) same h)),
      λ h. subst (RefersToNewer wide) (sym same) (entered wide text c.in-Some.after.now (shown_piece c.in-Some.piece) at none w holds (c.loop-piece.invariant.1 h)),
    )

pub loop-piece-preserved : goal.loop-piece-preserved
loop-piece-preserved c =
    let wide = is_wide c.args.profile in
    let text = c.loop-piece.rest.now in
    let at : front wide text ≡ first (shown_piece c.in-Some.piece) c.in-Some.after.now = sym c.in-Some.ensures.front in
    let none : names_newer (shown_piece c.in-Some.piece) ≡ false = sym c.names_newer.ensures ∙ c.if-names_newer.false in
    let whole : wide ≡ true → holds_references (shown_piece c.in-Some.piece) ≡ false =
    elim c.else-is_wide.branch [
      | else-is_wide-via-then-is_wide+else-holds_references v ↦ λ w. sym v.holds_references.ensures ∙ v.if-holds_references.false
      | else-is_wide-via-else-is_wide v ↦ λ w. absurd (clash wide w (sym c.is_wide-is_wide.ensures ∙ v.if-is_wide.false))
    ] in (
      λ h. c.loop-piece.invariant.0 (behind (shown_piece c.in-Some.piece) c.in-Some.after.now at whole h),
      λ h. goes_on wide text c.in-Some.after.now (shown_piece c.in-Some.piece) at none whole (c.loop-piece.invariant.1 h),
    )

pub returns : goal.returns
returns c = ((λ h. absurd cc), λ h. absurd (none_left _ _ (sym c.in_default.ensures.front) (c.loop-piece.invariant.1 h)))
