use Rattle.std.proofs.Common.{◌≡◌, ◌⊎◌, ◌∷◌, [], ◌++◌, ◌+◌, ◌∙◌, false, true, length, flat_map, ap, sym, arith, inl, inr, option_copied, append-nil, refl}
use Rattle.mk_lines.specs.Lines.{goes_on, lines_left, joint, number_after, size_left}
use Rattle.mk_lines.proofs.LinesLemmas.{group_ends, after_more, length_more, number_after-more, number_after-none, nothing_left}
use Rattle.mk_statements.specs.Logical.{physical, joined_behind}
use Rattle.mk_statements.proofs.LogicalLemmas.{kept_more, joined_more}
use Rattle.mk_statements.proofs.logical.join_rest.Goals as goal
use Rattle.mk_statements.proofs.logical.join_rest.Goals.{else-loop-left-test, then-loop-left-test+in_default}

pub loop-left-init : goal.loop-left-init
loop-left-init c = record {
  kept = refl;
  joined = refl;
  number = rw c.saturating_add-number.ensures (number_after-more c.args.first_number _);
  after = refl;
  size = omega arith;
  small = omega arith;
}

pub loop-left-preserved : goal.loop-left-preserved
loop-left-preserved c =
    let on : goes_on (physical c.loop-left.last) ≡ true = cc in
    let at : lines_left (option_copied c.loop-left.left) ≡ physical c.next_line.result.0 ∷ lines_left (option_copied c.next_line.result.1) = ap (λ o. lines_left (option_copied o)) c.in-Some.is ∙ c.next_line.ensures.lines in
    record {
      kept = kept_more _ _ _ _ _ _ on at c.in_ok-push_kept.ensures ∙ c.loop-left.invariant.kept;
      joined = joined_more _ _ _ _ _ _ on at c.in_ok-push_joined.ensures ∙ c.loop-left.invariant.joined;
      number = rw c.saturating_add-number-in-loop-left.ensures (number_after-more c.loop-left.number _) ∙ ap (number_after c.loop-left.number) (sym (length_more _ _ _ _ on at)) ∙ c.loop-left.invariant.number;
      after = after_more _ _ _ _ on at ∙ c.loop-left.invariant.after;
      size = let whole : size_left (option_copied c.loop-left.left) ≡ length c.in-Some.bytes.now + 1 = ap (λ o. size_left (option_copied o)) c.in-Some.is in omega (arith, c.next_line.ensures.shorter);
      small = omega arith;
    }

pub returns-clause-kept : goal.returns-clause-kept
returns-clause-kept c =
    let ends : (goes_on (physical c.loop-left.last) ≡ false) ⊎ (lines_left (option_copied c.loop-left.left) ≡ []) =
    elim c.loop-left-test.branch [ else-loop-left-test w ↦ inl cc | then-loop-left-test+in_default w ↦ inr (nothing_left _ w.in_default.is) ] in
    let nothing = group_ends _ _ ends in
    sym (append-nil c.loop-left.kept.items) ∙ sym (ap (λ ls. c.loop-left.kept.items ++ flat_map (joint true) ls) nothing.0) ∙ c.loop-left.invariant.kept

pub returns-clause-joined : goal.returns-clause-joined
returns-clause-joined c =
    let ends : (goes_on (physical c.loop-left.last) ≡ false) ⊎ (lines_left (option_copied c.loop-left.left) ≡ []) =
    elim c.loop-left-test.branch [ else-loop-left-test w ↦ inl cc | then-loop-left-test+in_default w ↦ inr (nothing_left _ w.in_default.is) ] in
    let nothing = group_ends _ _ ends in
    sym (ap (λ ls. joined_behind c.loop-left.joined.items ls) nothing.0) ∙ c.loop-left.invariant.joined

pub returns-clause-number : goal.returns-clause-number
returns-clause-number c =
    let ends : (goes_on (physical c.loop-left.last) ≡ false) ⊎ (lines_left (option_copied c.loop-left.left) ≡ []) =
    elim c.loop-left-test.branch [ else-loop-left-test w ↦ inl cc | then-loop-left-test+in_default w ↦ inr (nothing_left _ w.in_default.is) ] in
    let nothing = group_ends _ _ ends in
    let last = number_after-none c.loop-left.number (omega arith) in
    sym (ap (λ ls. number_after c.loop-left.number (length ls)) nothing.0 ∙ last) ∙ c.loop-left.invariant.number

pub returns-clause-left : goal.returns-clause-left
returns-clause-left c =
    let ends : (goes_on (physical c.loop-left.last) ≡ false) ⊎ (lines_left (option_copied c.loop-left.left) ≡ []) =
    elim c.loop-left-test.branch [ else-loop-left-test w ↦ inl cc | then-loop-left-test+in_default w ↦ inr (nothing_left _ w.in_default.is) ] in
    let nothing = group_ends _ _ ends in
    sym nothing.1 ∙ c.loop-left.invariant.after
