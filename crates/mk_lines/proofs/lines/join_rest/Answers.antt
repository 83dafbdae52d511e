use Rattle.std.proofs.Common.{◌≡◌, ◌⊎◌, ◌∷◌, [], ◌++◌, ◌+◌, ◌∙◌, false, true, length, ap, subst, sym, arith, inl, inr, option_copied, add-one, refl}
use Rattle.mk_profile.specs.Profile.{is_wide}
use Rattle.mk_lines.specs.Lines.{goes_on, lines_left, physical, joint, joined_behind, number_after, size_left}
use Rattle.mk_lines.specs.Search.{begun, HasRead}
use Rattle.mk_lines.proofs.SearchLemmas.{read_in}
use Rattle.mk_lines.proofs.LinesLemmas.{group_ends, joined_more, after_more, length_more, number_after-more, number_after-none, nothing_left}
use Rattle.mk_lines.proofs.lines.join_rest.Goals as goal
use Rattle.mk_lines.proofs.lines.join_rest.Goals.{else-loop-search-test, then-loop-search-test+in_default}

pub loop-search-init : goal.loop-search-init
loop-search-init c = record {
  text = refl;
  read = subst (λ xs. HasRead (begun c.args.is_recipe (is_wide c.args.profile)) xs c.past-search.result) c.as_slice.ensures.value
      (subst (λ start. HasRead start c.as_slice.result.now c.past-search.result) c.begin.ensures c.past-search.ensures);
  number = rw c.saturating_add-number.ensures (number_after-more c.args.first_number _);
  after = refl;
  size = omega arith;
  small = omega arith;
}

pub loop-search-preserved : goal.loop-search-preserved
loop-search-preserved c =
    let on : goes_on (physical c.loop-search.last) ≡ true = cc in
    let at : lines_left (option_copied c.loop-search.left) ≡ physical c.next_line.result.0 ∷ lines_left (option_copied c.next_line.result.1) = ap (λ o. lines_left (option_copied o)) c.in-Some.is ∙ c.next_line.ensures.lines in
    let read = c.loop-search.invariant.read in
    let wide = is_wide c.args.profile in
    let pushed = c.in_ok-read.ensures.text ∙ ap (λ t. c.loop-search.text.items ++ joint t (physical c.next_line.result.0)) (read_in c.args.is_recipe wide c.loop-search.text.items c.loop-search.search read) in
    record {
      text = joined_more c.args.is_recipe (is_wide c.args.profile) _ _ _ _ _ _ on at pushed ∙ c.loop-search.invariant.text;
      read = c.in_ok-read.ensures.search (begun c.args.is_recipe wide) read;
      number = rw c.saturating_add-number-in-loop-search.ensures (number_after-more c.loop-search.number _) ∙ ap (number_after c.loop-search.number) (sym (length_more _ _ _ _ on at)) ∙ c.loop-search.invariant.number;
      after = after_more _ _ _ _ on at ∙ c.loop-search.invariant.after;
      size = let whole : size_left (option_copied c.loop-search.left) ≡ length c.in-Some.bytes.now + 1 = ap (λ o. size_left (option_copied o)) c.in-Some.is in omega (arith, c.next_line.ensures.shorter);
      small = omega arith;
    }

pub returns-clause-text : goal.returns-clause-text
returns-clause-text c =
    let ends : (goes_on (physical c.loop-search.last) ≡ false) ⊎ (lines_left (option_copied c.loop-search.left) ≡ []) =
    elim c.loop-search-test.branch [ else-loop-search-test w ↦ inl cc | then-loop-search-test+in_default w ↦ inr (nothing_left _ w.in_default.is) ] in
    let nothing = group_ends _ _ ends in
    sym (ap (λ xs. joined_behind c.args.is_recipe (is_wide c.args.profile) c.loop-search.text.items xs) nothing.0) ∙ c.loop-search.invariant.text

pub returns-clause-number : goal.returns-clause-number
returns-clause-number c =
    let ends : (goes_on (physical c.loop-search.last) ≡ false) ⊎ (lines_left (option_copied c.loop-search.left) ≡ []) =
    elim c.loop-search-test.branch [ else-loop-search-test w ↦ inl cc | then-loop-search-test+in_default w ↦ inr (nothing_left _ w.in_default.is) ] in
    let nothing = group_ends _ _ ends in
    let last = number_after-none c.loop-search.number (omega arith) in
    sym (ap (λ xs. number_after c.loop-search.number (length xs)) nothing.0 ∙ last) ∙ c.loop-search.invariant.number ∙ ap (number_after c.args.first_number) (add-one _)

pub returns-clause-left : goal.returns-clause-left
returns-clause-left c =
    let ends : (goes_on (physical c.loop-search.last) ≡ false) ⊎ (lines_left (option_copied c.loop-search.left) ≡ []) =
    elim c.loop-search-test.branch [ else-loop-search-test w ↦ inl cc | then-loop-search-test+in_default w ↦ inr (nothing_left _ w.in_default.is) ] in
    let nothing = group_ends _ _ ends in
    sym nothing.1 ∙ c.loop-search.invariant.after
