use Rattle.std.proofs.Common.{◌≡◌, true, false, sym, ap, ◌∙◌}
use Rattle.std.specs.List.{list_any}
use Rattle.mk_makefile.specs.Tests.{is_taking, takes}
use Rattle.mk_makefile.proofs.InForceLemmas.{so_far_start, so_far_taking, so_far_taken, so_far_counts}
use Rattle.mk_makefile.proofs.counting.left_over.Goals as goal

pub loop-line-init : goal.loop-line-init
loop-line-init c = rw (c.new-taking.ensures.items, c.new-left.ensures.items) (so_far_start c.args.suffixes.now c.args.lines.items)

pub loop-line-preserved-in-Continue-1 : goal.loop-line-preserved-in-Continue-1
loop-line-preserved-in-Continue-1 c =
    let l = c.in-Some.line in
    let takes_some : is_taking l ≡ true = cc in
    rw c.in_ok-push.ensures.items (so_far_taking _ _ _ _ _ _ l c.in-Some.ensures.items c.loop-line.invariant takes_some)

pub loop-line-preserved-in-Continue-branch-2 : goal.loop-line-preserved-in-Continue-branch-2
loop-line-preserved-in-Continue-branch-2 c =
    let l = c.in-Some.line in
    let taking = c.loop-line.taking.items in
    let suffixes = c.args.suffixes.now in
    let apart : is_taking l ≡ false = cc in
    let found : c.is_taken.result ≡ list_any (takes suffixes l) taking = c.is_taken.ensures ∙ ap (list_any (takes suffixes l)) c.deref.ensures.value in
    let none : list_any (takes suffixes l) taking ≡ false = sym found ∙ cc in
    rw c.in_ok-push-2.ensures.items (so_far_counts _ _ _ _ _ _ l c.in-Some.ensures.items c.loop-line.invariant apart none)

pub loop-line-preserved : goal.loop-line-preserved
loop-line-preserved c =
    let l = c.in-Some.line in
    let taking = c.loop-line.taking.items in
    let suffixes = c.args.suffixes.now in
    let apart : is_taking l ≡ false = cc in
    let found : c.is_taken.result ≡ list_any (takes suffixes l) taking = c.is_taken.ensures ∙ ap (list_any (takes suffixes l)) c.deref.ensures.value in
    let some : list_any (takes suffixes l) taking ≡ true = sym found ∙ cc in
    so_far_taken _ _ _ _ _ _ l c.in-Some.ensures.items c.loop-line.invariant apart some
