use Rattle.std.proofs.Common.{◌≡◌, ◌++◌, ◌∷◌, [], ℕ, List, map, sym, ap, subst, ◌∙◌, Vec, Global}
use Rattle.std.specs.Prelude.{is_some}
use Rattle.std.proofs.lemmas.List.{map-append}
use Rattle.std.proofs.lemmas.List.Folds.{list_all-map}
use Rattle.std.specs.List.{list_all}
use Rattle.mk_names.specs.Names.{name_at}
use Rattle.mk_edges.proofs.WaitLemmas.{GroupsGo, groups_start, groups_end, groups_more, groups_past, groups_done, groups_done_nodes, are_below}
use Rattle.mk_edges.proofs.waits.number_groups.Goals as goal

abbrev items_of : (groups : List (Vec ℕ Global)) → List (List ℕ)
items_of groups = map (λ g. g.items) groups

pub loop-word-init : goal.loop-word-init
loop-word-init c =
    let names = c.args.names.now in
    let words = c.args.words.now in
    let start : words ≡ c.into_iter-word-iterator.result = cc in
    subst (λ ls. GroupsGo names ls words (items_of c.new-groups.result.items) c.new-group.result.items) start
    (subst (λ gs. GroupsGo names words words (items_of gs) c.new-group.result.items) (sym c.new-groups.ensures.items)
    (subst (λ g. GroupsGo names words words [] g) (sym c.new-group.ensures.items) (groups_start names words)))

pub loop-word-preserved-then-is_wait : goal.loop-word-preserved-then-is_wait
loop-word-preserved-then-is_wait c =
    let names = c.args.names.now in
    let words = c.args.words.now in
    let groups = c.loop-word.groups.items in
    let begun = c.loop-word.group in
    let left = c.next.new.self in
    let go = subst (λ ls. GroupsGo names ls words (items_of groups) begun.items) c.in-Some.ensures.steps c.loop-word.invariant in
    let whole : items_of c.push.new.self.items ≡ items_of groups ++ begun.items ∷ [] = ap items_of c.in_ok-push.ensures.items ∙ map-append (λ g. g.items) groups (begun ∷ []) in
    subst (λ gs. GroupsGo names left words gs c.new-group-then-is_wait.result.items) (sym whole)
    (subst (λ g. GroupsGo names left words (items_of groups ++ begun.items ∷ []) g) (sym c.new-group-then-is_wait.ensures.items)
    (groups_end names words c.in-Some.word.now left (items_of groups) begun.items go (sym c.is_wait.ensures ∙ c.if-is_wait.true)))

pub loop-word-preserved : goal.loop-word-preserved
loop-word-preserved c =
    let names = c.args.names.now in
    let words = c.args.words.now in
    let groups = c.loop-word.groups.items in
    let begun = c.loop-word.group in
    let left = c.next.new.self in
    let word = c.in-Some.word.now in
    let go = subst (λ ls. GroupsGo names ls words (items_of groups) begun.items) c.in-Some.ensures.steps c.loop-word.invariant in
    groups_past names words word left (items_of groups) begun.items go (sym c.is_wait.ensures ∙ c.if-is_wait.false) (sym c.number_of.ensures.none ∙ ap is_some c.in_default.is)

pub loop-word-preserved-in-Continue-branch-2 : goal.loop-word-preserved-in-Continue-branch-2
loop-word-preserved-in-Continue-branch-2 c =
    let names = c.args.names.now in
    let words = c.args.words.now in
    let groups = c.loop-word.groups.items in
    let begun = c.loop-word.group in
    let left = c.next.new.self in
    let word = c.in-Some.word.now in
    let n = c.in-Some-number_of.number in
    let go = subst (λ ls. GroupsGo names ls words (items_of groups) begun.items) c.in-Some.ensures.steps c.loop-word.invariant in
    let found = c.in-Some-number_of.ensures.number in
    subst (λ g. GroupsGo names left words (items_of groups) g) (sym c.in_ok-push-2.ensures.items)
    (groups_more names words word left (items_of groups) begun.items go (sym c.is_wait.ensures ∙ c.if-is_wait.false) n found.0 found.1 (sym c.in-Some-number_of.ensures.none))

pub returns-clause-groups : goal.returns-clause-groups
returns-clause-groups c =
    let names = c.args.names.now in
    let words = c.args.words.now in
    let groups = c.loop-word.groups.items in
    let begun = c.loop-word.group in
    let go = subst (λ ls. GroupsGo names ls words (items_of groups) begun.items) c.in-None.ensures.steps.0 c.loop-word.invariant in
    ap (λ gs. map (map (name_at names)) (items_of gs)) c.in_ok-push-3.ensures.items
    ∙ ap (map (map (name_at names))) (map-append (λ g. g.items) groups (begun ∷ []))
    ∙ groups_done names words (items_of groups) begun.items go

pub returns-clause-nodes : goal.returns-clause-nodes
returns-clause-nodes c =
    let names = c.args.names.now in
    let words = c.args.words.now in
    let groups = c.loop-word.groups.items in
    let begun = c.loop-word.group in
    let go = c.loop-word.invariant in
    sym (list_all-map (are_below names) (λ g. g.items) c.push-2.new.self.items)
    ∙ ap (λ gs. list_all (are_below names) (items_of gs)) c.in_ok-push-3.ensures.items
    ∙ ap (list_all (are_below names)) (map-append (λ g. g.items) groups (begun ∷ []))
    ∙ groups_done_nodes names words c.loop-word.word-iterator (items_of groups) begun.items go
