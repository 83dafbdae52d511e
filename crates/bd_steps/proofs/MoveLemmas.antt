-- No move of a board but a submission puts a node under those whose record is under way.
use Rattle.std.proofs.Common.{◌≡◌, ◌⊎◌, ℕ, ◌+◌, Bool, true, false, List, [], ◌∷◌, filter, length, refl, sym, ap, ◌∙◌, inl, inr, ⊎_elim}
use Rattle.std.proofs.lemmas.Bool.{cases_eq}
use Rattle.mk_graph.specs.Edges.{has}
use Rattle.bd_links.specs.declared.stand.Stand.{Stand}
use Rattle.bd_links.specs.declared.stand.Stand.TheVariants.{Ready, Unflushed, Flushing, Settled}
use Rattle.bd_links.specs.SixLists.{SixLists, list_in, moved, same_stand}
use Rattle.bd_places.specs.declared.end.End.{End}
use Rattle.bd_places.specs.Settling.{Prerequisites, Standing, ended, gone_on, all_gone_on, is_doomed, can_go_on, users_of, looked_at, LooksOn, Settles}
use Rattle.bd_places.proofs.StandingLemmas.{has-moved_other, has-moved_same}

false_true : false ≡ true → ⊥
false_true e = cc

-- the node is in Unflushed or in Flushing
abbrev pub IsUnderWayIn : SixLists → ℕ → Type 0
IsUnderWayIn l n = (has l.unflushed n ≡ true) ⊎ (has l.flushing n ≡ true)

-- a move to another list
was_there : (m n : ℕ) (to : Stand) (l : SixLists) (s : Stand) → same_stand to s ≡ false → has (list_in (moved n to l) s) m ≡ true → has (list_in l s) m ≡ true
was_there m n to l s other there = ⊎_elim
    (λ same. absurd (false_true (sym other ∙ sym (has-moved_same n to l s) ∙ ap (has (list_in (moved n to l) s)) (sym same) ∙ there)))
    (λ apart. sym (has-moved_other m n to l s apart) ∙ there)
    (cases_eq m n)

pub moved_under_way : (m n : ℕ) (to : Stand) (l : SixLists) → same_stand to Unflushed ≡ false → same_stand to Flushing ≡ false → IsUnderWayIn (moved n to l) m → IsUnderWayIn l m
moved_under_way m n to l not_first not_second (inl there) = inl (was_there m n to l Unflushed not_first there)
moved_under_way m n to l not_first not_second (inr there) = inr (was_there m n to l Flushing not_second there)

-- the node itself is there no more
pub moved_is_not : (n : ℕ) (to : Stand) (l : SixLists) → same_stand to Unflushed ≡ false → same_stand to Flushing ≡ false → IsUnderWayIn (moved n to l) n → ⊥
moved_is_not n to l not_first not_second (inl there) = false_true (sym not_first ∙ sym (has-moved_same n to l Unflushed) ∙ there)
moved_is_not n to l not_first not_second (inr there) = false_true (sym not_second ∙ sym (has-moved_same n to l Flushing) ∙ there)

gone_under_way : (b : Bool) (x : ℕ) (s : Standing) (m : ℕ) → IsUnderWayIn (gone_on b x s).lists m → IsUnderWayIn s.lists m
gone_under_way true x s m there = moved_under_way m x Settled s.lists refl refl there
gone_under_way false x s m there = moved_under_way m x Ready s.lists refl refl there

all_under_way : (d : ℕ → Bool) (xs : List ℕ) (s : Standing) (m : ℕ) → IsUnderWayIn (all_gone_on d xs s).lists m → IsUnderWayIn s.lists m
all_under_way d [] s m there = there
all_under_way d (x ∷ xs) s m there = gone_under_way (d x) x s m (all_under_way d xs (gone_on (d x) x s) m there)

looks_under_way : (g : Prerequisites) (k : ℕ) (s t : Standing) (m : ℕ) → LooksOn g k s t → IsUnderWayIn t.lists m → IsUnderWayIn s.lists m
looks_under_way g k s t m (LooksOn.all_looked e) there = there
looks_under_way g k s t m (LooksOn.looks n at on) there =
    all_under_way (is_doomed g s) (filter (can_go_on g s) (users_of g n)) s m (looks_under_way g (k + 1) (looked_at g n s) t m on there)

pub settles_under_way : (g : Prerequisites) (n : ℕ) (end : End) (s t : Standing) (m : ℕ) → Settles g n end s t → IsUnderWayIn t.lists m → IsUnderWayIn s.lists m
settles_under_way g n end s t m on there = moved_under_way m n Settled s.lists refl refl (looks_under_way g (length s.lists.settled) (ended n end s) t m on there)
