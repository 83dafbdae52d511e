use Rattle.std.proofs.Common.{◌∙◌, ◌<◌, ◌++◌, [], ◌∷◌, List, ℕ, length, slice_index, ap, sym, subst, arith}
use Rattle.std.proofs.Common.{map as list_map}
use Rattle.std.specs.List.{All}
use Rattle.std.proofs.lemmas.List.{map-append, take_more, take_all}
use Rattle.st_records.specs.declared.record.Entry.{Entry}
use Rattle.st_state.specs.declared.name_order.Ranked.{Ranked}
use Rattle.st_state.specs.Listed.{entry_at, nothing_known}
use Rattle.st_state.specs.Ranks.{HasRank, rank}
use Rattle.st_state.proofs.RankLemmas.{All-push}
use Rattle.st_state.proofs.name_order.with_ranks.Goals as goal

pub loop-place-preserved : goal.loop-place-preserved
loop-place-preserved c =
    let es = c.args.entries.now.entries in
    let beginning = c.usual_beginning-beginning.result.now in
    let see : Ranked → List ℕ × Entry = λ r. entry_at es r.place in
    let known = c.loop-place.invariant in
    let place = c.loop-place.place in
    let short : place < length es = omega (arith, c.loop-place-test.true, c.len-place-end.ensures.len) in
    let here : HasRank beginning (entry_at es place).0 c.rank_of-rank.result = record {
      is = c.rank_of-rank.ensures ∙ ap (rank beginning) c.name_at.ensures.same;
      bytes = λ i. subst (λ (n : List ℕ). slice_index n i < 256) c.name_at.ensures.same (c.name_at.ensures.bytes i);
    } in
    record {
      all = ap (list_map see) c.in_ok-push.ensures.items
          ∙ map-append see c.loop-place.ranked.items _
          ∙ ap (λ xs. xs ++ entry_at es place ∷ []) known.all
          ∙ sym (take_more es place nothing_known short);
      within = subst (All (λ r. r.place < length es)) (sym c.in_ok-push.ensures.items) (All-push (λ r. r.place < length es) _ _ known.within short);
      ranks = subst (All (λ r. HasRank beginning (see r).0 r.rank)) (sym c.in_ok-push.ensures.items) (All-push (λ r. HasRank beginning (see r).0 r.rank) _ _ known.ranks here);
    }

pub returns-clause-all : goal.returns-clause-all
returns-clause-all c =
    let es = c.args.entries.now.entries in
    c.loop-place.invariant.all ∙ take_all c.loop-place.place es (omega (arith, c.loop-place-test.false, c.len-place-end.ensures.len))

pub returns-clause-within : goal.returns-clause-within
returns-clause-within c = c.loop-place.invariant.within

pub returns-clause-ranks : goal.returns-clause-ranks
returns-clause-ranks c = (c.usual_beginning-beginning.result.now, c.loop-place.invariant.ranks)
