use Rattle.std.proofs.Common.{rules, ◌≡◌, ◌∷◌, ◌++◌, [], List, length, sym, ap, ◌∙◌, append_assoc, append-nil}
use Rattle.std.specs.Vec.Iter.{into_iter_items, into_iter_len}
use Rattle.mk_profile.specs.Profile.{is_wide}
use Rattle.mk_reader.specs.declared.item.Statement.{Statement}
use Rattle.mk_eval.specs.Judged.{judged, all_judged}
use Rattle.mk_eval.proofs.MakefileLemmas.{nothing_left, one_fewer}
use Rattle.mk_eval.proofs.judged.all_judged.Goals as goal

gather : (taken new rest all : List Statement) (said wanted : Statement) → new ≡ taken ++ said ∷ [] → said ≡ wanted → taken ++ wanted ∷ rest ≡ all → new ++ rest ≡ all
gather taken new rest all said wanted is same whole =
    ap (λ t. t ++ rest) is ∙ append_assoc taken (said ∷ []) rest ∙ ap (λ s. taken ++ s ∷ rest) same ∙ whole

pub loop-statement-init : goal.loop-statement-init
loop-statement-init c =
    let gives = c.into_iter-statement-iterator.ensures.into_iter_gives in
    let all = c.args.statements.items in
    let count : into_iter_len c.into_iter-statement-iterator.result ≡ length all = search rules in
    record {
      left = count ∙ sym (ap length gives.0);
      gathered = ap (λ t. t ++ all_judged (is_wide c.args.profile) c.args.file.now (into_iter_items c.into_iter-statement-iterator.result)) c.in_ok-taken.ensures.items
          ∙ ap (all_judged (is_wide c.args.profile) c.args.file.now) gives.0;
    }

pub loop-statement-preserved : goal.loop-statement-preserved
loop-statement-preserved c =
    let now = c.loop-statement in
    let st = c.in-Some.ensures.steps in
    let more = into_iter_items c.next.new.self in
    let wide = is_wide c.args.profile in
    record {
      left = one_fewer _ _ c.in-Some.statement (into_iter_len now.statement-iterator) (into_iter_len c.next.new.self) st.0 st.1 now.invariant.left;
      gathered = gather now.taken.items _ (all_judged wide c.args.file.now more) _ _ (judged wide c.args.file.now c.in-Some.statement) c.in_ok-push.ensures.items c.in_ok-said.ensures
          (sym (ap (λ s. now.taken.items ++ all_judged wide c.args.file.now s) st.0) ∙ now.invariant.gathered);
    }

pub returns : goal.returns
returns c =
    let now = c.loop-statement in
    let none = nothing_left (into_iter_items now.statement-iterator) (sym now.invariant.left ∙ (c.in-None.ensures.steps).0) in
    sym (append-nil now.taken.items) ∙ sym (ap (λ s. now.taken.items ++ all_judged (is_wide c.args.profile) c.args.file.now s) none) ∙ now.invariant.gathered
