use Rattle.std.proofs.Common.{◌≡◌, ◌∙◌, ◌+◌, [], ◌∷◌, ◌++◌, false, take, add-one, sym, ap}
use Rattle.std.proofs.Math.Seq.{take-suc}
use Rattle.mk_macros.specs.Ranks.{Defined, defined_by, with_text}
use Rattle.bd_lists.specs.declared.recipe.Variable.{Variable}
use Rattle.dmk_reading.proofs.DefinitionLemmas.{one_more}
use Rattle.dmk_reading.proofs.definitions.define_all.Goals as goal

pub loop-variable-preserved : goal.loop-variable-preserved
loop-variable-preserved c = record {
  ranks = λ name.
      let all = c.args.variables.now in
      let i = c.loop-variable.variable-index in
      let v : Variable = c.variable-item.result in
      let language = (defined_by c.loop-variable.macros).language in
      let before = (defined_by c.loop-variable.macros).ranks in
      let more : take (i + 1) all ≡ take i all ++ v ∷ [] =
      ap (λ k. take k all) (add-one i) ∙ take-suc all i v c.loop-variable-test.true ∙ ap (λ (w : Variable). take i all ++ w ∷ []) (sym c.variable-item.is) in
      ap (λ (d : Defined). d.ranks name) c.in_ok-define.ensures.ok
      ∙ ap (λ n. with_text language before c.args.rank n c.as_slice.result.now false name) c.as_slice-name.ensures
      ∙ ap (λ t. with_text language before c.args.rank v.name t false name) c.as_slice.ensures
      ∙ one_more language before (defined_by c.args.macros.now).ranks c.args.rank v (take i all) c.loop-variable.invariant.ranks name (take (i + 1) all) more;
  language = ap (λ (d : Defined). d.language) c.in_ok-define.ensures.ok ∙ c.loop-variable.invariant.language;
}
