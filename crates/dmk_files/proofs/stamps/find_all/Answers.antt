use Rattle.std.proofs.Common.{◌≡◌, ◌<◌, ℕ, List, [], ◌∷◌, length, take, drop, sym, ap, subst, ◌∙◌, arith}
use Rattle.std.proofs.lemmas.List.{take-append-drop, take_all, take_more}
use Rattle.std.specs.List.{IsDistinct}
use Rattle.std.specs.Str.{bytes_eq}
use Rattle.mk_names.specs.Names.{all_added, name_at}
use Rattle.mk_names.proofs.NameLemmas.{all_added-append, distinct_all_added}
use Rattle.dmk_files.proofs.ListedLemmas.{of_error, rest_alike}
use Rattle.dmk_files.proofs.stamps.find_all.Goals as goal

pub loop-number-preserved : goal.loop-number-preserved
loop-number-preserved c =
    let inv = c.loop-number.invariant in
    let listed : List (List ℕ) = c.args.listed.now in
    let first : List (List ℕ) = c.args.found.now in
    let number = c.loop-number.number in
    let within : number < length listed = omega (arith, c.loop-number-test.true, c.len-number-end.ensures) in
    let found = c.in_ok-numbered.ensures.ok.0 in
    record {
      passed =
          found ∙ ap (λ (n : List ℕ). all_added c.loop-number.found (n ∷ [])) c.name.ensures
          ∙ ap (λ (l : List (List ℕ)). all_added l (name_at listed number ∷ [])) inv.passed
          ∙ sym (all_added-append first (take number listed) (name_at listed number ∷ []))
          ∙ ap (all_added first) (sym (take_more listed number [] within));
      once = λ once. subst (λ (l : List (List ℕ)). IsDistinct bytes_eq l) (sym found) (distinct_all_added c.loop-number.found (c.name.result.now ∷ []) (inv.once once));
    }

pub returns-clause-ok : goal.returns-clause-ok
returns-clause-ok c =
    let listed : List (List ℕ) = c.args.listed.now in
    c.loop-number.invariant.passed ∙ ap (all_added c.args.found.now) (take_all c.loop-number.number listed (omega (arith, c.loop-number-test.false, c.len-number-end.ensures)))

pub returns-in_err-numbered-clause-err : goal.returns-in_err-numbered-clause-err
returns-in_err-numbered-clause-err c =
    let listed : List (List ℕ) = c.args.listed.now in
    let first : List (List ℕ) = c.args.found.now in
    let front : List (List ℕ) = take c.loop-number.number listed in
    let rest : List (List ℕ) = drop c.loop-number.number listed in
    let whole = take-append-drop c.loop-number.number listed in
    let same : all_added c.numbered.new.self listed ≡ all_added first listed =
    ap (λ (l : List (List ℕ)). all_added l listed) (c.in_err-numbered.ensures.err ∙ c.loop-number.invariant.passed)
    ∙ ap (all_added (all_added first front)) (sym whole) ∙ rest_alike first front rest ∙ ap (all_added first) whole in
    of_error c.from_residual.result _ same
