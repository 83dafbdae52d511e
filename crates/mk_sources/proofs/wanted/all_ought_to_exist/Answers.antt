use Rattle.std.proofs.Common.{◌≡◌, ◌++◌, ◌∷◌, ◌&&◌, ◌||◌, map, List, ℕ, [], Bool, false, refl, sym, ap, ◌∙◌}
use Rattle.std.specs.List.{list_all}
use Rattle.std.proofs.lemmas.List.{append_assoc, append-nil, map-append}
use Rattle.mk_makefile.specs.Source.{with_stem}
use Rattle.mk_nodes.specs.Prerequisites.{is_target}
use Rattle.mk_nodes.specs.Wanted.{is_wanted}
use Rattle.mk_sources.proofs.SourceLemmas.{all_more, all_left}
use Rattle.mk_sources.proofs.wanted.all_ought_to_exist.Goals as goal

pub loop-pattern-init : goal.loop-pattern-init
loop-pattern-init c = let start : c.args.form.now.prerequisites ≡ c.into_iter-pattern-iterator.result = cc in ([], start, refl)

pub loop-pattern-preserved : goal.loop-pattern-preserved
loop-pattern-preserved c =
    let lines = c.args.rules.now.lines.now in
    let ought : List ℕ → Bool = λ n. is_target lines n || is_wanted lines n in
    let pattern = c.in-Some.pattern.now in
    let left = c.next.new.self in
    let with = with_stem c.args.folder.now c.args.stem.now in
    let (before, parted, all) = c.loop-pattern.invariant in
    let name_is : c.deref.result.now ≡ with pattern = c.deref.ensures.value ∙ c.in_ok-set_name.ensures in (
      before ++ pattern ∷ [],
      parted ∙ ap (λ (ls : List (List ℕ)). before ++ ls) c.in-Some.ensures.steps ∙ sym (append_assoc before (pattern ∷ []) left),
      ap (list_all ought) (map-append with before (pattern ∷ []))
          ∙ all_more ought (map with before) (with pattern) all (ap ought (sym name_is) ∙ sym c.ought_to_exist.ensures ∙ c.if-not-ought_to_exist.false),
    )

-- one that neither is a target nor ought to exist, behind some that do
pub returns-then-not-ought_to_exist : goal.returns-then-not-ought_to_exist
returns-then-not-ought_to_exist c =
    let lines = c.args.rules.now.lines.now in
    let ought : List ℕ → Bool = λ n. is_target lines n || is_wanted lines n in
    let pattern = c.in-Some.pattern.now in
    let left = c.next.new.self in
    let with = with_stem c.args.folder.now c.args.stem.now in
    let (before, parted, all) = c.loop-pattern.invariant in
    let name_is : c.deref.result.now ≡ with pattern = c.deref.ensures.value ∙ c.in_ok-set_name.ensures in
    let no : ought (with pattern) ≡ false = ap ought (sym name_is) ∙ sym c.ought_to_exist.ensures ∙ c.if-not-ought_to_exist.true in
    sym (ap (λ (ps : List (List ℕ)). list_all ought (map with ps)) (parted ∙ ap (λ (ls : List (List ℕ)). before ++ ls) c.in-Some.ensures.steps)
    ∙ ap (list_all ought) (map-append with before (pattern ∷ left))
    ∙ all_left ought (map with before) (with pattern ∷ map with left) all ∙ ap (λ (b : Bool). b && list_all ought (map with left)) no)

pub returns : goal.returns
returns c =
    let lines = c.args.rules.now.lines.now in
    let ought : List ℕ → Bool = λ n. is_target lines n || is_wanted lines n in
    let with = with_stem c.args.folder.now c.args.stem.now in
    let (before, parted, all) = c.loop-pattern.invariant in
    let ended : c.loop-pattern.pattern-iterator ≡ [] = (c.in-None.ensures.steps).0 in
    sym (ap (λ (ps : List (List ℕ)). list_all ought (map with ps)) (parted ∙ ap (λ (ls : List (List ℕ)). before ++ ls) ended ∙ append-nil before) ∙ all)
