use Rattle.std.proofs.Common.{◌≡◌, ◌∷◌, [], List, ℕ, Bool, None, true, false, not, cond, ◌&&◌, sym, ap, subst, ◌∙◌, refl}
use Rattle.std.specs.Prelude.{is_some}
use Rattle.std.specs.Str.{bytes_eq}
use Rattle.mk_rule_lines.specs.Rules.{comes_out, is_suffix_target, lacks_single, targets_by}
use Rattle.mk_makefile.specs.Table.{named_at, with_target, AddsLine, IsSecond}
use Rattle.mk_rule_lines.proofs.NameLemmas.{bytes_eq-same}
use Rattle.mk_makefile.proofs.TableLemmas.{Goes, goes_on, goes_end, adds_nothing, second, no_second}
use Rattle.mk_rule_lines.proofs.TargetLemmas.{chosen, none_made, all_made, taken, left_out}
use Rattle.mk_makefile.proofs.table.TargetTable.add_line.Goals as goal

pub returns-then-not-may_have_targets-clause-ok : goal.returns-then-not-may_have_targets-clause-ok
returns-then-not-may_have_targets-clause-ok c = λ name.
    let line = c.args.line.now in
    let none = none_made c.args.suffix_rules c.args.suffixes.now line (sym c.may_have_targets.ensures ∙ c.if-not-may_have_targets.true) in
    adds_nothing c.args.number (not (lacks_single line)) (targets_by c.args.suffix_rules c.args.suffixes.now line) name (named_at c.args.self.now name) none

pub loop-target-preserved-then-not-is_chosen : goal.loop-target-preserved-then-not-is_chosen
loop-target-preserved-then-not-is_chosen c = λ name.
    let t = c.in-Some.target.now in
    let line = c.args.line.now in
    let picked = chosen c.args.suffix_rules c.args.suffixes.now line in
    let other : comes_out c.args.suffix_rules (is_suffix_target c.args.suffixes.now line t) ≡ false = sym c.is_chosen.ensures ∙ c.if-not-is_chosen.true in
    let at : picked c.loop-target.target-iterator ≡ picked c.next.new.self =
    ap picked c.in-Some.ensures.steps ∙ left_out c.args.suffix_rules c.args.suffixes.now line t c.next.new.self other in
    subst (λ (left : List (List ℕ)). Goes c.args.number (not (lacks_single line)) left (picked line.targets) name (named_at c.loop-target.self name) (named_at c.args.self.now name)) at
    (c.loop-target.invariant name)

pub loop-target-preserved : goal.loop-target-preserved
loop-target-preserved c = λ name.
    let t = c.in-Some.target.now in
    let line = c.args.line.now in
    let r = not (lacks_single line) in
    let picked = chosen c.args.suffix_rules c.args.suffixes.now line in
    let now = named_at c.loop-target.self name in
    let old = named_at c.args.self.now name in
    let one : comes_out c.args.suffix_rules (is_suffix_target c.args.suffixes.now line t) ≡ true = sym c.is_chosen.ensures ∙ c.if-not-is_chosen.false in
    let at : picked c.loop-target.target-iterator ≡ t ∷ picked c.next.new.self =
    ap picked c.in-Some.ensures.steps ∙ taken c.args.suffix_rules c.args.suffixes.now line t c.next.new.self one in
    let goes = subst (λ (left : List (List ℕ)). Goes c.args.number r left (picked line.targets) name now old) at (c.loop-target.invariant name) in
    let adds = subst (λ (b : Bool). named_at c.add.new.self name ≡ cond (bytes_eq name t) (with_target c.args.number b now) now) c.has_single_recipe-has_recipe.ensures (c.in_ok-is_second.ensures.ok name) in
    let both = subst (λ (b : Bool). c.in_ok-is_second.is_second ≡ (b && is_some (named_at c.loop-target.self t).recipe)) c.has_single_recipe-has_recipe.ensures c.in_ok-is_second.ensures.second in
    goes_on c.args.number r t (picked c.next.new.self) (picked line.targets) name now old (named_at c.add.new.self name) adds
    (λ same has.
    let absent : (named_at c.loop-target.self t).recipe ≡ None = no_second r (named_at c.loop-target.self t).recipe (sym both ∙ c.if-is_second.false) has in
    ap (λ (n : List ℕ). (named_at c.loop-target.self n).recipe) (bytes_eq-same name t same) ∙ absent)
    goes

pub returns-then-is_second-clause-fault : goal.returns-then-is_second-clause-fault
returns-then-is_second-clause-fault c =
    let t = c.in-Some.target.now in
    let line = c.args.line.now in
    let r = not (lacks_single line) in
    let picked = chosen c.args.suffix_rules c.args.suffixes.now line in
    let now = named_at c.loop-target.self t in
    let old = named_at c.args.self.now t in
    let one : comes_out c.args.suffix_rules (is_suffix_target c.args.suffixes.now line t) ≡ true = sym c.is_chosen.ensures ∙ c.if-not-is_chosen.false in
    let at : picked c.loop-target.target-iterator ≡ t ∷ picked c.next.new.self =
    ap picked c.in-Some.ensures.steps ∙ taken c.args.suffix_rules c.args.suffixes.now line t c.next.new.self one in
    let goes = subst (λ (left : List (List ℕ)). Goes c.args.number r left (picked line.targets) t now old) at (c.loop-target.invariant t) in
    let both = subst (λ (b : Bool). c.in_ok-is_second.is_second ≡ (b && is_some now.recipe)) c.has_single_recipe-has_recipe.ensures c.in_ok-is_second.ensures.second in
    let found = second c.args.number r t (picked c.next.new.self) (picked line.targets) now old (sym both ∙ c.if-is_second.true) goes in
    let all = all_made c.args.suffix_rules c.args.suffixes.now line (sym c.may_have_targets.ensures ∙ c.if-not-may_have_targets.false) in
    let here = subst (λ (ts : List (List ℕ)). IsSecond c.args.number r ts t old) (sym all) found in
    (refl, subst (λ (n : List ℕ). IsSecond c.args.number r (targets_by c.args.suffix_rules c.args.suffixes.now line) n (named_at c.args.self.now n)) (sym c.in_ok-name.ensures.ok) here)

pub returns-clause-ok : goal.returns-clause-ok
returns-clause-ok c = λ name.
    let line = c.args.line.now in
    let r = not (lacks_single line) in
    let picked = chosen c.args.suffix_rules c.args.suffixes.now line in
    let now = named_at c.loop-target.self name in
    let old = named_at c.args.self.now name in
    let none : picked c.loop-target.target-iterator ≡ [] = ap picked (c.in-None.ensures.steps).0 in
    let goes = subst (λ (left : List (List ℕ)). Goes c.args.number r left (picked line.targets) name now old) none (c.loop-target.invariant name) in
    let all = all_made c.args.suffix_rules c.args.suffixes.now line (sym c.may_have_targets.ensures ∙ c.if-not-may_have_targets.false) in
    subst (λ (ts : List (List ℕ)). AddsLine c.args.number r ts name old now) (sym all) (goes_end c.args.number r (picked line.targets) name now old goes)
