-- What a verdict says of a node that is passed.
use Rattle.std.proofs.Common.{◌≡◌, ◌∙◌, ℕ, Bool, true, false, List, [], ◌∷◌, Option, Some, None, Result, Ok, Err, IfOk, option_map, ap, sym, subst}
use Rattle.mk_names.specs.Names.{name_at}
use Rattle.mk_recipe.specs.declared.line.Line.{Line}
use Rattle.mk_verdict.specs.Verdict.{IsVerdict, IsFirstReason, IsOutOfDate}
use Rattle.mk_verdict.specs.declared.verdict.Target.{Target}
use Rattle.mk_verdict.specs.declared.verdict.Reason.{Reason}
use Rattle.mk_verdict.specs.declared.verdict.Verdict.{Verdict}
use Rattle.mk_verdict.specs.declared.verdict.Verdict.TheVariants.{UpToDate, OutOfDate}
use Rattle.mk_rule_lines.specs.declared.rule_line.RuleLine.{RuleLine}
use Rattle.mk_nodes.specs.declared.graph.Graph.{Graph}
use Rattle.st_records.specs.declared.record.Entry.{Entry}
use Rattle.mk_seen.specs.Nodes.{entry_of}
use Rattle.mk_plan.specs.Parts.{language_of, parts_of, recipe_line, recipe_of}
use Rattle.mk_plan.specs.Passage.{to_make, finished}
use Rattle.mk_plan.specs.Tests.{ends_remade}
use Rattle.mk_plan.specs.Recipe.{AreLinesOf}
use Rattle.mk_plan.specs.Target.{IsTargetOf}
use Rattle.mk_plan.specs.Passing.{Passes, is_to_be_run, is_up_to_date, has_no_recipe, is_left}
use Rattle.mk_plan.specs.Why.{IsJudgedSo}
use Rattle.mk_plan.specs.declared.why.Why.{Why}
use Rattle.mk_plan.proofs.NodeLemmas.{ends_remade-decides}

-- what a verdict says by the entry of a node
module _ (keeping : Bool) (graph : Graph) (n : ℕ) (target : Target) (entry : Option Entry) (same : entry ≡ entry_of graph n)
    (verdict : Verdict) (holds : IsVerdict keeping entry target verdict) where
  of_node : IsVerdict keeping (entry_of graph n) target verdict
  of_node = subst (λ e. IsVerdict keeping e target verdict) same holds

  pub judged_up_to_date : verdict ≡ UpToDate → IsOutOfDate keeping (entry_of graph n) target → ⊥
  judged_up_to_date is = subst (IsVerdict keeping (entry_of graph n) target) is of_node

  pub judged_out_of_date : (reason : Reason) → verdict ≡ OutOfDate reason → IsFirstReason keeping (entry_of graph n) target reason
  judged_out_of_date reason is = subst (IsVerdict keeping (entry_of graph n) target) is of_node

-- a node is judged as its target
pub judged_as : {E : Type 0} (keeping : Bool) (graph : Graph) (marks : List Bool) (n : ℕ) (lines : List Line) (target : Target) (got : Result (Option Why) E) →
    IfOk got (IsJudgedSo keeping graph n target) → IsTargetOf graph marks n lines target →
    IfOk got (λ why. (t : Target) × (IsTargetOf graph marks n lines t × IsJudgedSo keeping graph n t why))
judged_as keeping graph marks n lines target (Ok why) judged is = (target, (is, judged))
judged_as keeping graph marks n lines target (Err e) judged is = tt

-- a node that is judged up to date is passed without being listed. It is judged by a reading of its lines
pub passed_over : (keeping : Bool) (graph : Graph) (marks : List Bool) (n : ℕ) (recipe : List RuleLine) (lines read : List Line) (judged : Option Why) →
    judged ≡ None → recipe_of graph n ≡ Some recipe → AreLinesOf graph marks n recipe lines → read ≡ lines →
    ((target : Target) × (IsTargetOf graph marks n read target × IsJudgedSo keeping graph n target judged)) →
    Passes keeping graph marks n false (finished (name_at graph.names n) ∷ [])
passed_over keeping graph marks n recipe lines read judged none has are same (target, (is, holds)) =
    is_up_to_date recipe lines target has are (subst (λ ls. IsTargetOf graph marks n ls target) same is)
    (subst (IsJudgedSo keeping graph n target) none holds)

-- one that is judged out of date is listed, with the reason
pub passed_listed : (keeping : Bool) (graph : Graph) (marks : List Bool) (n : ℕ) (recipe : List RuleLine) (lines read : List Line) (judged : Option Why) (why : Why) →
    judged ≡ Some why → recipe_of graph n ≡ Some recipe → AreLinesOf graph marks n recipe lines → read ≡ lines →
    ((target : Target) × (IsTargetOf graph marks n read target × IsJudgedSo keeping graph n target judged)) →
    Passes keeping graph marks n true (to_make (name_at graph.names n) why lines ∷ [])
passed_listed keeping graph marks n recipe lines read judged why some has are same (target, (is, holds)) =
    is_to_be_run recipe lines target why has are (subst (λ ls. IsTargetOf graph marks n ls target) same is)
    (subst (IsJudgedSo keeping graph n target) some holds)

-- one without a recipe counts as remade just where it was remade
pub passed_bare : (keeping : Bool) (graph : Graph) (marks : List Bool) (n : ℕ) (remade : Bool) →
    recipe_of graph n ≡ None → remade ≡ ends_remade graph marks n → Passes keeping graph marks n remade []
passed_bare keeping graph marks n true has is = has_no_recipe has ((ends_remade-decides graph marks n).0 (sym is))
passed_bare keeping graph marks n false has is = is_left has (λ ends. let e : false ≡ true = is ∙ (ends_remade-decides graph marks n).1 ends in cc)

-- a node whose recipe no line has has none, and one whose recipe this line has or begins has these parts
pub no_recipe : (graph : Graph) (n : ℕ) → recipe_line graph n ≡ None → recipe_of graph n ≡ None
no_recipe graph n none = ap (option_map (parts_of (language_of graph) graph.lines.items (name_at graph.names n))) none

pub recipe_by : (graph : Graph) (n : ℕ) (l : RuleLine) (parts : List RuleLine) → recipe_line graph n ≡ Some l →
    parts ≡ parts_of (language_of graph) graph.lines.items (name_at graph.names n) l → recipe_of graph n ≡ Some parts
recipe_by graph n l parts first are =
    ap (option_map (parts_of (language_of graph) graph.lines.items (name_at graph.names n))) first ∙ ap Some (sym are)
