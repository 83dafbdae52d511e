-- What is looked up of a name, put together.
use Rattle.std.proofs.Common.{◌≡◌, ℕ, List, ◌++◌, length, filter, map, drop, inl, inr, Option, sym, ap, ◌∙◌}
use Rattle.std.specs.Prelude.{Result, Ok, Err, IfOk, OnOk, option_map, unwrap_or}
use Rattle.mk_names.specs.Names.{all_added}
use Rattle.mk_names.proofs.NameLemmas.{all_added-append}
use Rattle.st_records.specs.declared.record.Entry.{Entry}
use Rattle.mk_rule_lines.specs.Explicit.{explicit_of}
use Rattle.mk_rule_lines.specs.declared.rule_line.RuleLine.{RuleLine}
use Rattle.mk_nodes.specs.Hidden.{IsNamesFault}
use Rattle.mk_sources.specs.Seen.{made_in, order_only_in, rare_in, IsGiven, IsSeen}
use Rattle.mk_rules.specs.Completed.{IsNumberedAs}
use Rattle.mk_sources.specs.declared.known.Seen.{Seen}
use Rattle.mk_nodes.specs.declared.group.Group.{Group}
use Rattle.std.specs.Global.{Box}
use Rattle.mk_edges.specs.Known.{IsKnown}
use Rattle.mk_sources.specs.Asked.{IsLookUpFault}
use Rattle.mk_nodes.specs.Prerequisites.{Inputs, distinct, implicit_source, hard_of, hidden_in, hidden_of, is_node, prerequisites_of, judged_of, order_only_of}
use Rattle.mk_rule_lines.specs.declared.fault.RuleFault.{RuleFault}
use Rattle.mk_rule_lines.specs.declared.fault.RuleFault.TheVariants as fault
use Rattle.mk_makefile.specs.declared.form.Form.{Form}
use Rattle.mk_nodes.specs.declared.graph.Node.{Node}
use Rattle.mk_nodes.specs.declared.rare.Rare.{Rare}
use Rattle.mk_makefile.specs.declared.table.TargetTable.{TargetTable}
use Rattle.mk_nodes.specs.declared.file_look.FileLook.{FileLook}

-- what follows of a call that gave an answer
pub on_ok_if : {T E : Type 0} (r : Result T E) (P : T → Type 0) (Q : Type 0) → ((v : T) → P v → Q) → IfOk r P → OnOk r Q
on_ok_if (Ok v) P Q f h = f v h
on_ok_if (Err e) P Q f h = h

-- what was found of a name, once its prerequisites have numbers
module _ (inputs : Inputs) (name : List ℕ) (seen : Seen) (is : IsSeen inputs name seen) (row : List (List ℕ)) (known : Node)
    (numbered : IsNumberedAs (is_node inputs) seen (made_in seen.ruled.given ++ explicit_of inputs.lines name) (hidden_of inputs name) row known) where
  given : IsGiven inputs name (implicit_source inputs name) (made_in seen.ruled.given) (order_only_in seen.ruled.given) (rare_in seen.ruled.given)
  given = is.ruled.given

  distinct_hard : distinct (made_in seen.ruled.given ++ explicit_of inputs.lines name) ≡ hard_of inputs name
  distinct_hard = ap (λ m. distinct (m ++ explicit_of inputs.lines name)) given.made_are

  -- they are all prerequisites
  pub all_are : row ≡ prerequisites_of inputs name
  all_are =
      numbered.row_is ∙ ap (λ (h : List (List ℕ)). all_added (all_added h (filter (is_node inputs) (hidden_of inputs name))) (order_only_in seen.ruled.given)) distinct_hard
      ∙ ap (all_added (all_added (hard_of inputs name) (filter (is_node inputs) (hidden_of inputs name)))) given.order_only_are
      ∙ sym (all_added-append (hard_of inputs name) (filter (is_node inputs) (hidden_of inputs name)) (order_only_of inputs name))

  count_is : known.hard ≡ length (hard_of inputs name)
  count_is = numbered.count ∙ ap length distinct_hard

  pub known_is : IsKnown inputs name known
  known_is = record {
    stamp = numbered.as_seen.stamp ∙ is.stamp;
    stem = ap (λ (r : Rare). r.stem) numbered.as_seen.rare ∙ given.stem;
    implied = ap (λ (r : Rare). r.implied) numbered.as_seen.rare ∙ given.implied;
    recipe = numbered.as_seen.recipe ∙ is.ruled.recipe;
    group = ap (λ (r : Rare). option_map (λ (g : Box Group). g.value) r.group) numbered.as_seen.rare ∙ given.group;
    hard = count_is;
    required = ap (λ (r : Rare). unwrap_or (option_map (λ l. l.value) r.required) (hard_of inputs name)) numbered.as_seen.rare ∙ given.required;
    hidden =
        numbered.among ∙ ap (λ (h : List (List ℕ)). map (is_node inputs) (drop (length h) (all_added h (hidden_of inputs name)))) distinct_hard
        ∙ ap (λ (n : ℕ). map (is_node inputs) (drop n (judged_of inputs name))) (sym count_is);
  }

-- a look at a hidden prerequisite that fails is one of looking up the name
module _ (targets : TargetTable) (allowed : (List ℕ → Option FileLook) → Type 0) (refuses : List ℕ → Type 0) (forms : List Form) (steps : ℕ) (lines : List RuleLine) (name : List ℕ)
    (entries : (name : List ℕ) → Option Entry) where
  pub hidden_look : (f : RuleFault) → IsNamesFault refuses (hidden_in (entries name)) f → IsLookUpFault targets allowed refuses forms steps lines entries name f
  hidden_look fault.OutOfMemory meets = tt
  hidden_look (fault.Tree n) meets = (inr (inl meets.0), meets.1)
  hidden_look _ meets = meets
