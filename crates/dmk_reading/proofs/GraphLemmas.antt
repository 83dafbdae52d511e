-- The graph by which targets are judged.
use Rattle.std.proofs.Common.{◌≡◌, ℕ, Bool, List, length, Option, IfSome, is_some, IsTrue}
use Rattle.std.specs.Prelude.{unwrap_or}
use Rattle.std.proofs.Props.{props}
use Rattle.mk_graph.specs.Edges.{is_closed}
use Rattle.mk_macros.specs.Ranks.{defined_by}
use Rattle.mk_profile.specs.Profile.{is_wide}
use Rattle.mk_rule_lines.specs.Explicit.{numbers_of}
use Rattle.mk_rule_lines.specs.Rules.{suffixes_of}
use Rattle.mk_makefile.specs.Table.{named_at}
use Rattle.mk_rule_lines.specs.declared.rule_line.RuleLine.{RuleLine}
use Rattle.mk_makefile.specs.declared.table.TargetTable.{TargetTable}
use Rattle.mk_nodes.specs.Node.{EachHasOneNumber}
use Rattle.mk_nodes.specs.declared.graph.Graph.{Graph}
use Rattle.st_state.specs.State.{StateMap}

same_count : (a b : ℕ) → IsProp (a ≡ b)
same_count a b = hlevel props

is_true : (b : Bool) → IsProp (IsTrue b)
is_true b = hlevel props

one_number : (names : List (List ℕ)) → IsProp (EachHasOneNumber names)
one_number names = hlevel props

same_suffixes : (a b : List (List ℕ)) → IsProp (a ≡ b)
same_suffixes a b = hlevel props

same_answer : (a b : Bool) → IsProp (a ≡ b)
same_answer a b = hlevel props

same_table : (targets : Option TargetTable) (lines : List RuleLine) → IsProp (IfSome targets (λ t. (name : List ℕ) → (named_at t name).lines ≡ numbers_of lines name))
same_table targets lines = hlevel props

-- whichever proofs go with its fields, a graph with this state in place of its own is one
pub with_state : (g : Graph) (state : StateMap) (named : length g.names ≡ length g.nodes.items) (distinct : EachHasOneNumber g.names)
    (hard_rows : length g.hard ≡ length g.nodes.items) (required_rows : length (unwrap_or g.required g.hard) ≡ length g.nodes.items)
    (required_closed : IsTrue (is_closed (unwrap_or g.required g.hard))) (soft_rows : length g.soft ≡ length g.nodes.items)
    (hard_closed : IsTrue (is_closed g.hard)) (soft_closed : IsTrue (is_closed g.soft))
    (suffixes_are : g.suffixes ≡ suffixes_of g.lines.items)
    (kept : is_some g.targets ≡ is_wide (defined_by g.macros).language)
    (table : IfSome g.targets (λ t. (name : List ℕ) → (named_at t name).lines ≡ numbers_of g.lines.items name)) →
    record g {
      state = state;
      named = named;
      distinct = distinct;
      hard_rows = hard_rows;
      required_rows = required_rows;
      required_closed = required_closed;
      soft_rows = soft_rows;
      hard_closed = hard_closed;
      soft_closed = soft_closed;
      suffixes_are = suffixes_are;
      kept = kept;
      table = table;
    }
    ≡ record g { state = state }
with_state g state named distinct hard_rows required_rows required_closed soft_rows hard_closed soft_closed suffixes_are kept table = λ i. record g {
  state = state;
  named = same_count (length g.names) (length g.nodes.items) named g.named i;
  distinct = one_number g.names distinct g.distinct i;
  hard_rows = same_count (length g.hard) (length g.nodes.items) hard_rows g.hard_rows i;
  required_rows = same_count (length (unwrap_or g.required g.hard)) (length g.nodes.items) required_rows g.required_rows i;
  required_closed = is_true (is_closed (unwrap_or g.required g.hard)) required_closed g.required_closed i;
  soft_rows = same_count (length g.soft) (length g.nodes.items) soft_rows g.soft_rows i;
  hard_closed = is_true (is_closed g.hard) hard_closed g.hard_closed i;
  soft_closed = is_true (is_closed g.soft) soft_closed g.soft_closed i;
  suffixes_are = same_suffixes g.suffixes (suffixes_of g.lines.items) suffixes_are g.suffixes_are i;
  kept = same_answer (is_some g.targets) (is_wide (defined_by g.macros).language) kept g.kept i;
  table = same_table g.targets g.lines.items table g.table i;
}
