-- Why a recipe is to be run, by the verdict on its target. Own.
use Rattle.std.specs.Prelude.{◌≡◌, ℕ, Bool, false, not, ◌&&◌, if◌then◌else◌, List, ◌++◌, map, slice_get, Option, Some, None, is_none, codes, encode_utf8_all}
use Rattle.bstr.specs.Utf8.{lossy_chars}
use Rattle.mk_graph.specs.Edges.{row}
use Rattle.mk_names.specs.Names.{all_added, name_at}
use Rattle.mk_verdict.specs.Told.{words_for}
use Rattle.mk_verdict.specs.Verdict.{IsFirstReason, IsOutOfDate}
use Rattle.mk_verdict.specs.declared.verdict.Prerequisite.{Prerequisite}
use Rattle.mk_verdict.specs.declared.verdict.Target.{Target}
use Rattle.mk_verdict.specs.declared.verdict.Reason.{Reason}
use Rattle.mk_verdict.specs.declared.verdict.Reason.TheVariants.{Changed, HiddenGone}
use Rattle.mk_nodes.specs.Prerequisites.{distinct, hidden_in}
use Rattle.mk_nodes.specs.declared.graph.Graph.{Graph}
use Rattle.mk_seen.specs.Nodes.{entry_of}
use Rattle.mk_plan.specs.Change.{change_of}
use Rattle.mk_plan.specs.declared.why.Why.{Why}

-- the names of the prerequisites of node n as they are judged: the hard ones, then the hidden ones, gone or not
abbrev pub judged_names : Graph → (n : ℕ) → List (List ℕ)
judged_names graph n = all_added (distinct (map (name_at graph.names) (row graph.hard n))) (hidden_in (entry_of graph n))

-- the words for a hidden prerequisite that is gone. It is no node: its name stands in the state alone
abbrev pub gone_words : Graph → (n number : ℕ) → List ℕ
gone_words graph n number = codes "gone: " ++ encode_utf8_all (lossy_chars (name_at (judged_names graph n) number))

-- a prerequisite without a file or a rule, which is no node
abbrev pub is_none_left : Option Prerequisite → Bool
is_none_left None = false
is_none_left (Some p) = is_none p.stamp && not p.has_rule

-- the number of the gone prerequisite that a reason names: that it is another file than it was is told so, too
abbrev pub gone_number : List Prerequisite → Reason → Option ℕ
gone_number prerequisites (HiddenGone number) = Some number
gone_number prerequisites (Changed number) = if is_none_left (slice_get prerequisites number) then Some number else None
gone_number prerequisites _ = None

abbrev pub words_by : Graph → (n : ℕ) → Target → Reason → (gone : Option ℕ) → List ℕ
words_by graph n target reason (Some number) = gone_words graph n number
words_by graph n target reason None = words_for target.prerequisites.now reason

-- the words for the reason why node n is out of date, which is judged as this target: the verdict's own
abbrev pub words_of : Graph → (n : ℕ) → Target → Reason → List ℕ
words_of graph n target reason = words_by graph n target reason (gone_number target.prerequisites.now reason)

-- this is why node n is out of date, which is judged as this target: the first reason that holds, its words, and what has changed
pub record IsWhy (keeping : Bool) (graph : Graph) (n : ℕ) (target : Target) (why : Why) : Type 0 where
  pub first : IsFirstReason keeping (entry_of graph n) target why.reason
  pub words : why.words ≡ words_of graph n target why.reason
  pub change : why.change ≡ change_of graph n target why.reason

-- it is out of date, and this is why; or it isn't
abbrev pub IsJudgedSo : (keeping : Bool) → Graph → (n : ℕ) → Target → Option Why → Type 0
IsJudgedSo keeping graph n target (Some why) = IsWhy keeping graph n target why
IsJudgedSo keeping graph n target None = IsOutOfDate keeping (entry_of graph n) target → ⊥
