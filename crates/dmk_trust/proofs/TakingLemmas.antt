-- What stays true while targets are taken as they are, and what holds of their records.
use Rattle.std.proofs.Common.{◌≡◌, ◌+◌, ◌⊎◌, inl, inr, ℕ, Bool, true, false, List, [], ◌∷◌, ◌++◌, Option, Some, None, drop, set, refl, sym, subst, ap, append_assoc}
use Rattle.std.specs.Prelude.{option_to_list, IfSome}
use Rattle.std.specs.List.{AllByRecursion, list_any}
use Rattle.mk_names.specs.Names.{name_at}
use Rattle.mk_nodes.specs.declared.graph.Graph.{Graph}
use Rattle.mk_rule_lines.specs.declared.fault.TextFault.{TextFault}
use Rattle.mk_recipe.specs.Line.{Records}
use Rattle.mk_recipe.specs.declared.line.Line.{Line}
use Rattle.mk_plan.specs.Passage.{Passage, to_make, is_listed}
use Rattle.mk_plan.specs.Passing.{Passes, IsFaultAt, is_remade, told_in}
use Rattle.mk_plan.specs.declared.passing.Passed.{Passed}
use Rattle.mk_plan.specs.declared.fault.RecipeFault.{RecipeFault}
use Rattle.mk_plan.specs.declared.fault.RecipeFault.TheVariants as fault
use Rattle.mk_plan.specs.declared.why.Why.{Why}
use Rattle.st_records.specs.Limits.{IsGoodIn}
use Rattle.st_records.specs.Parts.{target_of}
use Rattle.st_records.specs.declared.version.Form.{Form}
use Rattle.st_records.specs.declared.record.Record.{Record}
use Rattle.st_file.specs.Batch.{may_stand}
use Rattle.jb_recipe.specs.OnDisk.{files_made}
use Rattle.dmk_reading.specs.Passing.{no_marks}
use Rattle.dmk_trust.specs.Taken.{IsDoneOf, Takes, is_taken, cannot_be_recorded, is_made, has_nothing_to_run, is_faulty, TakesAll, at_end, behind, AreTaken, IsOnDisk}

-- the records so far: with those of the nodes that are left they are those of all
abbrev pub TakenSoFar : (form : Form) (graph : Graph) (marks : List Bool) (i : ℕ) (taken : List Record) → Type 0
TakenSoFar form graph marks i taken =
    (rest : List Record) → TakesAll form graph marks (drop i graph.order.items) rest → AreTaken form graph (taken ++ rest)

pub taken_start : (form : Form) (graph : Graph) → TakenSoFar form graph (no_marks graph) 0 []
taken_start form graph = λ rest takes. takes

pub taken_more : (form : Form) (graph : Graph) (marks : List Bool) (i n : ℕ) (remade : Bool) (note : Option Record) (taken : List Record) →
    drop i graph.order.items ≡ n ∷ drop (i + 1) graph.order.items → Takes form graph marks n remade note →
    TakenSoFar form graph marks i taken → TakenSoFar form graph (set marks n remade) (i + 1) (taken ++ option_to_list note)
taken_more form graph marks i n remade note taken next takes before = λ rest after.
    subst (AreTaken form graph) (sym (append_assoc taken (option_to_list note) rest))
    (before (option_to_list note ++ rest)
    (subst (λ left. TakesAll form graph marks left (option_to_list note ++ rest)) (sym next) (behind takes after)))

-- all nodes are passed
pub taken_all : (form : Form) (graph : Graph) (marks : List Bool) (i : ℕ) (taken : List Record) →
    drop i graph.order.items ≡ [] → taken ++ [] ≡ taken → TakenSoFar form graph marks i taken → AreTaken form graph taken
taken_all form graph marks i taken none same before =
    subst (AreTaken form graph) same (before [] (subst (λ left. TakesAll form graph marks left []) (sym none) at_end))

-- the files of each are on the disk
pub all_more : (P : Record → Type 0) (xs ys : List Record) → AllByRecursion P xs → AllByRecursion P ys → AllByRecursion P (xs ++ ys)
all_more P [] ys front more = more
all_more P (x ∷ xs) ys front more = (front.0, all_more P xs ys front.1 more)

pub noted_on_disk : {form : Form} {graph : Graph} {marks : List Bool} {n : ℕ} {remade : Bool} {note : Option Record} → (synced : List ℕ → Type 0) →
    Takes form graph marks n remade note → IfSome note (λ _. AllByRecursion synced (files_made graph n)) →
    AllByRecursion (IsOnDisk synced graph) (option_to_list note)
noted_on_disk {n = n} synced (is_taken told why lines commands note let_be listed records (text, seen, is) good) synced_all = ((n, ap target_of is, synced_all), tt)
noted_on_disk synced (cannot_be_recorded told why lines commands note let_be listed records is bad) synced_all = tt
noted_on_disk synced (is_made told passes) synced_all = tt
noted_on_disk synced (has_nothing_to_run remade passes) synced_all = tt
noted_on_disk synced (is_faulty f is) synced_all = tt

-- each record is good, and may stand in any batch
good_first : {form : Form} {graph : Graph} {marks : List Bool} {n : ℕ} {remade : Bool} {note : Option Record} → Takes form graph marks n remade note →
    (rest : List Record) → AllByRecursion (IsGoodIn form) rest → AllByRecursion (IsGoodIn form) (option_to_list note ++ rest)
good_first (is_taken told why lines commands note let_be listed records is good) rest goods = (good, goods)
good_first (cannot_be_recorded told why lines commands note let_be listed records is bad) rest goods = goods
good_first (is_made told passes) rest goods = goods
good_first (has_nothing_to_run remade passes) rest goods = goods
good_first (is_faulty f is) rest goods = goods

pub taken_good : {form : Form} {graph : Graph} {marks : List Bool} {order : List ℕ} {taken : List Record} → TakesAll form graph marks order taken →
    AllByRecursion (IsGoodIn form) taken
taken_good at_end = tt
taken_good (behind {taken = taken} takes more) = good_first takes taken (taken_good more)

stands_first : {form : Form} {graph : Graph} {marks : List Bool} {n : ℕ} {remade : Bool} {note : Option Record} → Takes form graph marks n remade note →
    (rest : List Record) → AllByRecursion (λ r. may_stand false r ≡ true) rest → AllByRecursion (λ r. may_stand false r ≡ true) (option_to_list note ++ rest)
stands_first (is_taken told why lines commands note let_be listed records (text, seen, is) good) rest stand = (subst (λ r. may_stand false r ≡ true) (sym is) refl, stand)
stands_first (cannot_be_recorded told why lines commands note let_be listed records is bad) rest stand = stand
stands_first (is_made told passes) rest stand = stand
stands_first (has_nothing_to_run remade passes) rest stand = stand
stands_first (is_faulty f is) rest stand = stand

pub taken_stand : {form : Form} {graph : Graph} {marks : List Bool} {order : List ℕ} {taken : List Record} → TakesAll form graph marks order taken →
    AllByRecursion (λ r. may_stand false r ≡ true) taken
taken_stand at_end = tt
taken_stand (behind {taken = taken} takes more) = stands_first takes taken (taken_stand more)

-- passing it by what is recorded comes to no recipe
pub not_run : (form : Form) (graph : Graph) (marks : List Bool) (n : ℕ) (p q : Passed) → p ≡ q → list_any is_listed (told_in graph n q) ≡ false →
    Passes true graph marks n (is_remade p) (told_in graph n p) → Takes form graph marks n (is_remade q) None
not_run form graph marks n p q is none passes =
    has_nothing_to_run (is_remade q) (told_in graph n q, subst (λ r. Passes true graph marks n (is_remade r) (told_in graph n r)) is passes, none)

-- it can't be passed
pub faulty_taken : (form : Form) (graph : Graph) (marks : List Bool) (n : ℕ) (given : RecipeFault) (remade : Bool) (note : Option Record) → IsFaultAt graph marks n given →
    (f : TextFault) × (given ≡ fault.Macro f) × (remade ≡ true) × (note ≡ None) → Takes form graph marks n remade note
faulty_taken form graph marks n given remade note at (f, is, made, none) =
    subst (λ r. Takes form graph marks n r note) (sym made)
    (subst (λ o. Takes form graph marks n true o) (sym none) (is_faulty f (subst (IsFaultAt graph marks n) is at)))

-- a node that is found so, whose recipe would be run by what is recorded
pub found_made : {form : Form} {graph : Graph} {marks : List Bool} {n : ℕ} → ((told : List Passage) × Passes false graph marks n true told)
    ⊎ ((f : TextFault) × IsFaultAt graph marks n (fault.Macro f)) → Takes form graph marks n true None
found_made (inl (told, passes)) = is_made told passes
found_made (inr (f, is)) = is_faulty f is

pub found_taken : {form : Form} {graph : Graph} {marks : List Bool} {n : ℕ} {note : Record} (why : Why) (lines : List Line) → ((told : List Passage) × Passes false graph marks n false told) →
    ((commands : List (List ℕ)) × Records lines commands × IsDoneOf form graph n commands note) → IsGoodIn form note →
    Passes true graph marks n true (to_make (name_at graph.names n) why lines ∷ []) → Takes form graph marks n false (Some note)
found_taken {form} {graph} {marks} {n} why lines (told, let_be) (commands, records, is) good listed =
    is_taken told why lines commands _ let_be listed records is good

pub found_bad : {form : Form} {graph : Graph} {marks : List Bool} {n : ℕ} {note : Record} (why : Why) (lines : List Line) → ((told : List Passage) × Passes false graph marks n false told) →
    ((commands : List (List ℕ)) × Records lines commands × IsDoneOf form graph n commands note) → (IsGoodIn form note → ⊥) →
    Passes true graph marks n true (to_make (name_at graph.names n) why lines ∷ []) → Takes form graph marks n true None
found_bad {form} {graph} {marks} {n} why lines (told, let_be) (commands, records, is) bad listed =
    cannot_be_recorded told why lines commands _ let_be listed records is bad
