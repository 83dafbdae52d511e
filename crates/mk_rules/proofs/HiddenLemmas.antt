-- The hidden prerequisites of a name, one at a time.
use Rattle.std.proofs.Common.{arith, ◌≡◌, ◌≤◌, ℕ, Bool, true, false, not, cond, List, [], ◌∷◌, ◌++◌, length, map, drop, filter, refl, sym, ap, ◌∙◌, length-append}
use Rattle.std.specs.Prelude.{◌||◌, ◌&&◌, bytes_eq}
use Rattle.std.specs.Str.{is_utf8}
use Rattle.std.proofs.lemmas.List.{drop-append-le, drop_all, map-append}
use Rattle.std.proofs.lemmas.List.Folds.{list_any-append}
use Rattle.mk_names.specs.Names.{has_name, added, all_added}
use Rattle.mk_rule_lines.specs.Rules.{has}
use Rattle.mk_sources.specs.Looks.{IsLookFault}
use Rattle.mk_nodes.specs.Hidden.{Takes, HasHidden, IsNamesFault}
use Rattle.mk_nodes.specs.Prerequisites.{IsTextAmong}
use Rattle.mk_rule_lines.specs.declared.fault.RuleFault.{RuleFault}
use Rattle.mk_rule_lines.specs.declared.fault.RuleFault.TheVariants as fault
use Rattle.mk_rule_lines.proofs.NameLemmas.{bytes_eq-same}
use Rattle.mk_sources.proofs.SetLemmas.{has_added}

-- what is known where some hidden prerequisites are left
pub record HiddenSoFar (p : List ℕ → Bool) (hard hidden left judged nodes : List (List ℕ)) (among : List Bool) : Type 0 where
  pub judged_go : all_added judged left ≡ all_added hard hidden
  pub nodes_go : all_added nodes (filter p left) ≡ all_added hard (filter p hidden)
  pub alike : (n : List ℕ) → p n ≡ true → has_name nodes n ≡ has_name judged n
  pub longer : length hard ≤ length judged
  pub among_are : among ≡ map p (drop (length hard) judged)

module _ (p : List ℕ → Bool) (hard hidden : List (List ℕ)) (name : List ℕ) (left judged nodes : List (List ℕ)) (among : List Bool)
    (so : HiddenSoFar p hard hidden (name ∷ left) judged nodes among) where
  -- the nodes that are left where the name is one
  nodes_at : p name ≡ true → all_added (added nodes name) (filter p left) ≡ all_added hard (filter p hidden)
  nodes_at node = simp node at so.nodes_go

  nodes_past : p name ≡ false → all_added nodes (filter p left) ≡ all_added hard (filter p hidden)
  nodes_past gone = simp gone at so.nodes_go

  known_nodes : (u : Bool) → p name ≡ u → has_name judged name ≡ true → all_added nodes (filter p left) ≡ all_added hard (filter p hidden)
  known_nodes true node known =
      let there : has_name nodes name ≡ true = so.alike name node ∙ known in
      let same : added nodes name ≡ nodes = simp there refl in
      ap (λ ns. all_added ns (filter p left)) (sym same) ∙ nodes_at node
  known_nodes false gone known = nodes_past gone

  -- a name that was mentioned before
  known : has_name judged name ≡ true → HiddenSoFar p hard hidden left judged nodes among
  known e =
      let same : added judged name ≡ judged = simp e refl in
      record {
        judged_go = ap (λ ns. all_added ns left) (sym same) ∙ so.judged_go;
        nodes_go = known_nodes (p name) refl e;
        alike = so.alike;
        longer = so.longer;
        among_are = so.among_are;
      }

  further : length hard ≤ length (judged ++ name ∷ [])
  further = let more = so.longer in simp length-append (omega arith)

  among_more : among ++ p name ∷ [] ≡ map p (drop (length hard) (judged ++ name ∷ []))
  among_more =
      ap (λ bs. bs ++ p name ∷ []) so.among_are ∙ sym (map-append p (drop (length hard) judged) (name ∷ []))
      ∙ ap (map p) (sym (drop-append-le (length hard) judged (name ∷ []) so.longer))

  judged_more : has_name judged name ≡ false → all_added (judged ++ name ∷ []) left ≡ all_added hard hidden
  judged_more e = let new : added judged name ≡ judged ++ name ∷ [] = simp e refl in ap (λ ns. all_added ns left) (sym new) ∙ so.judged_go

  -- a new name that is a node
  new_node : has_name judged name ≡ false → p name ≡ true → HiddenSoFar p hard hidden left (judged ++ name ∷ []) (nodes ++ name ∷ []) (among ++ p name ∷ [])
  new_node e node =
      let none : has_name nodes name ≡ false = so.alike name node ∙ e in
      let new : added nodes name ≡ nodes ++ name ∷ [] = simp none refl in
      record {
        judged_go = judged_more e;
        nodes_go = ap (λ ns. all_added ns (filter p left)) (sym new) ∙ nodes_at node;
        alike = λ n is.
            list_any-append (bytes_eq n) nodes (name ∷ []) ∙ ap (λ (b : Bool). b || has_name (name ∷ []) n) (so.alike n is)
            ∙ sym (list_any-append (bytes_eq n) judged (name ∷ []));
        longer = further;
        among_are = among_more;
      }

  other_at : (n : List ℕ) → p n ≡ true → p name ≡ false → (t : Bool) → bytes_eq n name ≡ t → has_name (name ∷ []) n ≡ false
  other_at n is gone true e = let same : p n ≡ p name = ap p (bytes_eq-same n name e) in cc
  other_at n is gone false e = simp e refl

  or_false : (b : Bool) → b ≡ (b || false)
  or_false true = refl
  or_false false = refl

  -- a new name that is gone
  new_gone : has_name judged name ≡ false → p name ≡ false → HiddenSoFar p hard hidden left (judged ++ name ∷ []) nodes (among ++ p name ∷ [])
  new_gone e gone = record {
    judged_go = judged_more e;
    nodes_go = nodes_past gone;
    alike = λ n is.
        so.alike n is ∙ or_false (has_name judged n) ∙ ap (λ (b : Bool). has_name judged n || b) (sym (other_at n is gone (bytes_eq n name) refl))
        ∙ sym (list_any-append (bytes_eq n) judged (name ∷ []));
    longer = further;
    among_are = among_more;
  }

  step_at : (judged_then nodes_then : List (List ℕ)) (among_then : List Bool) (b : Bool) → b ≡ p name → judged_then ≡ added judged name →
      nodes_then ≡ cond (has_name judged name || not b) nodes (nodes ++ name ∷ []) → among_then ≡ cond (has_name judged name) among (among ++ b ∷ []) →
      (t u : Bool) → has_name judged name ≡ t → p name ≡ u → HiddenSoFar p hard hidden left judged_then nodes_then among_then
  step_at judged_then nodes_then among_then b is judged_is nodes_is among_is true u e v =
      let j : judged_then ≡ judged = judged_is ∙ simp e refl in
      let n : nodes_then ≡ nodes = nodes_is ∙ simp e refl in
      let a : among_then ≡ among = among_is ∙ simp e refl in
      rw (j, n, a) (known e)
  step_at judged_then nodes_then among_then b is judged_is nodes_is among_is false true e v =
      let yes : b ≡ true = is ∙ v in
      let j : judged_then ≡ judged ++ name ∷ [] = judged_is ∙ simp e refl in
      let n : nodes_then ≡ nodes ++ name ∷ [] = nodes_is ∙ simp (e, yes) refl in
      let a : among_then ≡ among ++ p name ∷ [] = among_is ∙ simp e (ap (λ (c : Bool). among ++ c ∷ []) is) in
      rw (j, n, a) (new_node e v)
  step_at judged_then nodes_then among_then b is judged_is nodes_is among_is false false e v =
      let no : b ≡ false = is ∙ v in
      let j : judged_then ≡ judged ++ name ∷ [] = judged_is ∙ simp e refl in
      let n : nodes_then ≡ nodes = nodes_is ∙ simp (e, no) refl in
      let a : among_then ≡ among ++ p name ∷ [] = among_is ∙ simp e (ap (λ (c : Bool). among ++ c ∷ []) is) in
      rw (j, n, a) (new_gone e v)

  -- one hidden prerequisite more is taken in
  pub hidden_step : (judged_then nodes_then : List (List ℕ)) (among_then : List Bool) (b : Bool) → b ≡ p name → judged_then ≡ added judged name →
      nodes_then ≡ cond (has_name judged name || not b) nodes (nodes ++ name ∷ []) → among_then ≡ cond (has_name judged name) among (among ++ b ∷ []) →
      HiddenSoFar p hard hidden left judged_then nodes_then among_then
  hidden_step judged_then nodes_then among_then b is judged_is nodes_is among_is =
      step_at judged_then nodes_then among_then b is judged_is nodes_is among_is (has_name judged name) (p name) refl refl

le_self : (n : ℕ) → n ≤ n
le_self n = omega arith

past_all : (p : List ℕ → Bool) (ns : List (List ℕ)) → map p (drop (length ns) ns) ≡ []
past_all p [] = refl
past_all p (n ∷ ns) = past_all p ns

-- the same beside the names that are gone: what was mentioned is a node or gone
pub record TakenSoFar (p : List ℕ → Bool) (hard hidden left judged nodes gone : List (List ℕ)) (among : List Bool) : Type 0 where
  pub so : HiddenSoFar p hard hidden left judged nodes among
  pub both : (n : List ℕ) → has_name judged n ≡ (has_name nodes n || has_name gone n)

or_swap : (a b c : Bool) → ((a || b) || c) ≡ ((a || c) || b)
or_swap true b c = refl
or_swap false true true = refl
or_swap false true false = refl
or_swap false false true = refl
or_swap false false false = refl

or_assoc : (a b c : Bool) → ((a || b) || c) ≡ (a || (b || c))
or_assoc true b c = refl
or_assoc false b c = refl

pub or_nothing : (b : Bool) → (b || false) ≡ b
or_nothing true = refl
or_nothing false = refl

or_all : (b : Bool) → (b || true) ≡ true
or_all true = refl
or_all false = refl

module _ (p : List ℕ → Bool) (hard hidden : List (List ℕ)) (name : List ℕ) (left judged nodes gone : List (List ℕ)) (among : List Bool)
    (before : TakenSoFar p hard hidden (name ∷ left) judged nodes gone among)
    (nodes_then gone_then : List (List ℕ)) (among_then : List Bool) (takes : Takes p name nodes nodes_then gone gone_then among among_then) where
  among_at : (t : Bool) → p name ≡ t → among_then ≡ cond (has_name nodes name || (not t && has_name gone name)) among (among ++ t ∷ [])
  among_at t e = takes.among_are ∙ ap (λ (b : Bool). cond (has_name nodes name || (not b && has_name gone name)) among (among ++ b ∷ [])) e

  -- it is a node, which was mentioned if it is among the nodes
  of_node : p name ≡ true → TakenSoFar p hard hidden left (added judged name) nodes_then gone_then among_then
  of_node node =
      let same : has_name nodes name ≡ has_name judged name = before.so.alike name node in
      let nodes_are : nodes_then ≡ added nodes name = takes.nodes_are ∙ ap (λ (b : Bool). cond b (added nodes name) nodes) node in
      let gone_are : gone_then ≡ gone = takes.gone_are ∙ ap (λ (b : Bool). cond (b || has_name nodes name) gone (added gone name)) node in
      let among_by : among_then ≡ cond (has_name judged name) among (among ++ true ∷ [])
      = among_at true node ∙ ap (λ (b : Bool). cond b among (among ++ true ∷ [])) (or_nothing (has_name nodes name) ∙ same) in
      let nodes_by : nodes_then ≡ cond (has_name judged name || not true) nodes (nodes ++ name ∷ [])
      = nodes_are ∙ ap (λ (b : Bool). cond b nodes (nodes ++ name ∷ [])) (same ∙ sym (or_nothing (has_name judged name))) in
      record {
        so = hidden_step p hard hidden name left judged nodes among before.so (added judged name) nodes_then among_then true (sym node) refl nodes_by among_by;
        both = λ n.
            has_added judged name n ∙ ap (λ (b : Bool). b || bytes_eq n name) (before.both n)
            ∙ or_swap (has_name nodes n) (has_name gone n) (bytes_eq n name)
            ∙ ap (λ (b : Bool). b || has_name gone n) (sym (has_added nodes name n))
            ∙ sym (ap (λ l. has_name l n || has_name gone_then n) nodes_are ∙ ap (λ l. has_name (added nodes name) n || has_name l n) gone_are);
      }

  gone_both : (t : Bool) → has_name nodes name ≡ t → gone_then ≡ cond t gone (added gone name) → (n : List ℕ) →
      has_name (added judged name) n ≡ (has_name nodes n || has_name gone_then n)
  gone_both true hard_one is n =
      let there : has_name judged name ≡ true = before.both name ∙ ap (λ (b : Bool). b || has_name gone name) hard_one in
      ap (λ (b : Bool). has_name (cond b judged (judged ++ name ∷ [])) n) there ∙ before.both n ∙ ap (λ l. has_name nodes n || has_name l n) (sym is)
  gone_both false new is n =
      has_added judged name n ∙ ap (λ (b : Bool). b || bytes_eq n name) (before.both n)
      ∙ or_assoc (has_name nodes n) (has_name gone n) (bytes_eq n name)
      ∙ ap (λ (b : Bool). has_name nodes n || b) (sym (has_added gone name n))
      ∙ ap (λ l. has_name nodes n || has_name l n) (sym is)

  -- it is gone, and was mentioned as a node, which is a hard one, or as one that is gone
  of_gone : p name ≡ false → TakenSoFar p hard hidden left (added judged name) nodes_then gone_then among_then
  of_gone none =
      let nodes_are : nodes_then ≡ nodes = takes.nodes_are ∙ ap (λ (b : Bool). cond b (added nodes name) nodes) none in
      let gone_are : gone_then ≡ cond (has_name nodes name) gone (added gone name) = takes.gone_are ∙ ap (λ (b : Bool). cond (b || has_name nodes name) gone (added gone name)) none in
      let among_by : among_then ≡ cond (has_name judged name) among (among ++ false ∷ [])
      = among_at false none ∙ ap (λ (b : Bool). cond b among (among ++ false ∷ [])) (sym (before.both name)) in
      let nodes_by : nodes_then ≡ cond (has_name judged name || not false) nodes (nodes ++ name ∷ [])
      = nodes_are ∙ ap (λ (b : Bool). cond b nodes (nodes ++ name ∷ [])) (sym (or_all (has_name judged name))) in
      record {
        so = hidden_step p hard hidden name left judged nodes among before.so (added judged name) nodes_then among_then false (sym none) refl nodes_by among_by;
        both = λ n. gone_both (has_name nodes name) refl gone_are n ∙ ap (λ l. has_name l n || has_name gone_then n) (sym nodes_are);
      }

  taken_at : (t : Bool) → p name ≡ t → TakenSoFar p hard hidden left (added judged name) nodes_then gone_then among_then
  taken_at true node = of_node node
  taken_at false none = of_gone none

  pub taken_step : TakenSoFar p hard hidden left (added judged name) nodes_then gone_then among_then
  taken_step = taken_at (p name) refl

pub taken_start : (p : List ℕ → Bool) (nodes hidden gone : List (List ℕ)) (among : List Bool) → gone ≡ [] → among ≡ [] → TakenSoFar p nodes hidden hidden nodes nodes gone among
taken_start p nodes hidden gone among no_gone none = record {
  so = rw none (record {
    judged_go = refl;
    nodes_go = refl;
    alike = λ n is. refl;
    longer = le_self (length nodes);
    among_are = sym (past_all p nodes);
  });
  both = λ n. sym (ap (λ l. has_name nodes n || has_name l n) no_gone ∙ or_nothing (has_name nodes n));
}

pub taken_end : (p : List ℕ → Bool) (hard hidden judged nodes gone : List (List ℕ)) (among : List Bool) → TakenSoFar p hard hidden [] judged nodes gone among → HasHidden p hard hidden nodes among
taken_end p hard hidden judged nodes gone among taken = record {
  nodes_are = taken.so.nodes_go;
  among_are = taken.so.among_are ∙ ap (λ l. map p (drop (length hard) l)) taken.so.judged_go;
}

-- what one hidden prerequisite is, said of two tests that agree there
pub takes_same : (p q : List ℕ → Bool) (name : List ℕ) (nodes nodes_then gone gone_then : List (List ℕ)) (among among_then : List Bool) → q name ≡ p name →
    Takes q name nodes nodes_then gone gone_then among among_then → Takes p name nodes nodes_then gone gone_then among among_then
takes_same p q name nodes nodes_then gone gone_then among among_then same takes = record {
  nodes_are = takes.nodes_are ∙ ap (λ (b : Bool). cond b (added nodes name) nodes) same;
  gone_are = takes.gone_are ∙ ap (λ (b : Bool). cond (b || has_name nodes name) gone (added gone name)) same;
  among_are = takes.among_are ∙ ap (λ (b : Bool). cond (has_name nodes name || (not b && has_name gone name)) among (among ++ b ∷ [])) same;
}

-- a name that can't be looked at is one of those that are left, and so of all
pub names_fault : (refuses : List ℕ → Type 0) (names : List (List ℕ)) (name : List ℕ) → IsTextAmong names name → (f : RuleFault) → IsLookFault refuses name f → IsNamesFault refuses names f
names_fault refuses names name is fault.OutOfMemory meets = tt
names_fault refuses names name is (fault.Tree n) meets =
    ((ap (λ (m : List ℕ). has m names) meets.0 ∙ is.0, ap (λ (m : List ℕ). is_utf8 m) meets.0 ∙ is.1), meets.1)
names_fault refuses names name is _ meets = meets

text_at : (name : List ℕ) (b : Bool) → is_utf8 name ≡ b → (is_utf8 name ≡ false → false ≡ true) → is_utf8 name ≡ true
text_at name true e never = e
text_at name false e never = e ∙ never e

-- where none is recorded, the row stays
pub none_hidden : (p : List ℕ → Bool) (hard hidden : List (List ℕ)) (among : List Bool) → length hidden ≡ 0 → among ≡ [] →
    HasHidden p hard hidden hard among
none_hidden p hard [] among none is = record {
  nodes_are = refl;
  among_are = let all : length hard ≤ length hard = omega arith in is ∙ sym (ap (map p) (drop_all (length hard) hard all));
}
none_hidden p hard (h ∷ hs) among none is = absurd (omega (arith, none))
