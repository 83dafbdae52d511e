-- Whether each name is made by something.
use Rattle.std.proofs.Common.{arith, ◌≡◌, ◌<◌, ◌+◌, suc, zero, ℕ, Bool, true, false, not, ◌&&◌, nat_eq, nat_lt, eqb-true, List, [], ◌∷◌, ◌++◌, length, Option, Some, None, refl, sym, ap, ◌∙◌}
use Rattle.std.specs.Prelude.{◌||◌, bytes_eq, is_some, option_map}
use Rattle.mk_graph.specs.Edges.{has as has_number}
use Rattle.mk_names.specs.Names.{name_at, has_name}
use Rattle.mk_graph.proofs.RowLemmas.{has-push}
use Rattle.mk_edges.specs.Known.{IsKnown}
use Rattle.mk_nodes.specs.Prerequisites.{Inputs, default_of, is_target, implicit_source, is_made}
use Rattle.mk_makefile.specs.Table.{is_named, named_at}
use Rattle.mk_makefile.specs.declared.form.Source.{Source}
use Rattle.mk_nodes.specs.declared.graph.Node.{Node}
use Rattle.mk_rule_lines.specs.declared.rule_line.RuleLine.{RuleLine}
use Rattle.mk_makefile.specs.declared.table.TargetTable.{TargetTable}
use Rattle.std.proofs.lemmas.Slice.Eq.{bytes_eq-Decides}

some_stem : (o : Option Source) → is_some (option_map (λ (s : Source). s.stem) o) ≡ is_some o
some_stem None = refl
some_stem (Some s) = refl

in_order : (s m t : Bool) → (s || (m || t)) ≡ ((t || s) || m)
in_order true m true = refl
in_order true m false = refl
in_order false true true = refl
in_order false true false = refl
in_order false false true = refl
in_order false false false = refl

no_default : (d m : Bool) → d ≡ false → m ≡ (d || m)
no_default true m e = cc
no_default false m e = refl

-- where there is no rule for what nothing else makes, what is known of a name tells whether something makes it
pub made_is : (inputs : Inputs) (lines : List RuleLine) (targets : TargetTable) → inputs.lines ≡ lines → is_some (default_of lines) ≡ false →
    ((name : List ℕ) → is_named (named_at targets name) ≡ is_target lines name) → (name : List ℕ) (k : Node) → IsKnown inputs name k →
    (is_some k.stamp || (is_some k.rare.stem || is_named (named_at targets name))) ≡ is_made inputs name
made_is inputs lines targets lines_are none table name k is =
    let stamp : is_some k.stamp ≡ is_some (inputs.looks name) = ap is_some is.stamp in
    let stem : is_some k.rare.stem ≡ is_some (implicit_source inputs name) = ap is_some is.stem ∙ some_stem (implicit_source inputs name) in
    let target : is_named (named_at targets name) ≡ is_target inputs.lines name = table name ∙ ap (λ (ls : List RuleLine). is_target ls name) (sym lines_are) in
    in_order (is_some k.stamp) (is_some k.rare.stem) (is_named (named_at targets name))
    ∙ ap (λ (t : Bool). (t || is_some k.stamp) || is_some k.rare.stem) target
    ∙ ap (λ (s : Bool). (is_target inputs.lines name || s) || is_some k.rare.stem) stamp
    ∙ ap (λ (m : Bool). (is_target inputs.lines name || is_some (inputs.looks name)) || m) stem
    ∙ no_default (is_some (default_of inputs.lines)) _ (ap (λ (ls : List RuleLine). is_some (default_of ls)) lines_are ∙ none)

below_next : (n k : ℕ) → nat_lt n (k + 1) ≡ (nat_lt n k || nat_eq n k)
below_next n k = grind arith

-- numbers below k, of which those stand in a list that nothing makes
module _ (made : ℕ → Bool) where
  no_and : (b c : Bool) → (b && false) ≡ (c && false)
  no_and b c = grind arith

  at_made : (n k : ℕ) → made k ≡ true → (e : Bool) → nat_eq n k ≡ e → (nat_lt n k && not (made n)) ≡ ((nat_lt n k || e) && not (made n))
  at_made n k here true e = ap (λ m. nat_lt n k && not m) is ∙ no_and (nat_lt n k) (nat_lt n k || true) ∙ sym (ap (λ m. (nat_lt n k || true) && not m) is)
    where
      is : made n ≡ true
      is = ap made (eqb-true n k e) ∙ here
  at_made n k here false e = grind arith

  -- one more, which something makes
  pub made_more : (ns : List ℕ) (k : ℕ) → ((n : ℕ) → has_number ns n ≡ (nat_lt n k && not (made n))) → made k ≡ true →
      (n : ℕ) → has_number ns n ≡ (nat_lt n (k + 1) && not (made n))
  made_more ns k so_far here n = so_far n ∙ at_made n k here (nat_eq n k) refl ∙ ap (λ b. b && not (made n)) (sym (below_next n k))

  both : (b : Bool) → ((b && true) || true) ≡ ((b || true) && true)
  both b = grind arith

  at_unmade : (n k : ℕ) → made k ≡ false → (e : Bool) → nat_eq n k ≡ e → ((nat_lt n k && not (made n)) || e) ≡ ((nat_lt n k || e) && not (made n))
  at_unmade n k here true e = ap (λ m. (nat_lt n k && not m) || true) is ∙ both (nat_lt n k) ∙ sym (ap (λ m. (nat_lt n k || true) && not m) is)
    where
      is : made n ≡ false
      is = ap made (eqb-true n k e) ∙ here
  at_unmade n k here false e = grind arith

  -- one more, which nothing makes
  pub unmade_more : (ns : List ℕ) (k : ℕ) → ((n : ℕ) → has_number ns n ≡ (nat_lt n k && not (made n))) → made k ≡ false →
      (n : ℕ) → has_number (ns ++ k ∷ []) n ≡ (nat_lt n (k + 1) && not (made n))
  unmade_more ns k so_far here n =
      has-push ns k n ∙ ap (λ b. b || nat_eq n k) (so_far n) ∙ at_unmade n k here (nat_eq n k) refl ∙ ap (λ b. b && not (made n)) (sym (below_next n k))

first_is : (n x : List ℕ) (rest : Bool) → n ≡ x → (bytes_eq n x || rest) ≡ true
first_is n x rest same = let e : bytes_eq n x ≡ true = (bytes_eq-Decides n x).1 same in simp e refl

later_is : (b rest : Bool) → rest ≡ true → (b || rest) ≡ true
later_is true rest e = refl
later_is false rest e = e

-- the name with a number is a name
pub has_at : (names : List (List ℕ)) (n : ℕ) → n < length names → has_name names (name_at names n) ≡ true
has_at [] n below = absurd (omega arith)
has_at (x ∷ xs) zero below = first_is x x (has_name xs x) refl
has_at (x ∷ xs) (suc n) below = later_is (bytes_eq (name_at xs n) x) (has_name xs (name_at xs n)) (has_at xs n (omega arith))
