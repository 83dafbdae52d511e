-- By which name another one is needed.
use Rattle.std.proofs.Common.{◌≡◌, ◌∙◌, ℕ, ◌<◌, nat_eq, eqb-true, true≢false, Bool, true, false, List, [], ◌∷◌, length, map, Option, Some, None, refl, sym, ap, subst}
use Rattle.std.specs.Prelude.{◌||◌, IfSome}
use Rattle.mk_graph.specs.Edges.{row, has as has_number}
use Rattle.mk_names.specs.Names.{name_at, has_name}
use Rattle.mk_graph.specs.Numbering.{AreDescribed}
use Rattle.mk_rule_lines.specs.Rules.{has}
use Rattle.mk_rules.specs.Faults.{IsNeededBy}
use Rattle.mk_rules.specs.Found.{HasItInItsRow}
use Rattle.mk_edges.specs.Known.{IsKnown}
use Rattle.mk_nodes.specs.Prerequisites.{Inputs, prerequisites_of}
use Rattle.mk_nodes.specs.declared.graph.Node.{Node}
use Rattle.mk_sources.proofs.AmongLemmas.{has_first, has_later}
use Rattle.mk_rules.proofs.MadeLemmas.{has_at}
use Rattle.mk_edges.proofs.RowLaws.{rows_count, row_at}

-- the name of a number that stands in a row stands among the row's names
has_mapped : (names : List (List ℕ)) (node : ℕ) (numbers : List ℕ) → has_number numbers node ≡ true → has (name_at names node) (map (name_at names) numbers) ≡ true
has_mapped names node [] is = absurd (true≢false (sym is))
has_mapped names node (n ∷ numbers) is = by (has_mapped names node numbers) (nat_eq node n) refl
  where
    by : (has_number numbers node ≡ true → has (name_at names node) (map (name_at names) numbers) ≡ true) → (b : Bool) → nat_eq node n ≡ b →
        has (name_at names node) (map (name_at names) (n ∷ numbers)) ≡ true
    by rest true same =
        subst (λ m. has (name_at names node) (name_at names m ∷ map (name_at names) numbers) ≡ true) (eqb-true node n same)
        (has_first (name_at names node) (map (name_at names) numbers))
    by rest false other =
        has_later (name_at names node) (name_at names n) (map (name_at names) numbers)
        (rest (sym (ap (λ b. b || has_number numbers node) other) ∙ is))

-- a name in whose row a node stands has the node's name among its prerequisites
module _ (inputs : Inputs) (names : List (List ℕ)) (rows : List (List ℕ)) (known : List Node) (rows_are : map (map (name_at names)) rows ≡ map (prerequisites_of inputs) names)
    (described : AreDescribed (IsKnown inputs) names known) (count : length known ≡ length names) (node : ℕ) (name : List ℕ) (name_is : name ≡ name_at names node) where
  user_is : (user : List ℕ) → HasItInItsRow names rows node user → IsNeededBy inputs names name user
  user_is user is =
      let within : is.number < length names = subst (λ l. is.number < l) (rows_count inputs names rows known rows_are described count) is.within in
      let there : has (name_at names node) (prerequisites_of inputs (name_at names is.number)) ≡ true
      = subst (λ ps. has (name_at names node) ps ≡ true) (row_at inputs names rows known rows_are described count is.number within) (has_mapped names node (row rows is.number) is.in_row) in (
        ap (has_name names) is.name ∙ has_at names is.number within,
        ap (λ n. has n (prerequisites_of inputs user)) name_is ∙ ap (λ u. has (name_at names node) (prerequisites_of inputs u)) is.name ∙ there,
      )

  pub needed_is : (told : Option (List ℕ)) → IfSome told (HasItInItsRow names rows node) → IfSome told (IsNeededBy inputs names name)
  needed_is None is = tt
  needed_is (Some user) is = user_is user is
