-- The table of all lines, one line at a time.
use Rattle.std.proofs.Common.{arith, append-nil, length, nat_eq, [], ◌∷◌, ◌++◌, ◌-◌, ◌+◌, ◌<◌, ◌≡◌, ℕ, zero, suc, Bool, true, false, not, cond, List, Option, Some, None, refl, sym, ap, subst, ◌∙◌}
use Rattle.std.specs.Prelude.{slice_get, option_to_list, option_map, IfSome}
use Rattle.std.specs.Option.{option_map_or}
use Rattle.std.proofs.lemmas.List.{append_assoc}
use Rattle.std.proofs.lemmas.Bool.Decides.{nat_tests}
use Rattle.mk_rule_lines.specs.Rules.{has, lacks_single, times, places, recipe_places}
use Rattle.mk_makefile.specs.Named.{Named}
use Rattle.mk_makefile.specs.Table.{named_at, IsTable, IsTableFault, IsAddFault, AddsLine, IsSecond, HasTwoRecipes, is_last, with_line}
use Rattle.mk_makefile.specs.declared.table.TargetTable.{TargetTable}
use Rattle.mk_rule_lines.specs.declared.fault.RuleFault.{RuleFault}
use Rattle.mk_rule_lines.specs.declared.fault.RuleFault.TheVariants as fault
use Rattle.mk_rule_lines.specs.declared.rule_line.RuleLine.{RuleLine}

-- each is below k
abbrev pub AllBelow : ℕ → List ℕ → Type 0
AllBelow k [] = Unit {0}
AllBelow k (x ∷ xs) = (x < k) × AllBelow k xs

-- what holds of all items holds of the one at a place
get-AllBelow : (k : ℕ) (xs : List ℕ) (i : ℕ) → AllBelow k xs → IfSome (slice_get xs i) (λ n. n < k)
get-AllBelow k [] i all = tt
get-AllBelow k (x ∷ xs) zero all = all.0
get-AllBelow k (x ∷ xs) (suc i) all = get-AllBelow k xs i all.1

not_same : (n k : ℕ) → n < k → nat_eq n k ≡ false
not_same n k below = grind (arith, nat_tests)

last_below : (k : ℕ) (o : Option ℕ) → IfSome o (λ n. n < k) → option_map_or (λ n. nat_eq n k) o false ≡ false
last_below k None below = refl
last_below k (Some n) below = not_same n k below

-- numbers below k don't end in k
fresh : (k : ℕ) (xs : List ℕ) → AllBelow k xs → with_line k xs ≡ xs ++ k ∷ []
fresh k xs below =
    let none : is_last k xs ≡ false = last_below k (slice_get xs (length xs - 1)) (get-AllBelow k xs (length xs - 1) below) in
    simp none refl

All-more : (k : ℕ) (xs : List ℕ) → AllBelow k xs → AllBelow (k + 1) xs
All-more k [] all = tt
All-more k (x ∷ xs) all = (let here : x < k = all.0 in omega arith, All-more k xs all.1)

All-end : (k : ℕ) (xs : List ℕ) → AllBelow k xs → AllBelow (k + 1) (xs ++ k ∷ [])
All-end k [] all = (omega arith, tt)
All-end k (x ∷ xs) all = (let here : x < k = all.0 in omega arith, All-end k xs all.1)

-- what is known of a name where the lines from k on are left
pub record LinesGo (targets : RuleLine → List (List ℕ)) (k : ℕ) (left lines : List RuleLine) (name : List ℕ) (now : Named) : Type 0 where
  pub below : AllBelow k now.lines
  pub lines_go : now.lines ++ places (λ l. has name (targets l)) k left ≡ places (λ l. has name (targets l)) 0 lines
  pub recipes_go : option_to_list now.recipe ++ recipe_places targets k left name ≡ recipe_places targets 0 lines name

module _ (targets : RuleLine → List (List ℕ)) (k : ℕ) (l : RuleLine) (left lines : List RuleLine) (name : List ℕ) (now after : Named)
    (go : LinesGo targets k (l ∷ left) lines name now) (adds : AddsLine k (not (lacks_single l)) (targets l) name now after) where
  below_at : (b : Bool) → has name (targets l) ≡ b → AllBelow (k + 1) after.lines
  below_at true e =
      let is : after.lines ≡ now.lines ++ k ∷ [] = adds.lines_are ∙ simp e (fresh k now.lines go.below) in
      subst (λ (xs : List ℕ). AllBelow (k + 1) xs) (sym is) (All-end k now.lines go.below)
  below_at false e =
      let is : after.lines ≡ now.lines = adds.lines_are ∙ simp e refl in
      subst (λ (xs : List ℕ). AllBelow (k + 1) xs) (sym is) (All-more k now.lines go.below)

  lines_at : (b : Bool) → has name (targets l) ≡ b → after.lines ++ places (λ m. has name (targets m)) (k + 1) left ≡ places (λ m. has name (targets m)) 0 lines
  lines_at true e =
      let is : after.lines ≡ now.lines ++ k ∷ [] = adds.lines_are ∙ simp e (fresh k now.lines go.below) in
      let here : places (λ m. has name (targets m)) k (l ∷ left) ≡ k ∷ places (λ m. has name (targets m)) (k + 1) left = simp e refl in
      ap (λ xs. xs ++ places (λ m. has name (targets m)) (k + 1) left) is
      ∙ append_assoc now.lines (k ∷ []) (places (λ m. has name (targets m)) (k + 1) left)
      ∙ ap (λ xs. now.lines ++ xs) (sym here) ∙ go.lines_go
  lines_at false e =
      let is : after.lines ≡ now.lines = adds.lines_are ∙ simp e refl in
      let here : places (λ m. has name (targets m)) k (l ∷ left) ≡ places (λ m. has name (targets m)) (k + 1) left = simp e refl in
      ap (λ xs. xs ++ places (λ m. has name (targets m)) (k + 1) left) is ∙ ap (λ xs. now.lines ++ xs) (sym here) ∙ go.lines_go

  turned : (b : Bool) (xs : List ℕ) → cond (not b) xs [] ≡ cond b [] xs
  turned true xs = refl
  turned false xs = refl

  recipes : option_to_list after.recipe ++ recipe_places targets (k + 1) left name ≡ recipe_places targets 0 lines name
  recipes =
      let these = times k name (targets l) in
      let rest = recipe_places targets (k + 1) left name in
      ap (λ xs. xs ++ rest) (adds.recipe_is ∙ ap (λ xs. option_to_list now.recipe ++ xs) (turned (lacks_single l) these))
      ∙ append_assoc (option_to_list now.recipe) (cond (lacks_single l) [] these) rest ∙ go.recipes_go

  -- one line more is taken in
  pub lines_go_on : LinesGo targets (k + 1) left lines name after
  lines_go_on = record { below = below_at (has name (targets l)) refl; lines_go = lines_at (has name (targets l)) refl; recipes_go = recipes }

filled : (e : Bool) (xs : List ℕ) → not e ≡ true → cond e [] xs ≡ xs
filled true xs has = cc
filled false xs has = refl

-- a line that gives a name its second recipe
pub lines_go_second : (targets : RuleLine → List (List ℕ)) (k : ℕ) (l : RuleLine) (left lines : List RuleLine) (name : List ℕ) (now : Named) → LinesGo targets k (l ∷ left) lines name now →
    slice_get lines k ≡ Some l → IsSecond k (not (lacks_single l)) (targets l) name now → HasTwoRecipes targets lines name l.line
lines_go_second targets k l left lines name now go at second =
    let these = times k name (targets l) in
    let rest = recipe_places targets (k + 1) left name in
    let full : cond (lacks_single l) [] these ≡ these = filled (lacks_single l) these second.has in
    record {
      first = second.first;
      second = k;
      more = second.more ++ rest;
      whole = sym go.recipes_go ∙ ap (λ xs. option_to_list now.recipe ++ (xs ++ rest)) full ∙ sym (append_assoc (option_to_list now.recipe) these rest)
          ∙ ap (λ xs. xs ++ rest) second.whole;
      number = ap (option_map (λ m. m.line)) at;
    }

pub lines_go_start : (targets : RuleLine → List (List ℕ)) (lines : List RuleLine) (name : List ℕ) (now : Named) → now ≡ record { lines = []; recipe = None } → LinesGo targets 0 lines lines name now
lines_go_start targets lines name now is = subst (λ m. LinesGo targets 0 lines lines name m) (sym is) (record { below = tt; lines_go = refl; recipes_go = refl })

-- where no line is left, the table is that of the lines
pub lines_go_end : (targets : RuleLine → List (List ℕ)) (k : ℕ) (lines : List RuleLine) (table : TargetTable) →
    ((name : List ℕ) → LinesGo targets k [] lines name (named_at table name)) → IsTable targets lines table
lines_go_end targets k lines table go = record {
  named = λ name. sym (append-nil (named_at table name).lines) ∙ (go name).lines_go;
  recipe = λ name. sym (append-nil (option_to_list (named_at table name).recipe)) ∙ (go name).recipes_go;
}

-- the fault of a line is one of the table
pub line_fault : (targets : RuleLine → List (List ℕ)) (k : ℕ) (l : RuleLine) (left lines : List RuleLine) (table : TargetTable) (r : Bool) (these : List (List ℕ)) →
    ((name : List ℕ) → LinesGo targets k (l ∷ left) lines name (named_at table name)) → slice_get lines k ≡ Some l →
    r ≡ not (lacks_single l) → these ≡ targets l → (f : RuleFault) → IsAddFault k l.line r these table f → IsTableFault targets lines f
line_fault targets k l left lines table r these go at has are fault.OutOfMemory meets = tt
line_fault targets k l left lines table r these go at has are (fault.TwoRecipes name line) meets =
    let one = subst (λ (b : Bool). IsSecond k b these name (named_at table name)) has meets.1 in
    let two = subst (λ (ts : List (List ℕ)). IsSecond k (not (lacks_single l)) ts name (named_at table name)) are one in
    subst (λ (n : ℕ). HasTwoRecipes targets lines name n) (sym meets.0) (lines_go_second targets k l left lines name (named_at table name) (go name) at two)
line_fault targets k l left lines table r these go at has are _ meets = meets
