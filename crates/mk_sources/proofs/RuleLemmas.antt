-- What the table of targets says of a name, in terms of the lines.
use Rattle.std.proofs.Common.{◌≡◌, ◌+◌, ℕ, Bool, true, false, not, List, [], ◌∷◌, refl}
use Rattle.std.specs.List.{list_any}
use Rattle.mk_lines.specs.Text.{is_empty}
use Rattle.mk_rule_lines.specs.Rules.{places}
use Rattle.mk_rule_lines.specs.declared.rule_line.RuleLine.{RuleLine}

module _ (passes : RuleLine → Bool) where
  any_at : (k : ℕ) (l : RuleLine) (lines : List RuleLine) (t : Bool) → passes l ≡ t → not (is_empty (places passes (k + 1) lines)) ≡ list_any passes lines →
      not (is_empty (places passes k (l ∷ lines))) ≡ list_any passes (l ∷ lines)
  any_at k l lines true e more = simp (e, e) refl
  any_at k l lines false e more = simp (e, e) more

  -- there is a number of a line that passes where some line does
  pub any_place : (k : ℕ) (lines : List RuleLine) → not (is_empty (places passes k lines)) ≡ list_any passes lines
  any_place k [] = refl
  any_place k (l ∷ lines) = any_at k l lines (passes l) refl (any_place (k + 1) lines)
