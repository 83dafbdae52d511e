-- Lines that have no order-only prerequisites.
use Rattle.std.proofs.Common.{◌≡◌, ℕ, false, List, [], ◌∷◌, ◌++◌, sym, ap, ◌∙◌}
use Rattle.std.specs.List.{flat_map, list_any}
use Rattle.mk_rule_lines.specs.Explicit.{is_bar, order_only_in, without_waits}
use Rattle.mk_rule_lines.specs.declared.rule_line.RuleLine.{RuleLine}
use Rattle.mk_rule_lines.proofs.BarLemmas.{none_behind}
use Rattle.mk_rule_lines.proofs.ExplicitLemmas.{names_at}

pub none_in : (l : RuleLine) → list_any (is_bar l.profile) l.prerequisites ≡ false → order_only_in l ≡ []
none_in l no_bar = ap without_waits (none_behind l.profile l.prerequisites no_bar)

-- a line that has none is passed
pub none_passed : (lines : List RuleLine) (k : ℕ) (more : List ℕ) (whole : List (List ℕ)) → names_at order_only_in lines k ≡ [] →
    flat_map (names_at order_only_in lines) (k ∷ more) ≡ whole → flat_map (names_at order_only_in lines) more ≡ whole
none_passed lines k more whole none is = sym (ap (λ ns. ns ++ flat_map (names_at order_only_in lines) more) none) ∙ is
