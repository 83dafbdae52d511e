use Rattle.std.proofs.Common.{◌≡◌, ◌<◌, ◌≤◌, ℕ, Bool, Some, length, slice_get}
use Rattle.std.specs.Prelude.{option_map}
use Rattle.dmk_parts.specs.Behind.{cleared_where}
use Rattle.dmk_parts.proofs.clearing.clear_recipes.Given as goal

-- those so far are cleared where they are marked, the others are as they were
abbrev pub invariant-loop-number : goal.invariant-loop-number
invariant-loop-number l = record {
  count : length l.nodes.items ≡ length l.initial.nodes.items;
  cleared : (n : ℕ) (mark : Bool) → n < l.number → slice_get l.marks n ≡ Some mark →
      slice_get l.nodes.items n ≡ option_map (cleared_where mark) (slice_get l.initial.nodes.items n);
  left : (n : ℕ) → l.number ≤ n → slice_get l.nodes.items n ≡ slice_get l.initial.nodes.items n;
}
