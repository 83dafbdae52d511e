use Rattle.std.proofs.Common.{◌≡◌, ◌+◌, ◌-◌, ◌≤◌, length, drop, option_map}
use Rattle.mk_pieces.specs.Brackets.{place_from}
use Rattle.mk_pieces.proofs.brackets.Brackets.place_outside.Given as goal

abbrev pub invariant-loop-at : goal.invariant-loop-at
invariant-loop-at l = record {
  within : l.at ≤ length l.text;
  deep : l.depth ≤ l.at;
  found : place_from l.wanted l.self.opening l.self.close 0 l.text ≡ option_map (λ i. i + l.at) (place_from l.wanted l.self.opening l.self.close l.depth (drop l.at l.text));
}

abbrev pub decreases-loop-at : goal.decreases-loop-at
decreases-loop-at l = length l.text - l.at
