use Rattle.std.proofs.Common.{◌≡◌, ◌+◌, length, option_map}
use Rattle.mk_lines.specs.References.{first_outside}
use Rattle.mk_lines.specs.Quoted.{seen_from, without_quoted}
use Rattle.mk_lines.specs.declared.reference.Place.TheVariants.{Outside}
use Rattle.mk_lines.proofs.quoted.first_seen.Given as goal

abbrev pub invariant-loop-byte : goal.invariant-loop-byte
invariant-loop-byte l = record {
  within : l.at + length l.rest ≡ length l.bytes;
  found : first_outside l.one l.other Outside (without_quoted l.bytes) ≡ option_map (λ i. i + l.at) (first_outside l.one l.other l.place (seen_from l.is_quoted l.rest));
}

abbrev pub decreases-loop-byte : goal.decreases-loop-byte
decreases-loop-byte l = length l.rest
