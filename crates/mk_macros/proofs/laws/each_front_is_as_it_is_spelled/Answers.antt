use Rattle.std.proofs.Common.{subst}
use Rattle.mk_profile.specs.Profile.{is_wide}
use Rattle.mk_macros.specs.Spelled.{SpellsFront}
use Rattle.mk_macros.proofs.SpelledLemmas.{front_said, front_back, named_said, use_computed}
use Rattle.mk_macros.proofs.laws.each_front_is_as_it_is_spelled.Goals as goal

pub returns : goal.returns
returns c = record {
  fronts = λ profile text f.
      ((λ e. subst (SpellsFront (is_wide profile) text) e (front_said (is_wide profile) text)), front_back (is_wide profile) text f);
  names = λ inner name use_of. (named_said inner name use_of, use_computed inner name use_of);
}
