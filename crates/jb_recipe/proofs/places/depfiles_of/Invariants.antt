use Rattle.std.proofs.Common.{◌≡◌, ◌++◌, map}
use Rattle.mk_depfiles.specs.Place.{depfile_of}
use Rattle.jb_recipe.proofs.places.depfiles_of.Given as goal

-- the files so far, and those of the patterns that are left
abbrev pub invariant-loop-pattern : goal.invariant-loop-pattern
invariant-loop-pattern l =
    l.paths ++ map (λ pattern. depfile_of pattern l.target) l.pattern-iterator ≡ map (λ pattern. depfile_of pattern l.target) l.patterns
