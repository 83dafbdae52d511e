-- How many names a graph may hold.
use Rattle.std.specs.Prelude.{ℕ}
use Rattle.mk_profile.specs.declared.profile.Profile.{Profile}
use Rattle.mk_profile.specs.declared.profile.Profile.TheVariants.{Strict, Posix}
use Rattle.mk_rules.specs.declared.limit.TheConstants.{MAX_NODES, MAX_WIDE_NODES}

abbrev pub node_limit : Profile → ℕ
node_limit Strict = MAX_NODES
node_limit Posix = MAX_WIDE_NODES
