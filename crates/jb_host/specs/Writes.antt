-- Where what lines write goes.
use Rattle.std.specs.Prelude.{◌≡◌, ◌⊎◌, IsTrue}
use Rattle.mk_recipe.specs.declared.line.Line.{Line}
use Rattle.jb_host.specs.declared.writes.Writes.{Writes}
use Rattle.jb_host.specs.declared.writes.Writes.TheVariants.{Through}

-- the line writes on dmk's own standard output and error: each line does, or this one may call make, so that nothing of what it writes
-- is held back (GNU make manual, "Output During Parallel Execution")
abbrev pub IsShared : Writes → Line → Type 0
IsShared writes line = (writes ≡ Through) ⊎ IsTrue line.is_always_run
