-- How many recipes a run may have at once by MAKEFLAGS, in the wide profile (POSIX make, `-j`: one where nothing says how many; GNU Make
-- manual, "Communicating Options to a Sub-make" and "POSIX Jobserver Interaction").
use Rattle.std.specs.Prelude.{◌≡◌, ℕ, List, Option, is_some, min, max, true}
use Rattle.std.specs.Option.{option_map_or}
use Rattle.jb_auth.specs.Auth.{Authority, Says, absent, disabled, fifo, descriptors, unreadable}
use Rattle.jb_flags.specs.Words.{Reads}
use Rattle.jb_flags.specs.Jobs.{jobs_of}
use Rattle.jb_flags.specs.declared.jobs.Jobs.{Jobs}
use Rattle.jb_flags.specs.declared.jobs.Jobs.TheVariants.{Processors, UpTo}
use Rattle.jb_flags.specs.declared.workers.Above.{Above}

-- a number as a run may have it: at least one, and no more than it can have
abbrev pub within : (most n : ℕ) → ℕ
within most n = max 1 (min n most)

-- how many are asked for, where there are so many processors
abbrev pub count_of : (most processors : ℕ) → Jobs → ℕ
count_of most processors Processors = within most processors
count_of most processors (UpTo n) = within most n

-- how many the makes above leave to this one. Under a pool that they share it is their number, or where they say none as many as there
-- are processors, since the pool bounds them. Where there is no jobserver it is their number, or one; and one where there is a
-- jobserver that isn't for this make or can't be used
abbrev pub workers_above : Authority → (asked : Option Jobs) → (processors most : ℕ) → ℕ
workers_above (fifo path) asked processors most = option_map_or (count_of most processors) asked (within most processors)
workers_above absent asked processors most = option_map_or (count_of most processors) asked 1
workers_above disabled asked processors most = 1
workers_above descriptors asked processors most = 1
workers_above unreadable asked processors most = 1

-- this is what MAKEFLAGS says
abbrev pub SaysAbove : (makeflags : List ℕ) → (processors most : ℕ) → Above → Type 0
SaysAbove makeflags processors most above =
    (authority : Authority) × Says makeflags authority × ((words : List (List ℕ)) × Reads makeflags words
    × (above.workers ≡ workers_above authority (jobs_of true words) processors most) × (above.is_said ≡ is_some (jobs_of true words)))
