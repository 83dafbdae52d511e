-- The number that a short number keeps.
use Rattle.std.specs.Prelude.{ℕ, ◌==◌, Option, Some, None, if◌then◌else◌}

abbrev pub number_kept : (kept : ℕ) → Option ℕ
number_kept kept = if kept == 4294967295 then None else Some kept
