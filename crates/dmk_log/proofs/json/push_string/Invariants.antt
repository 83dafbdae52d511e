use Rattle.std.proofs.Common.{◌≡◌, ◌++◌, codes, drop}
use Rattle.std.specs.List.{flat_map}
use Rattle.dmk_log.specs.Json.{escaped}
use Rattle.dmk_log.proofs.json.push_string.Given as goal

-- what was written, and what stands for the bytes that are left
abbrev pub invariant-loop-byte : goal.invariant-loop-byte
invariant-loop-byte l = l.text.items ++ flat_map escaped (drop l.byte-index l.string)
    ≡ l.fn.text.items ++ (codes "\"" ++ flat_map escaped l.string)
