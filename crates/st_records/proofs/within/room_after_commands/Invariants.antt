use Rattle.std.proofs.Common.{◌≡◌, ◌+◌, nat_lt, length}
use Rattle.std.specs.List.{list_any, flat_map}
use Rattle.st_records.specs.declared.limits.TheConstants.{MAX_COMMAND_BYTES}
use Rattle.st_records.specs.Encoding.{string}
use Rattle.st_records.specs.Tests.{has_byte}
use Rattle.st_records.proofs.within.room_after_commands.Given as goal

-- what is left, and what was taken for the commands before, is the room that there was; a command that fails stands among
-- those that are left
abbrev pub invariant-loop-command : goal.invariant-loop-command
invariant-loop-command l = record {
  room : l.left + length (flat_map string l.fn.commands) ≡ l.fn.room + length (flat_map string l.command-iterator);
  bad : list_any (λ command. has_byte 0 command) l.fn.commands ≡ list_any (λ command. has_byte 0 command) l.command-iterator;
  long : list_any (λ command. nat_lt MAX_COMMAND_BYTES (length command)) l.fn.commands
      ≡ list_any (λ command. nat_lt MAX_COMMAND_BYTES (length command)) l.command-iterator;
}
