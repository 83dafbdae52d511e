use Rattle.std.proofs.Common.{◌≡◌, length, ◌++◌}
use Rattle.std.specs.Process.{command_program, command_args}
use Rattle.byte_strings.specs.Blanks.{words}
use Rattle.jb_host.proofs.shell.add_words.Given as goal

abbrev pub decreases-loop-word : goal.decreases-loop-word
decreases-loop-word l = length l.rest

abbrev pub invariant-loop-word : goal.invariant-loop-word
invariant-loop-word l = record {
  program : command_program l.command ≡ command_program l.fn.command;
  args : command_args l.command ++ words l.rest ≡ command_args l.fn.command ++ words l.fn.text;
}
