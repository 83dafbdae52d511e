use Rattle.std.proofs.Common.{◌≡◌, ◌++◌, drop}
use Rattle.st_answers.specs.Users.{user_rows}
use Rattle.st_answers.proofs.of_names.append_users.Given as goal

abbrev pub invariant-loop-place : goal.invariant-loop-place
invariant-loop-place l = l.text.items ++ user_rows l.name (drop l.place l.named) ≡ l.fn.text.items ++ user_rows l.fn.name l.fn.named
