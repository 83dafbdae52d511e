use Rattle.std.proofs.Common.{◌≡◌, [], ◌++◌, codes, map}
use Rattle.dmk_log.specs.Json.{shown, items_behind}
use Rattle.dmk_log.proofs.json.Line.push_each_shown.Given as goal

-- what was written, and the items that are left
abbrev pub invariant-loop-name : goal.invariant-loop-name
invariant-loop-name l = l.self.text.items ++ items_behind l.before (map shown l.name-iterator)
    ≡ l.fn.self.text.items ++ (codes "[" ++ items_behind [] (map shown l.names))
