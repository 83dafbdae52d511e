-- The bytes that may mean something of their own in a text of a rule line.
use Rattle.std.specs.Prelude.{ℕ, Bool, ◌||◌, ◌==◌}

-- `$`, `%`, `(`, `+` or `|`: a text without them is its own expansion, nothing in it is refused, it has no pattern and no bar
abbrev pub is_sign : ℕ → Bool
is_sign b = (b == 36) || ((b == 37) || ((b == 40) || ((b == 43) || (b == 124))))
