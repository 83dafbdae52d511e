-- Where the job slots of a run come from (GNU Make manual, "Sharing Job Slots with GNU make"; that dmk takes no descriptors is
-- our own).
use Rattle.std.specs.Prelude.{◌≡◌, ℕ, ◌<◌, ◌≤◌, Bool, not, List, ◌++◌, codes, decimal}
use Rattle.std.specs.List.{list_any}
use Rattle.byte_strings.specs.Blanks.{is_blank}
use Rattle.jb_auth.specs.Auth.{Authority, absent, disabled, fifo, descriptors, unreadable}
use Rattle.jb_runner.specs.declared.serving.Source.{Source}
use Rattle.jb_runner.specs.declared.serving.Source.TheVariants.{Client, Server, Alone, Unused}

-- dmk is the client of a FIFO that is named; where no jobserver is meant for it, the server of one, if there is more than one
-- worker; else it has the implicit slot alone
abbrev pub ComesFrom : Authority → (workers : ℕ) → Source → Type 0
ComesFrom (fifo path) workers (Client p) = p.now ≡ path
ComesFrom absent workers Server = 1 < workers
ComesFrom disabled workers Server = 1 < workers
ComesFrom absent workers Alone = workers ≤ 1
ComesFrom disabled workers Alone = workers ≤ 1
ComesFrom descriptors workers Unused = Unit {0}
ComesFrom unreadable workers Unused = Unit {0}
ComesFrom authority workers source = ⊥

-- the path can be one word of MAKEFLAGS
abbrev pub is_one_word : (path : List ℕ) → Bool
is_one_word path = not (list_any is_blank path)

-- what children are told of a pool that dmk serves
abbrev pub served_flags : (workers : ℕ) → (path : List ℕ) → List ℕ
served_flags workers path = codes " -j" ++ (decimal workers ++ (codes " --jobserver-auth=fifo:" ++ path))
