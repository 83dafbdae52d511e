-- What is still to be done of each node, counted in moves. Own.
use Rattle.std.specs.Prelude.{ℕ, ◌+◌, ◌*◌, sum_by}
use Rattle.bd_links.specs.declared.stand.Stand.{Stand}
use Rattle.bd_links.specs.declared.stand.Stand.TheVariants.{Waiting, Ready, Running, Unflushed, Flushing, Settled}
use Rattle.bd_links.specs.SixLists.{list_in}
use Rattle.bd_ledger.specs.declared.sent.Sent.{Sent}
use Rattle.bd_ledger.specs.declared.sent.Sent.TheVariants as sent
use Rattle.bd_ledger.specs.Sheet.{Sheet, sent_by}

-- how many records a node that has submitted so much has yet to submit: its 'begun', and its end
abbrev pub records_left : Sent → ℕ
records_left sent.Nothing = 2
records_left (sent.Begun ticket) = 1
records_left (sent.End ticket) = 0

-- how many moves a node of this list has before it at most. Each record takes three: it is submitted, drained, and gone on with; and
-- a node that wasn't claimed is to be claimed. That a node comes from Waiting to Ready is no move of its own
abbrev pub moves_left : Stand → Sent → ℕ
moves_left Waiting past = 1 + 3 * records_left past
moves_left Ready past = 1 + 3 * records_left past
moves_left Running past = 3 * records_left past
moves_left Unflushed past = 2 + 3 * records_left past
moves_left Flushing past = 1 + 3 * records_left past
moves_left Settled past = 0

-- of all nodes of a list
abbrev pub left_in : Sheet → Stand → ℕ
left_in b stand = sum_by (λ n. moves_left stand (sent_by b n)) (list_in b.standing.lists stand)

-- of all nodes
abbrev pub left_on : Sheet → ℕ
left_on b = left_in b Waiting + left_in b Ready + left_in b Running + left_in b Unflushed + left_in b Flushing + left_in b Settled
