-- Where a marked node is. Own.
use Rattle.std.specs.Prelude.{ℕ, nat_lt, List, slice_index_or, if◌then◌else◌}
use Rattle.bd_links.specs.declared.mark.Mark.{Mark}
use Rattle.bd_links.specs.declared.stand.Stand.{Stand}
use Rattle.bd_links.specs.declared.stand.Stand.TheVariants.{Waiting, Ready, Running, Unflushed, Flushing, Settled}

-- the list of a node that was put into one after `before` joins, once there were `joins`
abbrev pub stand_after : (joins : ℕ) → Stand → (before : ℕ) → Stand
stand_after joins Waiting before = Waiting
stand_after joins Ready before = Ready
stand_after joins Running before = Running
stand_after joins Unflushed before = if nat_lt before joins then Flushing else Unflushed
stand_after joins Flushing before = Flushing
stand_after joins Settled before = Settled

abbrev pub stand_now : (joins : ℕ) → Mark → Stand
stand_now joins mark = stand_after joins mark.stand mark.joins

abbrev pub mark_at : List Mark → ℕ → Mark
mark_at marks n = slice_index_or marks n (record { stand = Waiting; joins = 0 })
