-- Known: what a state knows of a graph's targets.
pub mod Known
-- Judged: what bears out that a run answers 0.
pub mod Judged
-- Made: what a run leaves on its disk.
pub mod Made
-- Settled: a run in which no recipe is to be run.
pub mod Settled
-- InTurn: goals that are made in parts, one behind the other.
pub mod InTurn
