-- the disk in memory: the calls that it keeps, and what they lead to
pub mod Memory
-- what clauses see of it, and when it has room
pub mod MemDisk
-- that what it holds is a crash image
pub mod MemoryImage
-- what a power cut of it leaves, among all that it may leave
pub mod PowerCut
-- the one pass over its calls that such a cut makes
pub mod Replay
