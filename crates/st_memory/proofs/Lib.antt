-- bytes written over others
pub mod OverwrittenLaws
-- of the disk in memory: one call more
pub mod MemoryLaws
-- of the disk in memory: what a power cut leaves is an image
pub mod PowerCutLaws
-- of the disk in memory: one call of its replay
mod ReplayLemmas
