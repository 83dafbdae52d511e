-- what is told of each side
pub mod Which
-- the model: what a power cut may leave of two sides
pub mod Crash
-- the model: the moments of a disk, and what holds at each of them
pub mod Moments
-- the model: how faults are counted
pub mod Faults
-- the disk over files: what a system call leaves of a folder's facts
pub mod Folder
-- what the disk knows of a side's file
pub mod OpenSide
-- what clauses see of the system's folder
pub mod SystemFolder
-- the assumption that stands for the system
pub mod SystemModel
-- which errors refuse to write a file
pub mod Refusal
