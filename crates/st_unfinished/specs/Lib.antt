-- what is left of an entry
pub mod Unfinished
