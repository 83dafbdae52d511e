pub mod Folders
pub mod Shell
pub mod Syncs
pub mod Writes
