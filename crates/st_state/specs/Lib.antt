-- what is known of each target, and what a record makes of it
pub mod State
-- which states can be written anew
pub mod Keepable
-- a batch that stands by: the state before it, and its records
pub mod Staged
-- ranks of names, by which a listing is sorted
pub mod Ranks
-- how the names of a state begin and end
pub mod Ends
-- names with their entries, by their places
pub mod Listed
