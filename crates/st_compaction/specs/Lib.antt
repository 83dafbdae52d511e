-- what a side that was compacted holds, and what the two sides hold until it counts
pub mod Compacted
-- names with their entries, as records
pub mod Named
