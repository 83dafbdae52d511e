-- Cure: what helps.
pub mod Cure
-- Messages: what is said of faults and of soft edges.
pub mod Messages
-- Output: what went out.
pub mod Output
