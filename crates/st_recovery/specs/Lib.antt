-- Recovers is the whole model: what comes of a pair, and which side counts.

-- the state that two sides recover, or their one fault
pub mod Recovers
-- a store, and what every pair of crash images recovers
pub mod Stored
