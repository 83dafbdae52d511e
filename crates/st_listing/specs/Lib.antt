-- Listing is the model; Writing only says what a fault means and leaves.

-- which states are listed
pub mod Read
-- the text that is listed of a state
pub mod Listing
-- the faults of a listing, and what each leaves in the writer
pub mod Writing
