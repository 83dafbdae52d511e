-- which commit wrote a submission
pub mod Batches
-- tickets that count up
pub mod Turns
-- how a refusal is told
pub mod Faults
-- a store, whatever its type
pub mod Parts
-- the value behind the site lock
pub mod Site
-- a site, whatever the type of its store
pub mod Over
-- when a site's store is compacted, and what that leaves
pub mod Tidying
-- what a flush does
pub mod Flushing
