-- how long recipes took
pub mod Spans
-- recipes that ran beside each other
pub mod Lanes
-- what a build waited for
pub mod Critical
-- the greatest sums of paths, recipe by recipe
pub mod Reached
