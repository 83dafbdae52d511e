-- Interleavings is the promise; what it says stands in Prefix, OutOfDate and OneBatch, over World, Event and Run.

-- begun, done, failed or kept
pub mod Kind
-- what has happened so far
pub mod World
-- one step of any worker, and what comes of it
pub mod Event
-- a list of steps
pub mod Run
-- a submission whose receipt was given
pub mod Acknowledged
-- recovery gives a prefix
pub mod Prefix
-- what was started and isn't done is out of date
pub mod OutOfDate
-- a receipt names one batch
pub mod OneBatch
-- the promise, over every list of steps
pub mod Interleavings
-- that a site's methods are steps
pub mod Steps
-- that a board's calls, and what is done with its clearances, are steps
pub mod Boards
-- what others do meanwhile
pub mod Others
-- runs that there are
pub mod Examples
