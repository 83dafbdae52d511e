-- Line, Outcome and Report are the model.
-- Line: the parts of a recipe line, and which lines the state keeps.
pub mod Line
-- Outcome: what a recipe came to.
pub mod Outcome
-- Reading: a report read name by name, as the private functions do.
pub mod Reading
-- Report: what a report says of a target.
pub mod Report
-- Tests: what the private functions compute, by one test after the other.
pub mod Tests
