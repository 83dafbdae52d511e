-- Told and Verdict are the model.
-- Marks: whether a file is the one that is recorded.
pub mod Marks
-- Tests: what the private functions compute, by one test after the other.
pub mod Tests
-- Told: a reason in a user's words.
pub mod Told
-- Verdict: why a target is out of date.
pub mod Verdict
-- ByTimes: why it is where no marks are kept.
pub mod ByTimes
-- MadeOf: what a target that is up to date was made of.
pub mod MadeOf
