-- Variables: what names stand for. Scope: where a text is expanded. Outcome: what a text comes to. Values: what functions are of their values.
-- Steps: what each piece of a text asks for. Expansion: what a text comes to, as a relation. Shown: states and steps as the code has them.
-- Waiting: texts that wait for others, and what they make of their outcomes.
pub mod Expansion
pub mod Outcome
pub mod Scope
pub mod Shown
pub mod Steps
pub mod Values
pub mod Variables
pub mod Waiting
