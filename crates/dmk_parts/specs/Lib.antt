-- Behind: what a part makes behind others.
pub mod Behind
-- Tried: what a part tried.
pub mod Tried
-- Parts: goals in parts, and when more is made behind one.
pub mod Parts
-- Planned: what a run is planned by.
pub mod Planned
