-- Offered: what other levels know of a target whose recipe no state has as begun or failed.
pub mod Offered
-- Picked: the targets of a graph that such an entry is offered of, and the records with which they are taken over.
pub mod Picked
-- Told: what is told of targets that are taken over.
pub mod Told
