-- Taken: which targets are taken as they are, and what is then recorded of them.
pub mod Taken
-- Trusted: what is left on a disk where targets are to be taken so.
pub mod Trusted
