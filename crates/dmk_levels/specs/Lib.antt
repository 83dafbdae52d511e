-- Known: which targets are taken over, and by which records.
pub mod Known
