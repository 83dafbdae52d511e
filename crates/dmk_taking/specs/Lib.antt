-- Left: what is left on a disk where targets were taken over as other levels know them.
pub mod Left
