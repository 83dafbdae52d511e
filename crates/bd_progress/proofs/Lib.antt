pub mod KnotLemmas
pub mod WaitLemmas
pub mod LeftLemmas
pub mod HoldLemmas
pub mod FallLemmas
pub mod StuckLemmas
pub mod OrderLemmas
pub mod CallLemmas
