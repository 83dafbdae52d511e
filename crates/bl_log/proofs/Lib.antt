pub mod SpanLemmas
pub mod LaneLemmas
pub mod CriticalLemmas
