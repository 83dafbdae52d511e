pub mod Loops
mod MarkLemmas
mod WhyLemmas
pub mod UserLemmas
pub mod CompiledLemmas
pub mod ReachedLemmas
pub mod TimesLemmas
