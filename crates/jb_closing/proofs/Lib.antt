pub mod AgreementLemmas
pub mod ClosingLemmas
pub mod LastLemmas
pub mod ListLemmas
