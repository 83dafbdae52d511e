pub mod PartsLaws
pub mod RequiredLemmas
pub mod RowLaws
pub mod RowsLemmas
pub mod WaitLemmas
