mod ExportLemmas
pub mod LawLemmas
mod TableLemmas
