pub mod Ledger
pub mod Sheet
