mod JudgingLemmas
mod BuildingLemmas
mod DriverLemmas
mod InTurnLemmas
