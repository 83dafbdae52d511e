mod Items
mod PackedLemmas
mod Texts
mod TargetLemmas
