mod OfferedLemmas
mod PickedLemmas
