-- Pattern: what patterns of file names are made of. Fits: which names fit them. Places: what functions tell that go through a name. Found: the
-- names of files that words of a rule line stand for.
pub mod Fits
pub mod Found
pub mod Pattern
pub mod Places
