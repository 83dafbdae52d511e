-- Opened: what a power cut may leave while a store is opened.
pub mod Opened
