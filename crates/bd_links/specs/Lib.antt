pub mod Linked
pub mod Links
pub mod Mark
pub mod Ring
pub mod SixLists
