-- Profile: what definitions ask of a profile.
pub mod Profile
