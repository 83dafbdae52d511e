-- for layers above: what one call of an honest disk does to what holds of each image
pub mod DeviceCalls
-- for layers above: how what holds at every moment goes on
pub mod MomentLaws
-- for layers above: what follows from the definition of an image
pub mod CrashLaws
-- for layers above: what one write leaves of a settled side
pub mod TornLaws
