-- Short: names without a `./` in front.
pub mod Short
