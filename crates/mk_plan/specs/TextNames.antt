-- Names that are UTF-8, as `mk_seen` has them.
pub use Rattle.mk_seen.specs.TextNames.{HasTextNames}
