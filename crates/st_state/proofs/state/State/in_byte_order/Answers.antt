use Rattle.std.proofs.Common.{◌∙◌, ap}
use Rattle.std.specs.FinMap as map
use Rattle.st_state.proofs.state.State.in_byte_order.Goals as goal

pub returns : goal.returns
returns c = c.new.ensures ∙ c.in_ok-order.ensures.sorted ∙ ap map.entries c.self.view_is
