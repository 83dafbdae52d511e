-- What a run is planned by. Own.
use Rattle.std.specs.Prelude.{unwrap_or}
use Rattle.st_state.specs.State.{StateMap}
use Rattle.dmk_parts.specs.declared.planning.Plan.{Plan}

-- what is recorded: what the graph has forgotten, or else what it keeps
abbrev pub recorded_in : Plan → StateMap
recorded_in plan = unwrap_or plan.forgotten plan.graph.state
