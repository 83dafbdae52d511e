use Rattle.jb_runner.proofs.slotted.run_in_memory.Goals as goal

pub returns-in_default : goal.returns-in_default
returns-in_default g c = c.no_memory.ensures c.args.conduct.now.form c.args.parts.now.graph.now

pub returns-in_default-memory_ends : goal.returns-in_default-memory_ends
returns-in_default-memory_ends g c = c.no_memory-in_default-memory_ends.ensures c.args.conduct.now.form c.args.parts.now.graph.now
