use Rattle.jb_runner.proofs.slotted.run_over_pool.Goals as goal

pub returns-in-Err : goal.returns-in-Err
returns-in-Err g c = c.no_memory.ensures c.args.conduct.now.form c.args.parts.now.graph.now
