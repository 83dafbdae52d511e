use Rattle.jb_runner.proofs.served.run_as_server.Goals as goal

pub returns-in_default-clause-came : goal.returns-in_default-clause-came
returns-in_default-clause-came g c = c.no_memory.ensures c.args.conduct.now.form c.args.parts.now.graph.now

pub returns-in-Err-clause-came : goal.returns-in-Err-clause-came
returns-in-Err-clause-came g c = c.no_memory-in-Err.ensures c.args.conduct.now.form c.args.parts.now.graph.now
