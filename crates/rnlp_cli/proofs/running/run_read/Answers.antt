use Rattle.rnlp_cli.proofs.running.run_read.Goals as goal

pub returns-in-Report-clause-run : goal.returns-in-Report-clause-run
returns-in-Report-clause-run g c = rw c.in-Report.is (c.run_reported.ensures.run (g.A.Audience.all c.args.audience.now))

pub returns-in-Watch-clause-run : goal.returns-in-Watch-clause-run
returns-in-Watch-clause-run g c = rw c.in-Watch.is (c.run_looked_at.ensures.run (g.A.Audience.all c.args.audience.now))
