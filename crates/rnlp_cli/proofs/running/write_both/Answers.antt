use Rattle.rrun.specs.Report.{told_by}
use Rattle.rtrace_form.specs.Texts.{report_text}
use Rattle.rtrace_write.proofs.Writing.{prefix_before}
use Rattle.rnlp_cli.proofs.Outcomes.{written_both}
use Rattle.rnlp_cli.proofs.running.write_both.Goals as goal

pub returns-in-Ok : goal.returns-in-Ok
returns-in-Ok g c =
    written_both (report_text (told_by c.args.report.now)) c.args.rest.now (g.K.Sink.written c.args.sink.now) (g.K.Sink.written c.write_report.new.sink) (g.K.Sink.written c.write_output.new.sink)
    (g.K.Sink.faults c.args.sink.now) (g.K.Sink.faults c.write_report.new.sink) (g.K.Sink.faults c.write_output.new.sink) _ c.write_output.result c.in-Ok.ensures.whole c.in-Ok.ensures.quiet c.write_output.ensures
