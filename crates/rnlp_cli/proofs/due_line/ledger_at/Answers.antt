use Rattle.std.proofs.Common.{Some, ap, ◌∙◌}
use Rattle.rtrace_replay.specs.Names.{names_read}
use Rattle.rnlp_cli.proofs.Dues.{ledger_line}
use Rattle.rnlp_cli.proofs.due_line.ledger_at.Goals as goal

pub returns : goal.returns
returns c =
    ap Some (
    c.of.ensures
    ∙ ledger_line (names_read c.args.reading.now) c.args.place c.args.ledger.now c.in_ok-line.line.items c.name_of.result.now c.extend_from_slice.new.self.items c.push_number.new.line.items
    c.push_number-2.new.line.items c.push.new.self.items c.in_ok-line.ensures.items c.name_of.ensures c.in_ok-extend_from_slice.ensures.items c.in_ok-push_number.ensures c.in_ok-push_number-2.ensures
    c.in_ok-push.ensures.items
    )
