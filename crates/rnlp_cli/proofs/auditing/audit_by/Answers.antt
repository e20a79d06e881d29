use Rattle.std.proofs.Common.{◌≡◌, Some, Err, refl, sym, ap, subst, ◌∙◌}
use Rattle.std.specs.Prelude.{IfSome, option_map, string_bytes}
use Rattle.rtrace_form.specs.declared.fault.Code.TheVariants.{WrongChange, WrongLedger, WrongBound}
use Rattle.rtrace_replay.specs.Names.{names_read}
use Rattle.rnlp_cli.specs.Outputs.{audit_text, report_limit}
use Rattle.rnlp_cli.specs.Due.{IsDueFor, first_due_text}
use Rattle.rnlp_cli.specs.Told.{told_due, told_fault}
use Rattle.rnlp_cli.proofs.Outcomes.{told, written}
use Rattle.rnlp_cli.proofs.Streams.{stream_read, stream_within}
use Rattle.rnlp_cli.proofs.Tellings.{written_tells, trace_told}
use Rattle.rnlp_cli.proofs.ToolAnswers.{answered, unread}
use Rattle.rnlp_cli.specs.declared.command.Command.TheVariants.{Audit}
use Rattle.rnlp_cli.specs.declared.status.ToolStatus.TheVariants as status
use Rattle.rnlp_cli.proofs.FirstDue.{change_made, ledger_made}
use Rattle.rnlp_cli.proofs.ToldDue.{due_at, due_told, fault_told}
use Rattle.rnlp_cli.proofs.auditing.audit_by.Goals as goal

clash : ◌≡◌ WrongBound WrongChange → ⊥
clash e = cc

clash_ledger : ◌≡◌ WrongBound WrongLedger → ⊥
clash_ledger e = cc

pub returns-in-Ok-clause-answer : goal.returns-in-Ok-clause-answer
returns-in-Ok-clause-answer g c = λ watchers.
    let found = c.in-Ok.ensures.right in
    let within = c.in-Ok.ensures.within (λ e. cc) in
    answered g.S.Source.left g.S.Source.faults g.K.Sink.written g.K.Sink.faults watchers (Some Audit) Audit c.args.source.now c.count_stream.new.source c.args.sink.now c.tell.new.sink found.0 c.tell.result refl
    (stream_read g.S.Source.left g.S.Source.faults c.args.source.now c.count_stream.new.source found.0 found.1 within (c.in-Ok.ensures.quiet (λ e. cc)))
    (written watchers (Some Audit) found.0 _ _ _ _ _ _ c.tell.result (found.2.report, found.2.spelled, λ i. audit_text (found.2.events i) (found.2.waits i)) c.tell.ensures)

pub returns-in-Ok-expected-clause-answer : goal.returns-in-Ok-expected-clause-answer
returns-in-Ok-expected-clause-answer g c = λ watchers.
    let fault = c.in-Err-Bad.fault in
    let found = c.in-Err-Bad.ensures.bad fault (ap Err c.in-Err-Bad.field-0-is) in
    answered g.S.Source.left g.S.Source.faults g.K.Sink.written g.K.Sink.faults watchers (Some Audit) Audit c.args.source.now c.count_stream.new.source c.args.sink.now c.refuse.new.sink found.0 c.refuse.result refl
    (stream_read g.S.Source.left g.S.Source.faults c.args.source.now c.count_stream.new.source found.0 found.1 (c.in-Err-Bad.ensures.within (λ e. cc)) (c.in-Err-Bad.ensures.quiet (λ e. cc)))
    (told watchers (Some Audit) found.0 _ _ _ _ _ _ _ c.refuse.result refl (fault, found.2, refl) c.refuse.ensures.written)

pub returns-in-Err-TooLong-clause-answer : goal.returns-in-Err-TooLong-clause-answer
returns-in-Err-TooLong-clause-answer g c = λ watchers.
    let is = c.in-Err-TooLong.field-0-is in
    unread g.S.Source.left g.S.Source.faults g.K.Sink.written g.K.Sink.faults watchers (Some Audit) Audit c.args.source.now c.count_stream.new.source c.args.sink.now status.TooLong refl
    (report_limit, refl, c.in-Err-TooLong.ensures.too_long (ap Err is), c.in-Err-TooLong.ensures.quiet (λ e. cc))

pub returns-in-Err-ReadFault-clause-answer : goal.returns-in-Err-ReadFault-clause-answer
returns-in-Err-ReadFault-clause-answer g c = λ watchers.
    unread g.S.Source.left g.S.Source.faults g.K.Sink.written g.K.Sink.faults watchers (Some Audit) Audit c.args.source.now c.count_stream.new.source c.args.sink.now status.ReadFault refl (
      stream_within g.S.Source.left g.S.Source.faults c.args.source.now c.count_stream.new.source (c.in-Err-ReadFault.ensures.within (λ e. cc)),
      refl,
      c.in-Err-ReadFault.ensures.fault (ap Err c.in-Err-ReadFault.field-0-is),
    )

pub returns-in-Err-Memory-clause-answer : goal.returns-in-Err-Memory-clause-answer
returns-in-Err-Memory-clause-answer g c = λ watchers.
    unread g.S.Source.left g.S.Source.faults g.K.Sink.written g.K.Sink.faults watchers (Some Audit) Audit c.args.source.now c.count_stream.new.source c.args.sink.now status.NoMemory refl
    (stream_within g.S.Source.left g.S.Source.faults c.args.source.now c.count_stream.new.source (c.in-Err-Memory.ensures.within (λ e. cc)), c.in-Err-Memory.ensures.quiet (λ e. cc))

pub returns-in-Ok-clause-told : goal.returns-in-Ok-clause-told
returns-in-Ok-clause-told g c = λ watchers.
    written_tells _ _ _ _ _ _ c.args.told.now (Some Audit) (g.S.Source.left c.args.source.now) c.args.told.now c.args.told.now c.tell.result refl (λ same. refl) c.tell.ensures

pub returns-in-Ok-expected-clause-told : goal.returns-in-Ok-expected-clause-told
returns-in-Ok-expected-clause-told g c = λ watchers.
    let fault = c.in-Err-Bad.fault in
    let is = ap Err c.in-Err-Bad.field-0-is in
    let left = g.S.Source.left c.args.source.now in
    let later = g.S.Source.left c.count_stream.new.source in
    let counting = c.count_stream.new.counting in
    let found = c.in-Err-Bad.ensures.bad fault is in
    let made = c.in-Ok-expected.ensures in
    let line = option_map string_bytes c.in-Ok-expected.due in
    let nothing = ap (option_map string_bytes) in
    let due = due_told left later fault line
    (λ e.
    let stands = c.in-Err-Bad.ensures.still fault is (λ f. clash (sym f ∙ e)) in (
      stands.0,
      stands.1,
      due_at stands.0 fault counting line stands.2 (λ was s knows still.
          subst (λ code. first_due_text (names_read counting.reading) s code ≡ line) (sym e)
          (change_made was counting.reading s knows still line (λ p before last follows events low. made.change p before last follows events e low) (λ p follows none low. made.begun p follows none e low)
          (λ none. nothing (made.unbegun none e)) (λ past. nothing (made.behind e past)))),
    ))
    (λ e.
    let stands = c.in-Err-Bad.ensures.still fault is (λ f. clash_ledger (sym f ∙ e)) in (
      stands.0,
      stands.1,
      due_at stands.0 fault counting line stands.2 (λ was s knows still.
          subst (λ code. first_due_text (names_read counting.reading) s code ≡ line) (sym e)
          (ledger_made was counting.reading s knows still line (made.ledger e) (λ past. nothing (made.ended e past)))),
    ))
    (λ change ledger. nothing (made.other change ledger)) in
    trace_told _ _ _ _ _ _ c.args.told.now (Some Audit) left c.args.told.now c.refuse.new.told c.refuse.result c.refuse.ensures.written
    (λ e. fault_told left later found.0 fault c.refuse.new.told found.1 found.2 (ap told_fault (c.refuse.ensures.noted e))
    (subst (λ t. IfSome left (λ all. IsDueFor fault.code all fault (told_due t))) (sym (c.refuse.ensures.noted e)) due))
    c.refuse.ensures.kept
