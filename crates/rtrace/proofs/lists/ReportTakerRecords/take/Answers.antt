use Rattle.std.proofs.Common.{true, arith}
use Rattle.csv.specs.Records.{fields_of}
use Rattle.rtrace_form.specs.Faults.{read_all}
use Rattle.rtrace_form.proofs.texts.Lists.{entries_few}
use Rattle.rtrace.specs.declared.collect.Collecting.{Collecting}
use Rattle.rtrace.specs.Collects.{KnowsAll}
use Rattle.rtrace_form.specs.SoFar.{SoFar}
use Rattle.rtrace.proofs.BoundSteps.{by_rows}
use Rattle.rtrace.proofs.Keeping.{keeps_all}
use Rattle.rtrace_read.proofs.Results.{same_err}
use Rattle.rtrace.proofs.lists.ReportTakerRecords.take.Goals as goal

pub take-requires : goal.take-requires
take-requires c =
    let few = entries_few true c.requires.0 in
    let small = c.requires.2 in
    (true, read_all true c.requires.0, c.requires.1.knows.knows, omega (arith, few, small))

pub keep-requires : goal.keep-requires
keep-requires c = (
  c.args.self.now.inner.reading,
  c.requires.0,
  fields_of c.args.fields.now,
  c.requires.1.bounds,
  record { knows = c.requires.1.knows.knows; takes = c.in_default.ensures.taken; tells = c.in_default.ensures.bound },
  c.requires.2,
)

pub returns-in-Err-clause-bad : goal.returns-in-Err-clause-bad
returns-in-Err-clause-bad c = λ cause is rows h. c.in-Err.ensures.bad cause (same_err is) true (read_all true rows) h.knows.knows

pub returns-clause-taken : goal.returns-clause-taken
returns-clause-taken c = λ rows h.
    let row = fields_of c.args.fields.now in
    let old = c.args.self.now.inner in
    let kept = keeps_all true old c.keep.new.self.inner c.take.new.reading (read_all true rows) row c.take.new.taken h.knows c.in_default.ensures.taken c.in-Ok.ensures.kept in (
      kept.0,
      record {
        knows = by_rows rows row (λ (t : Collecting) (s : SoFar). KnowsAll true t s) c.keep.new.self.inner kept.1;
        bounds = c.in-Ok.ensures.bounds old.reading rows row h.bounds (record { knows = h.knows.knows; takes = c.in_default.ensures.taken; tells = c.in_default.ensures.bound });
      },
    )
