use Rattle.std.proofs.Common.{◌+◌, true, refl, ap, ◌∙◌}
use Rattle.rtrace_form.specs.Faults.{read_all}
use Rattle.rtrace_read.specs.Knows.{past_in}
use Rattle.rtrace_read.specs.Takes.{bound_of}
use Rattle.rtrace.proofs.Results.{on_ok}
use Rattle.rtrace.proofs.ToldSteps.{bounds_same, event_accepted, event_tasks, bounds_event, wait_ended, wait_below, bounds_wait, tells_event, no_event}
use Rattle.rtrace.proofs.bounds.BoundsKept.take.Goals as goal

pub happen-requires : goal.happen-requires
happen-requires c =
    let old = c.requires.0 in
    let rows = c.requires.1 in
    let row = c.requires.2 in
    let h = c.requires.3 in
    let read = c.requires.4 in (
      past_in (read_all true rows),
      h.items,
      h.told,
      event_accepted old c.args.reading.now rows row c.args.taken.now read c.args.self.now h c.in-Event.event c.in-Event.is,
      c.len.ensures.value ∙ event_tasks old c.args.reading.now rows row c.args.taken.now read c.args.self.now h c.in-Event.event c.in-Event.is,
    )

pub tell-requires : goal.tell-requires
tell-requires c =
    let old = c.requires.0 in
    let rows = c.requires.1 in
    let row = c.requires.2 in
    let h = c.requires.3 in
    let read = c.requires.4 in (
      past_in (read_all true rows),
      h.items,
      h.told,
      wait_ended old c.args.reading.now rows row c.args.taken.now read c.args.self.now h c.in-Wait.told c.in-Wait.is,
      wait_below old c.args.reading.now rows row c.args.taken.now read c.args.self.now h c.in-Wait.told c.in-Wait.is (c.args.self.now.records + 1) refl,
    )

pub returns-in-Event : goal.returns-in-Event
returns-in-Event c = on_ok c.happen.result _ _ c.happen.ensures.told (λ told old rows row h read.
    bounds_event old c.args.reading.now rows row c.args.taken.now read c.args.self.now h c.in-Event.event c.in-Event.is c.happen.new.self c.happen.ensures.records
    (told (past_in (read_all true rows)) h.items h.told
    (event_accepted old c.args.reading.now rows row c.args.taken.now read c.args.self.now h c.in-Event.event c.in-Event.is)
    (c.len.ensures.value ∙ event_tasks old c.args.reading.now rows row c.args.taken.now read c.args.self.now h c.in-Event.event c.in-Event.is)))

pub returns-in-Wait : goal.returns-in-Wait
returns-in-Wait c = on_ok c.tell.result _ _ c.tell.ensures.told (λ told old rows row h read.
    bounds_wait old c.args.reading.now rows row c.args.taken.now read c.args.self.now h c.in-Wait.told c.in-Wait.is c.tell.new.self (c.args.self.now.records + 1) refl c.tell.ensures.records
    (told (past_in (read_all true rows)) h.items h.told
    (wait_ended old c.args.reading.now rows row c.args.taken.now read c.args.self.now h c.in-Wait.told c.in-Wait.is)
    (wait_below old c.args.reading.now rows row c.args.taken.now read c.args.self.now h c.in-Wait.told c.in-Wait.is (c.args.self.now.records + 1) refl)))

pub returns-in-Act : goal.returns-in-Act
returns-in-Act c = λ old rows row h read. bounds_same old c.args.reading.now rows row c.args.taken.now read c.args.self.now h _ (ap bound_of c.in-Act.is) (no_event c.args.taken.now (ap tells_event c.in-Act.is)) refl

pub returns-in-Other : goal.returns-in-Other
returns-in-Other c = λ old rows row h read. bounds_same old c.args.reading.now rows row c.args.taken.now read c.args.self.now h _ (ap bound_of c.in-Other.is) (no_event c.args.taken.now (ap tells_event c.in-Other.is)) refl
