use Rattle.std.proofs.Common.{◌≡◌, Option, Some, None, sym, ap, subst, ◌∙◌, arith, refl}
use Rattle.std.specs.Prelude.{IfSome}
use Rattle.rclaim.specs.Events.{seat_of}
use Rattle.rmodel.specs.Holds.{holds_of}
use Rattle.rmodel.specs.State.{LockState}
use Rattle.rplain.specs.Machine.{Standing}
use Rattle.rtrace_form.specs.Lines.{Happens}
use Rattle.rtrace_form.specs.Events.{refusal_in}
use Rattle.rtrace_form.specs.SoFar.{event_place, with_line}
use Rattle.rtrace_form.specs.Faults.{line_code}
use Rattle.rtrace_read.specs.declared.reading.ReportReader.{ReportReader}
use Rattle.rcover.specs.Follows.{Follows}
use Rattle.rcover.specs.declared.following.Following.{Following}
use Rattle.rtrace_read.specs.Knows.{Knows, state_in, past_in, changes_in}
use Rattle.rtrace_read.specs.LineTakes.{FitsTold, Allows, stepped}
use Rattle.rtrace_read.proofs.LineResults.{same_bad}
use Rattle.rtrace_read.proofs.EventSteps.{happen_taken, happen_refused, past_state, past_many}
use Rattle.rtrace_read.proofs.Still.{first_same}
use Rattle.rtrace_read.proofs.reading.ReportReader.happen.Goals as goal

pub apply-requires-clause-fits : goal.apply-requires-clause-fits
apply-requires-clause-fits c =
    let whole = c.requires.ready.0 in
    let s = c.requires.ready.1 in
    let h = c.requires.ready.2 in
    let stands = sym (c.in-Ok.ensures.made.1 whole s h).0 ∙ ap (state_in s) c.in-Some.is in
    subst (λ (l : LockState). FitsTold l c.args.event.now) stands (c.requires.fits whole s h c.requires.ready.3)

pub apply-requires-clause-known : goal.apply-requires-clause-known
apply-requires-clause-known c =
    let whole = c.requires.ready.0 in
    let s = c.requires.ready.1 in
    let h = c.requires.ready.2 in
    let few = c.requires.ready.3 in
    let many = past_many s in
    let stands = (c.in-Ok.ensures.made.1 whole s h).0 in (
      past_in s,
      subst (λ (o : Option Following). IfSome o (λ f. Follows f (past_in s))) c.in-Some-following.is (c.in-Ok.ensures.followed whole s h),
      sym (ap (state_in s) c.in-Some.is) ∙ stands ∙ sym (past_state s),
      omega (arith, few, many),
    )

pub returns-in-Ok-apply-clause-taken : goal.returns-in-Ok-apply-clause-taken
returns-in-Ok-apply-clause-taken c = λ whole s h.
    let made = c.make_machine.ensures.others in
    let done = c.in-Ok-apply.ensures.stepped in
    let shown = c.allowed-shown.result.0 in
    let edited = c.allowed-shown.result.1 in
    let follower = c.apply.new.following in
    let e = c.args.event.now in
    let there = c.in-Some.is in
    let stands = sym (ap (state_in s) there) ∙ (c.in-Ok.ensures.made.1 whole s h).0 in
    let followed = subst (λ (o : Option Following). IfSome o (λ f. Follows f (past_in s))) c.in-Some-following.is (c.in-Ok.ensures.followed whole s h) in
    let told = ap (λ (r : ReportReader). r.whole) made ∙ h.kind in
    subst (λ (r : ReportReader). (line_code whole s (Happens e) ≡ None) × Knows whole r (with_line whole s (Happens e)))
    (sym (
    (λ i. record c.make_machine.new.self { machine = Some (done.1 i); following = Some follower; shown = shown; edited = edited; last = c.place_behind-self.ensures i; told = 0 })
    ∙ (λ i. record (made i) { machine = Some (stepped c.in-Some.machine.state e); following = Some follower; shown = shown; edited = edited; last = event_place e; told = 0 })))
    (happen_taken whole c.args.self.now s h e (c.requires.placed whole s h) c.in-Some.machine.state shown edited
    follower (c.in-Ok-apply.ensures.followed (past_in s) followed (stands ∙ sym (past_state s)))
    stands done.0 done.2
    (λ w. subst (λ (o : Option Standing). IfSome o (λ machine. Allows shown edited e (holds_of machine.state.claims (seat_of e)))) there (c.allowed-shown.ensures.allowed (told ∙ w))))

pub returns-in-Ok-apply-clause-counted : goal.returns-in-Ok-apply-clause-counted
returns-in-Ok-apply-clause-counted c =
    let made = c.make_machine.ensures.others in
    λ i. record (made i) { machine = Some c.apply.new.machine; following = Some c.apply.new.following; shown = c.allowed-shown.result.0; edited = c.allowed-shown.result.1; last = c.place_behind-self.ensures i; told = 0 }

pub returns-in-Ok-apply-clause-allowed : goal.returns-in-Ok-apply-clause-allowed
returns-in-Ok-apply-clause-allowed c = λ report whole s h.
    let shown = c.allowed-shown.result.0 in
    let edited = c.allowed-shown.result.1 in
    let e = c.args.event.now in
    let there = c.in-Some.is in
    let stands = sym (ap (state_in s) there) ∙ (c.in-Ok.ensures.made.1 whole s h).0 in
    let allows = c.allowed-shown.ensures.allowed (ap (λ (r : ReportReader). r.whole) c.make_machine.ensures.others ∙ report) in
    subst (λ (l : LockState). Allows shown edited e (holds_of l.claims (seat_of e))) stands
    (subst (λ (o : Option Standing). IfSome o (λ machine. Allows shown edited e (holds_of machine.state.claims (seat_of e)))) there allows)

pub returns-in-Err-clause-bad : goal.returns-in-Err-clause-bad
returns-in-Err-clause-bad c = λ code is whole s h.
    let stands = sym (c.in-Ok.ensures.made.1 whole s h).0 ∙ ap (state_in s) c.in-Some.is in
    happen_refused whole c.args.self.now s h c.args.event.now (c.requires.placed whole s h) c.in-Err.cause
    (ap (λ (l : LockState). refusal_in l c.args.event.now) stands ∙ c.in-Err.ensures.refused) ∙ ap Some (same_bad is)

pub returns-in-Err-clause-still : goal.returns-in-Err-clause-still
returns-in-Err-clause-still c = λ code is.
    let made = c.make_machine.ensures.others in
    let kept = c.in-Err.ensures.still in
    let now = c.args.self.now in
    let new = c.make_machine.new.self in
    record {
      kind = ap (λ (r : ReportReader). r.whole) made;
      resources = first_same now.resources new.resources (ap (λ (r : ReportReader). r.resources) made);
      tasks = first_same now.tasks new.tasks (ap (λ (r : ReportReader). r.tasks) made);
      cap = ap (λ (r : ReportReader). r.cap) made;
      groups = ap (λ (r : ReportReader). r.groups) made;
      last = ap (λ (r : ReportReader). r.last) made;
      told = ap (λ (r : ReportReader). r.told) made;
      lock = λ whole s h. ap (λ (m : Standing). m.state) kept.0 ∙ ap (state_in s) (sym c.in-Some.is) ∙ (c.in-Ok.ensures.made.1 whole s h).0;
      changes = ap (λ (m : Standing). m.last) kept.0 ∙ ap changes_in (sym c.in-Some.is) ∙ (c.in-Ok.ensures.made.1 c.requires.ready.0 c.requires.ready.1 c.requires.ready.2).1;
      ledgers = ap (λ (r : ReportReader). r.ledgers.items) made;
      shown = ap (λ (r : ReportReader). r.shown) made;
      edited = ap (λ (r : ReportReader). r.edited) made;
      there = λ _. refl;
      followed = λ whole s h.
          kept.1 (past_in s) (subst (λ (o : Option Following). IfSome o (λ f. Follows f (past_in s))) c.in-Some-following.is (c.in-Ok.ensures.followed whole s h));
    }

pub returns-in-Err-clause-names : goal.returns-in-Err-clause-names
returns-in-Err-clause-names c = λ code is.
    let made = c.make_machine.ensures.others in
    (ap (λ (r : ReportReader). r.resources) made, ap (λ (r : ReportReader). r.tasks) made)
