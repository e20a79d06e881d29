use Rattle.std.proofs.Common.{◌≡◌, ℕ, List, [], ◌∷◌, ◌++◌, refl, sym, ap, subst, ◌∙◌, append-nil}
use Rattle.std.specs.Prelude.{slice_get}
use Rattle.rclaim.specs.Events.{seat_of}
use Rattle.rclaim.specs.declared.event.Event.TheVariants.{Issue}
use Rattle.rlock.specs.Known.{IsTrueOf, entered}
use Rattle.rvalue.specs.Entries.{EntryFields}
use Rattle.rstate.specs.Contents.{Contents}
use Rattle.rstate.proofs.homes.Lists.{same_item}
use Rattle.rvalue.specs.declared.act.Act.{Act}
use Rattle.rguard.specs.LentGuards.{kind_for}
use Rattle.rguard.specs.Seats.{SeatOf, Goes, bare, is_busy}
use Rattle.rguard.specs.LentSections.{WaitsFrom, HasRoomToIssue}
use Rattle.rguard.proofs.Beginning.{may_issue, goes_on, takes_turn, waits_first}
use Rattle.rguard.proofs.seats.Turning.{appends_one, appends_none}
use Rattle.rguard.proofs.section.Section.issue.Goals as goal

pub issue-requires-after_bounds : goal.issue-requires-after_bounds
issue-requires-after_bounds g c κs within =
    let V = g.row.T.Denot in
    let E = g.row.T-Edit.Denot in
    let k : SeatOf V E = c.args.seat in
    let found = c.state-state.result.now in
    let tells : IsTrueOf (λ (entry : EntryFields E). seat_of entry.event) (λ n (before later : Contents V E). slice_get later.taken n ≡ slice_get before.taken n) k found.beginning found.entries found =
    subst (λ (x : Contents V E). IsTrueOf (λ (entry : EntryFields E). seat_of entry.event) (λ n (before later : Contents V E). slice_get later.taken n ≡ slice_get before.taken n) k x.beginning x.entries x) (sym c.state-state.ensures.value) c.enter-turn.ensures.state in
    may_issue g.T.Editable.after g.T.Editable.taken g.T.Editable.number c.args.lock.now k found c.requires.of tells c.history.ensures.lawful c.history.ensures.values c.requires.idle c.number-number.result c.args.request c.number-number.ensures c.requires.suits

pub leave-requires-clause-entries : goal.leave-requires-clause-entries
leave-requires-clause-entries g c =
    let V = g.row.T.Denot in
    let E = g.row.T-Edit.Denot in
    let k : SeatOf V E = c.args.seat in
    let found = c.state-state.result.now in
    let tells : IsTrueOf (λ (entry : EntryFields E). seat_of entry.event) (λ n (before later : Contents V E). slice_get later.taken n ≡ slice_get before.taken n) k found.beginning found.entries found =
    subst (λ (x : Contents V E). IsTrueOf (λ (entry : EntryFields E). seat_of entry.event) (λ n (before later : Contents V E). slice_get later.taken n ≡ slice_get before.taken n) k x.beginning x.entries x) (sym c.state-state.ensures.value) c.enter-turn.ensures.state in
    let now = c.issue.new.self in
    let longer : now.entries ≡ found.entries ++ bare (Issue k.number c.args.request) ∷ [] = c.in-Ok.ensures.ok ∙ ap (λ n. found.entries ++ bare (Issue n c.args.request) ∷ []) c.number-number.ensures in
    let pass_is : c.enter-turn.result.pass ≡ entered k found.entries = c.enter-turn.ensures.pass ∙ ap (λ (x : Contents V E). entered k x.entries) (sym c.state-state.ensures.value) in
    appends_one k c.enter-turn.result.pass found now (bare (Issue k.number c.args.request)) refl longer pass_is

pub returns-in-Ok-clause-waits : goal.returns-in-Ok-clause-waits
returns-in-Ok-clause-waits g c =
    let V = g.row.T.Denot in
    let E = g.row.T-Edit.Denot in
    let k : SeatOf V E = c.args.seat in
    let found = c.state-state.result.now in
    let tells : IsTrueOf (λ (entry : EntryFields E). seat_of entry.event) (λ n (before later : Contents V E). slice_get later.taken n ≡ slice_get before.taken n) k found.beginning found.entries found =
    subst (λ (x : Contents V E). IsTrueOf (λ (entry : EntryFields E). seat_of entry.event) (λ n (before later : Contents V E). slice_get later.taken n ≡ slice_get before.taken n) k x.beginning x.entries x) (sym c.state-state.ensures.value) c.enter-turn.ensures.state in
    let now = c.issue.new.self in
    let longer : now.entries ≡ found.entries ++ bare (Issue k.number c.args.request) ∷ [] = c.in-Ok.ensures.ok ∙ ap (λ n. found.entries ++ bare (Issue n c.args.request) ∷ []) c.number-number.ensures in
    let pass_is : c.enter-turn.result.pass ≡ entered k found.entries = c.enter-turn.ensures.pass ∙ ap (λ (x : Contents V E). entered k x.entries) (sym c.state-state.ensures.value) in
    let first = waits_first g.T.Editable.after g.T.Editable.taken g.T.Editable.number c.args.lock.now k found c.requires.of tells c.history.ensures.lawful c.history.ensures.values c.requires.idle c.args.request now c.enter-turn.result.pass c.leave.result longer pass_is c.leave.ensures c.issue.ensures.beginning c.history-in-Ok.ensures.lawful c.issue.ensures.taken
    c.machine.ensures.taken c.room.inside.lent (subst (HasRoomToIssue c.args.request) (sym c.room.view_is) c.requires.room) in
    record {
      began = c.requires.of.began;
      from = subst (λ (own : List (ℕ × V)). WaitsFrom g.T.Editable.after g.T.Editable.taken g.T.Editable.number (kind_for c.args.request.kind) c.requires.of.began (record { site = c.args.lock.now; seat = c.leave.result; lent = c.room.inside.lent; own = own; acts = c.new.result.items })) (sym c.room.invariant)
          (subst (λ (acts : List (Act E)). WaitsFrom g.T.Editable.after g.T.Editable.taken g.T.Editable.number (kind_for c.args.request.kind) c.requires.of.began (record { site = c.args.lock.now; seat = c.leave.result; lent = c.room.inside.lent; own = []; acts = acts })) (sym c.new.ensures.items) first);
    }

pub leave-requires-in-Err-clause-entries : goal.leave-requires-in-Err-clause-entries
leave-requires-in-Err-clause-entries g c =
    let V = g.row.T.Denot in
    let E = g.row.T-Edit.Denot in
    let k : SeatOf V E = c.args.seat in
    let found = c.state-state.result.now in
    let tells : IsTrueOf (λ (entry : EntryFields E). seat_of entry.event) (λ n (before later : Contents V E). slice_get later.taken n ≡ slice_get before.taken n) k found.beginning found.entries found =
    subst (λ (x : Contents V E). IsTrueOf (λ (entry : EntryFields E). seat_of entry.event) (λ n (before later : Contents V E). slice_get later.taken n ≡ slice_get before.taken n) k x.beginning x.entries x) (sym c.state-state.ensures.value) c.enter-turn.ensures.state in
    let pass_is : c.enter-turn.result.pass ≡ entered k found.entries = c.enter-turn.ensures.pass ∙ ap (λ (x : Contents V E). entered k x.entries) (sym c.state-state.ensures.value) in
    appends_none k c.enter-turn.result.pass found c.issue.new.self (ap (λ (x : Contents V E). x.entries) c.in-Err.ensures.err) pass_is

pub returns-in-Err-clause-err : goal.returns-in-Err-clause-err
returns-in-Err-clause-err g c =
    let V = g.row.T.Denot in
    let E = g.row.T-Edit.Denot in
    let k : SeatOf V E = c.args.seat in
    let found = c.state-state.result.now in
    let tells : IsTrueOf (λ (entry : EntryFields E). seat_of entry.event) (λ n (before later : Contents V E). slice_get later.taken n ≡ slice_get before.taken n) k found.beginning found.entries found =
    subst (λ (x : Contents V E). IsTrueOf (λ (entry : EntryFields E). seat_of entry.event) (λ n (before later : Contents V E). slice_get later.taken n ≡ slice_get before.taken n) k x.beginning x.entries x) (sym c.state-state.ensures.value) c.enter-turn.ensures.state in
    let pass_is : c.enter-turn.result.pass ≡ entered k found.entries = c.enter-turn.ensures.pass ∙ ap (λ (x : Contents V E). entered k x.entries) (sym c.state-state.ensures.value) in
    let longer : c.issue.new.self.entries ≡ found.entries ++ [] = ap (λ (x : Contents V E). x.entries) c.in-Err.ensures.err ∙ sym (append-nil found.entries) in
    goes_on g.T.Editable.after g.T.Editable.taken g.T.Editable.number c.args.lock.now k found c.requires.of tells c.history.ensures.lawful c.history.ensures.values c.issue.new.self c.enter-turn.result.pass c.leave-in-Err.result [] longer pass_is c.leave-in-Err.ensures

pub returns-in-Err-clause-turn_err : goal.returns-in-Err-clause-turn_err
returns-in-Err-clause-turn_err g c =
    let V = g.row.T.Denot in
    let E = g.row.T-Edit.Denot in
    let k : SeatOf V E = c.args.seat in
    let found = c.state-state.result.now in
    let tells : IsTrueOf (λ (entry : EntryFields E). seat_of entry.event) (λ n (before later : Contents V E). slice_get later.taken n ≡ slice_get before.taken n) k found.beginning found.entries found =
    subst (λ (x : Contents V E). IsTrueOf (λ (entry : EntryFields E). seat_of entry.event) (λ n (before later : Contents V E). slice_get later.taken n ≡ slice_get before.taken n) k x.beginning x.entries x) (sym c.state-state.ensures.value) c.enter-turn.ensures.state in
    let pass_is : c.enter-turn.result.pass ≡ entered k found.entries = c.enter-turn.ensures.pass ∙ ap (λ (x : Contents V E). entered k x.entries) (sym c.state-state.ensures.value) in
    let longer : c.issue.new.self.entries ≡ found.entries ++ [] = ap (λ (x : Contents V E). x.entries) c.in-Err.ensures.err ∙ sym (append-nil found.entries) in
    takes_turn g.T.Editable.after g.T.Editable.taken g.T.Editable.number c.args.lock.now k found c.requires.of tells c.history.ensures.lawful c.history.ensures.values c.issue.new.self c.enter-turn.result.pass c.leave-in-Err.result [] longer pass_is c.leave-in-Err.ensures

pub returns-in-Err-clause-idle : goal.returns-in-Err-clause-idle
returns-in-Err-clause-idle g c =
    let V = g.row.T.Denot in
    let E = g.row.T-Edit.Denot in
    let k : SeatOf V E = c.args.seat in
    let found = c.state-state.result.now in
    let tells : IsTrueOf (λ (entry : EntryFields E). seat_of entry.event) (λ n (before later : Contents V E). slice_get later.taken n ≡ slice_get before.taken n) k found.beginning found.entries found =
    subst (λ (x : Contents V E). IsTrueOf (λ (entry : EntryFields E). seat_of entry.event) (λ n (before later : Contents V E). slice_get later.taken n ≡ slice_get before.taken n) k x.beginning x.entries x) (sym c.state-state.ensures.value) c.enter-turn.ensures.state in
    let pass_is : c.enter-turn.result.pass ≡ entered k found.entries = c.enter-turn.ensures.pass ∙ ap (λ (x : Contents V E). entered k x.entries) (sym c.state-state.ensures.value) in
    let longer : c.issue.new.self.entries ≡ found.entries ++ [] = ap (λ (x : Contents V E). x.entries) c.in-Err.ensures.err ∙ sym (append-nil found.entries) in
    let goes : Goes k [] c.leave-in-Err.result = goes_on g.T.Editable.after g.T.Editable.taken g.T.Editable.number c.args.lock.now k found c.requires.of tells c.history.ensures.lawful c.history.ensures.values c.issue.new.self c.enter-turn.result.pass c.leave-in-Err.result [] longer pass_is c.leave-in-Err.ensures in
    ap (λ (es : List (EntryFields E)). is_busy es) (goes.mine ∙ append-nil k.mine) ∙ c.requires.idle

pub returns-in-Ok-clause-begins : goal.returns-in-Ok-clause-begins
returns-in-Ok-clause-begins g c = (refl, c.new.ensures.items)

pub returns-in-Ok-clause-goes : goal.returns-in-Ok-clause-goes
returns-in-Ok-clause-goes g c =
    let V = g.row.T.Denot in
    let E = g.row.T-Edit.Denot in
    let k : SeatOf V E = c.args.seat in
    let found = c.state-state.result.now in
    let tells : IsTrueOf (λ (entry : EntryFields E). seat_of entry.event) (λ n (before later : Contents V E). slice_get later.taken n ≡ slice_get before.taken n) k found.beginning found.entries found =
    subst (λ (x : Contents V E). IsTrueOf (λ (entry : EntryFields E). seat_of entry.event) (λ n (before later : Contents V E). slice_get later.taken n ≡ slice_get before.taken n) k x.beginning x.entries x) (sym c.state-state.ensures.value) c.enter-turn.ensures.state in
    let now = c.issue.new.self in
    let longer : now.entries ≡ found.entries ++ bare (Issue k.number c.args.request) ∷ [] = c.in-Ok.ensures.ok ∙ ap (λ n. found.entries ++ bare (Issue n c.args.request) ∷ []) c.number-number.ensures in
    let pass_is : c.enter-turn.result.pass ≡ entered k found.entries = c.enter-turn.ensures.pass ∙ ap (λ (x : Contents V E). entered k x.entries) (sym c.state-state.ensures.value) in
    goes_on g.T.Editable.after g.T.Editable.taken g.T.Editable.number c.args.lock.now k found c.requires.of tells c.history.ensures.lawful c.history.ensures.values now c.enter-turn.result.pass c.leave.result (bare (Issue k.number c.args.request) ∷ []) longer pass_is c.leave.ensures

pub returns-in-Ok-clause-turn : goal.returns-in-Ok-clause-turn
returns-in-Ok-clause-turn g c =
    let V = g.row.T.Denot in
    let E = g.row.T-Edit.Denot in
    let k : SeatOf V E = c.args.seat in
    let found = c.state-state.result.now in
    let tells : IsTrueOf (λ (entry : EntryFields E). seat_of entry.event) (λ n (before later : Contents V E). slice_get later.taken n ≡ slice_get before.taken n) k found.beginning found.entries found =
    subst (λ (x : Contents V E). IsTrueOf (λ (entry : EntryFields E). seat_of entry.event) (λ n (before later : Contents V E). slice_get later.taken n ≡ slice_get before.taken n) k x.beginning x.entries x) (sym c.state-state.ensures.value) c.enter-turn.ensures.state in
    let now = c.issue.new.self in
    let longer : now.entries ≡ found.entries ++ bare (Issue k.number c.args.request) ∷ [] = c.in-Ok.ensures.ok ∙ ap (λ n. found.entries ++ bare (Issue n c.args.request) ∷ []) c.number-number.ensures in
    let pass_is : c.enter-turn.result.pass ≡ entered k found.entries = c.enter-turn.ensures.pass ∙ ap (λ (x : Contents V E). entered k x.entries) (sym c.state-state.ensures.value) in
    takes_turn g.T.Editable.after g.T.Editable.taken g.T.Editable.number c.args.lock.now k found c.requires.of tells c.history.ensures.lawful c.history.ensures.values now c.enter-turn.result.pass c.leave.result (bare (Issue k.number c.args.request) ∷ []) longer pass_is c.leave.ensures

pub leave-requires-clause-others : goal.leave-requires-clause-others
leave-requires-clause-others g c = λ found is k differ.
    ap (λ ts. slice_get ts k) c.issue.ensures.taken
    ∙ ap (λ s. slice_get s.taken k) c.state-state.ensures.value
    ∙ ap (λ s. slice_get s.taken k) (same_item c.enter-turn.result.state found (sym c.enter-turn.ensures.found ∙ is))

pub leave-requires-in-Err-clause-others : goal.leave-requires-in-Err-clause-others
leave-requires-in-Err-clause-others g c = λ found is k differ.
    ap (λ ts. slice_get ts k) c.issue.ensures.taken
    ∙ ap (λ s. slice_get s.taken k) c.state-state.ensures.value
    ∙ ap (λ s. slice_get s.taken k) (same_item c.enter-turn.result.state found (sym c.enter-turn.ensures.found ∙ is))
