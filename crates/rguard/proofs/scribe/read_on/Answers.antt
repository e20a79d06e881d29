use Rattle.std.proofs.Common.{◌≡◌, ◌∙◌, refl, sym, ap, subst}
use Rattle.std.specs.Prelude.{slice_get}
use Rattle.rclaim.specs.Events.{seat_of}
use Rattle.rlock.specs.Known.{IsTrueOf, entered}
use Rattle.rvalue.specs.Entries.{EntryFields}
use Rattle.rstate.specs.Contents.{Contents}
use Rattle.rguard.specs.Seats.{SeatOf}
use Rattle.rguard.proofs.Scribes.{read_turn}
use Rattle.rguard.proofs.seats.Turning.{appends_none}
use Rattle.rguard.proofs.scribe.read_on.Goals as goal

pub leave-scribe-requires-clause-entries : goal.leave-scribe-requires-clause-entries
leave-scribe-requires-clause-entries g c =
    let V = g.row.T.Denot in
    let E = g.row.T-Edit.Denot in
    let k : SeatOf V E = c.args.scribe in
    let found = c.state-state.result.now in
    let pass_is : c.enter-turn.result.pass ≡ entered k found.entries = c.enter-turn.ensures.pass ∙ ap (λ (x : Contents V E). entered k x.entries) (sym c.state-state.ensures.value) in
    appends_none k c.enter-turn.result.pass found found refl pass_is

pub returns-in-Ok-clause-turn : goal.returns-in-Ok-clause-turn
returns-in-Ok-clause-turn g c =
    let V = g.row.T.Denot in
    let E = g.row.T-Edit.Denot in
    let k : SeatOf V E = c.args.scribe in
    let found = c.state-state.result.now in
    let tells : IsTrueOf (λ (entry : EntryFields E). seat_of entry.event) (λ n (before later : Contents V E). slice_get later.taken n ≡ slice_get before.taken n) k found.beginning found.entries found =
    subst (λ (x : Contents V E). IsTrueOf (λ (entry : EntryFields E). seat_of entry.event) (λ n (before later : Contents V E). slice_get later.taken n ≡ slice_get before.taken n) k x.beginning x.entries x) (sym c.state-state.ensures.value) c.enter-turn.ensures.state in
    let pass_is : c.enter-turn.result.pass ≡ entered k found.entries = c.enter-turn.ensures.pass ∙ ap (λ (x : Contents V E). entered k x.entries) (sym c.state-state.ensures.value) in
    read_turn k found c.enter-turn.result.pass c.leave-scribe.result tells.begins pass_is c.leave-scribe.ensures
