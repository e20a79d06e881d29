use Rattle.std.proofs.Common.{◌≡◌, [], ◌∷◌, IfOk, IfErr, inl, inr, refl, sym, ap, subst, append-nil}
use Rattle.std.proofs.lemmas.Result.{IfErr-weaker}
use Rattle.rclaim.specs.declared.event.Event.TheVariants.{Ask}
use Rattle.rguard.specs.LentGuards.{GuardFields, IsPartOf, KeepsValues, KeepsHolding}
use Rattle.rguard.specs.Seats.{Goes, IsOneTurn, ComesBack, bare}
use Rattle.rguard.specs.LentSections.{guarded}
use Rattle.rguard.proofs.section.Section.ask.Goals as goal

pub ask_with_room-requires-clause-part : goal.ask_with_room-requires-clause-part
ask_with_room-requires-clause-part g c κs within =
    subst (λ (x : GuardFields g.row.T.Denot g.row.T-Edit.Denot). IsPartOf x.seat c.args.set) (sym c.reserve.ensures.same) c.requires.part

pub returns-in-Ok-clause-same : goal.returns-in-Ok-clause-same
returns-in-Ok-clause-same g c =
    subst (λ (x : GuardFields g.row.T.Denot g.row.T-Edit.Denot). IfOk c.ask_with_room.result (λ s. (s.site ≡ x.site) × (s.acts ≡ x.acts))) c.reserve.ensures.same c.ask_with_room.ensures.same

pub returns-in-Ok-clause-goes : goal.returns-in-Ok-clause-goes
returns-in-Ok-clause-goes g c =
    subst (λ (x : GuardFields g.row.T.Denot g.row.T-Edit.Denot). IfOk c.ask_with_room.result (λ s. Goes x.seat (bare (Ask x.seat.number c.args.set) ∷ []) s.seat)) c.reserve.ensures.same c.ask_with_room.ensures.goes

pub returns-in-Ok-clause-turn : goal.returns-in-Ok-clause-turn
returns-in-Ok-clause-turn g c =
    subst (λ (x : GuardFields g.row.T.Denot g.row.T-Edit.Denot). IfOk c.ask_with_room.result (λ s. IsOneTurn x.seat (bare (Ask x.seat.number c.args.set) ∷ []) s.seat)) c.reserve.ensures.same c.ask_with_room.ensures.turn

pub returns-in-Ok-clause-err : goal.returns-in-Ok-clause-err
returns-in-Ok-clause-err g c =
    subst (λ (x : GuardFields g.row.T.Denot g.row.T-Edit.Denot). IfErr c.ask_with_room.result (λ e. (e.0.site ≡ x.site) × (e.0.acts ≡ x.acts) × Goes x.seat [] e.0.seat)) c.reserve.ensures.same c.ask_with_room.ensures.err

pub returns-in-Ok-clause-turn_err : goal.returns-in-Ok-clause-turn_err
returns-in-Ok-clause-turn_err g c =
    subst (λ (x : GuardFields g.row.T.Denot g.row.T-Edit.Denot). IfErr c.ask_with_room.result (λ e. ComesBack x.seat e.0.seat)) c.reserve.ensures.same
    (IfErr-weaker c.ask_with_room.result (λ e. IsOneTurn c.reserve.new.self.seat [] e.0.seat) (λ e. ComesBack c.reserve.new.self.seat e.0.seat) (λ e turn. inr turn) c.ask_with_room.ensures.turn_err)

pub returns-in-Ok-clause-values : goal.returns-in-Ok-clause-values
returns-in-Ok-clause-values g c =
    subst (λ (x : GuardFields g.row.T.Denot g.row.T-Edit.Denot). IfErr c.ask_with_room.result (λ e. KeepsValues g.T.Editable.after x (guarded e.0))) c.reserve.ensures.same c.ask_with_room.ensures.values

pub returns-in-Err-clause-err : goal.returns-in-Err-clause-err
returns-in-Err-clause-err g c =
    let is : guarded c.reserve.new.self ≡ guarded c.args.self = c.reserve.ensures.same in
    let seat = c.reserve.new.self.seat in (
      ap (λ (x : GuardFields g.row.T.Denot g.row.T-Edit.Denot). x.site) is,
      ap (λ (x : GuardFields g.row.T.Denot g.row.T-Edit.Denot). x.acts) is,
      subst (λ (x : GuardFields g.row.T.Denot g.row.T-Edit.Denot). Goes x.seat [] seat) is (record { same = (refl, refl, refl); seen = ([], append-nil seat.seen); mine = sym (append-nil seat.mine) }),
    )

pub returns-in-Err-clause-turn_err : goal.returns-in-Err-clause-turn_err
returns-in-Err-clause-turn_err g c = inl (ap (λ (x : GuardFields g.row.T.Denot g.row.T-Edit.Denot). x.seat) c.reserve.ensures.same)

pub returns-in-Err-clause-values : goal.returns-in-Err-clause-values
returns-in-Err-clause-values g c =
    subst (λ (x : GuardFields g.row.T.Denot g.row.T-Edit.Denot). KeepsValues g.T.Editable.after x (guarded c.reserve.new.self)) c.reserve.ensures.same (λ l value held has. has)

pub returns-in-Ok-clause-holding : goal.returns-in-Ok-clause-holding
returns-in-Ok-clause-holding g c =
    subst (λ (x : GuardFields g.row.T.Denot g.row.T-Edit.Denot). IfErr c.ask_with_room.result (λ e. KeepsHolding x.seat e.0.seat)) c.reserve.ensures.same c.ask_with_room.ensures.holding

pub returns-in-Err-clause-holding : goal.returns-in-Err-clause-holding
returns-in-Err-clause-holding g c =
    subst (λ (x : GuardFields g.row.T.Denot g.row.T-Edit.Denot). KeepsHolding x.seat c.reserve.new.self.seat) c.reserve.ensures.same (record { holds = λ l held. held; writes = λ l held. held; asks = λ part is. is })
