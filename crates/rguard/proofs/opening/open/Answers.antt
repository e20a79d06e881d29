use Rattle.std.proofs.Common.{◌≡◌, ◌<◌, ◌≤◌, refl, sym, ap, subst, ◌∙◌, arith}
use Rattle.std.proofs.lemmas.Option.{get_or_from_slice_get}
use Rattle.rlock.specs.Known.{Site}
use Rattle.rstate.specs.Histories.{Beginning}
use Rattle.rguard.specs.Seats.{SeatOf, IsOf, IsIdle}
use Rattle.rguard.proofs.opening.open.Goals as goal

pub returns-in-Ok-clause-seats : goal.returns-in-Ok-clause-seats
returns-in-Ok-clause-seats g c = λ k d less.
    let V = g.row.T.Denot in
    let E = g.row.T-Edit.Denot in
    let below : k < c.args.seats = subst (λ n. k < n) c.in-Ok.ensures.count.1 less in
    let seats : c.in_ok-state.state.beginning.seats ≡ c.args.seats = ap (λ (b : Beginning V). b.seats) c.in_ok-state.ensures.beginning ∙ sym c.requires.seats in
    subst (λ (s : SeatOf V E). IsOf c.new-gate.result s × IsIdle s) (sym (get_or_from_slice_get c.in-Ok.all.items k _ d (c.in-Ok.ensures.each k below))) (
      record {
        gate = ap (λ (site : Site). site.gate) (sym c.new-gate.ensures);
        began = c.in_ok-state.state.beginning;
        opening = refl;
        there = subst (λ n. k < n) (sym seats) below;
        all = seats ∙ ap (λ (site : Site). site.seats) (sym c.new-gate.ensures);
        within = subst (λ (site : Site). site.seats ≤ site.passes) (sym c.new-gate.ensures) (subst (λ n. c.args.seats ≤ n) (sym c.in-Ok.ensures.count.0) (omega arith));
        enough = subst (λ (b : Beginning V). b.seats ≤ b.cap) (sym c.in_ok-state.ensures.beginning) (subst (λ n. n ≤ (g.M.Machine.state c.args.machine).cap) c.requires.seats c.requires.cap);
      },
      refl,
    )
