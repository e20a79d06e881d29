use Rattle.std.proofs.Common.{rules, ◌≡◌, ℕ, ◌%◌, ◌^◌, sym, ap, ◌∙◌, subst, Some, None}
use Rattle.rlock.specs.declared.view.Mode.TheVariants.{Waiting, Served}
use Rattle.std.specs.Option.{unwrap_or}
use Rattle.rlock.specs.Known.{IsTrueOf}
use Rattle.rlock.specs.Views.{IsViewOf}
use Rattle.rlock.specs.Steps.{Serves}
use Rattle.rlock.proofs.Moves.{looks, ticket_in}
use Rattle.rlock.proofs.Passes.{found, last_slot, exchanged, mode_is}
use Rattle.rlock.proofs.gate.Gate.await_ticket.Goals as goal

pub load-served-requires : goal.load-served-requires
load-served-requires g c = let (k, t, waits, word) = c.requires.ready in
    (search rules, search rules, looks g.S.Kept.opening g.S.Kept.entries g.S.Kept.number g.S.Kept.stays _ _ _ _ _ t (ap (λ m. m.0.mode) c.loop.invariant.2 ∙ mode_is (Waiting t) k _ waits.0))

pub exchange-requires : goal.exchange-requires
exchange-requires g c = let (k, t, waits, word) = c.requires.ready in let slots = c.self.inside.board.shared.table_id.slots in let hit : c.load-served.result ≡ t % 2 ^ 64 = search rules in
    let got = found g.S.Kept.opening g.S.Kept.entries g.S.Kept.number g.S.Kept.stays k t slots c.load-served.result c.loop.place.me c.load-served.new.seat.me (subst (λ m. IsViewOf (Waiting t) k m.0) (sym c.loop.invariant.2) waits.0) (ap (λ m. m.1) c.loop.invariant.2 ∙ waits.1)
    c.load-served.ensures.2 hit in
    (search rules, (Some got.0, last_slot _ _ got.2))

pub returns-then-served-ticket-clause-served : goal.returns-then-served-ticket-clause-served
returns-then-served-ticket-clause-served g c = λ k t waits. let (k', t', waits', word) = c.requires.ready in let slots = c.self.inside.board.shared.table_id.slots in
    let same : t' ≡ t = ap ticket_in (sym (mode_is (Waiting t') k' _ waits'.0) ∙ mode_is (Waiting t) k _ waits.0) in
    let hit : c.load-served.result ≡ t' % 2 ^ 64 = search rules in
    let (state, serves, slot, true_then) = found g.S.Kept.opening g.S.Kept.entries g.S.Kept.number g.S.Kept.stays k t slots c.load-served.result c.loop.place.me c.load-served.new.seat.me (subst (λ m. IsViewOf (Waiting t) k m.0) (sym c.loop.invariant.2) waits.0)
    (ap (λ m. m.1) c.loop.invariant.2 ∙ waits.1) c.load-served.ensures.2 (hit ∙ ap (λ (n : ℕ). n % 2 ^ 64) same) in
    let swapped = exchanged _ c.load-served.new.seat.me c.exchange.new.seat.me (Some state) c.exchange.result None slot c.exchange.ensures.2 c.exchange.ensures.3 in
    let is : state ≡ c.unwrap.result = ap (λ r. unwrap_or r state) (swapped.0 ∙ c.unwrap.ensures) in
    subst (λ (s : g.row.S.Denot). Serves c.exchange.new.seat (record k { seen = g.S.Kept.entries s }) t s × IsTrueOf g.S.Kept.number g.S.Kept.stays k (g.S.Kept.opening s) (g.S.Kept.entries s) s) is
    ((subst (IsViewOf (Served t state) (record k { seen = g.S.Kept.entries state })) (sym swapped.1) serves, swapped.2), true_then)
