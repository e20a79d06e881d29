use Rattle.std.proofs.Common.{◌≡◌, ◌<◌, ℕ, true, Some, length, refl, sym, ap, subst, arith, ◌∙◌}
use Rattle.std.proofs.lemmas.Bool.{and_parts}
use Rattle.std.proofs.lemmas.Option.{slice_get_read}
use Rattle.std.specs.List.{AllByRecursion}
use Rattle.std.specs.Prelude.{slice_get}
use Rattle.std.specs.FinSet.{remove}
use Rattle.rset.specs.Sets.{Set}
use Rattle.rset.specs.declared.TheConstants.{SEATS}
use Rattle.rmodel.proofs.ListFacts.{all_at, contrary}
use Rattle.rcover.specs.declared.lines.Head.{Head}
use Rattle.rcover.specs.declared.shares.Share.{Share}
use Rattle.rcover.specs.Lines.{head_of, takes_seat, IsLost}
use Rattle.rcover.specs.Shares.{share_of, takes_write, AreLeft}
use Rattle.rcover.proofs.heads_told.Taken.{lost_none, lost_one, seat_taken}
use Rattle.rcover.proofs.heads_told.Writers.{left_all, left_but, none_taken, taken_at}
use Rattle.rcover.proofs.heads.Heads.lose.Goals as goal

some_one : {X : Type 0} (a b : X) → Some a ≡ Some b → a ≡ b
some_one a b h = cc

pub returns-then-not-takes_write-clause-lost : goal.returns-then-not-takes_write-clause-lost
returns-then-not-takes_write-clause-lost c = λ m moment told writes.
    let seat : c.no_head-self.result.claim.seat ≡ SEATS = ap (λ (h : Head). h.claim.seat) c.no_head-self.ensures in
    lost_none c.no_head-self.result c.empty.result c.args.event.now m (omega arith) moment.seats (none_taken c.args.event.now m c.args.self.now.writers writes.seats (sym c.takes_write.ensures ∙ c.if-not-takes_write.true))

pub returns-then-not-takes_write-clause-left : goal.returns-then-not-takes_write-clause-left
returns-then-not-takes_write-clause-left c = left_all c.args.event.now c.args.self.now.writers (sym c.takes_write.ensures ∙ c.if-not-takes_write.true)

pub returns-clause-lost : goal.returns-clause-lost
returns-clause-lost c = λ m moment told writes.
    let e = c.args.event.now in
    let a = c.args.self.now in
    let w = taken_at e m a.writers writes.seats (sym c.takes_write.ensures ∙ c.if-not-takes_write.false) in
    let parts = and_parts (takes_seat e w.0.claim.seat) w.0.claim.write_half w.2 in
    let at = c.seat-at.result in
    let seat : at ≡ w.0.claim.seat = c.seat-at.ensures ∙ seat_taken e w.0.claim.seat parts.0 in
    let hs = a.now.items in
    let head = all_at (λ z. z.claim.write_half ≡ true → slice_get hs z.claim.seat ≡ Some (head_of m z.claim)) m w.0 told w.1 parts.1 in
    let low : at < length hs = subst (λ (z : ℕ × ℕ). z.0 < z.1) (λ i. (sym c.seat-at.ensures i, sym c.requires.room.now i)) c.requires.low in
    let is : head_of m w.0.claim ≡ c.index.result.now = some_one _ _ (sym head ∙ ap (slice_get hs) (sym seat) ∙ slice_get_read hs (length hs) at c.index.result.now refl low c.index.ensures) in
    let ss = a.shares in
    let share = all_at (λ z. z.claim.write_half ≡ true → slice_get ss z.claim.seat ≡ Some (share_of z.claim)) m w.0 writes.shares w.1 parts.1 in
    let low_2 : at < length ss = subst (λ (z : ℕ × ℕ). z.0 < z.1) (λ i. (sym c.seat-at.ensures i, sym c.requires.room.shares i)) c.requires.low in
    let own : share_of w.0.claim ≡ c.index-self-at.result = some_one _ _ (sym share ∙ ap (slice_get ss) (sym seat) ∙ slice_get_read ss (length ss) at c.index-self-at.result refl low_2 c.index-self-at.is) in
    subst (λ (s : Set). AllByRecursion (IsLost c.index.result.now s e m) m) (ap (λ (s : Share). s.places) (own ∙ c.index-self-at.is))
    (lost_one c.index.result.now e w.0 m moment.rising moment.one_each w.1 w.2 is)

pub returns-clause-left : goal.returns-clause-left
returns-clause-left c =
    subst (AreLeft c.args.event.now c.args.self.now.writers) (sym (c.without-self.ensures ∙ ap (remove c.args.self.now.writers) c.seat.ensures))
    (left_but c.args.event.now c.args.self.now.writers (sym c.takes_write.ensures ∙ c.if-not-takes_write.false))

pub returns-then-not-takes_write-clause-none : goal.returns-then-not-takes_write-clause-none
returns-then-not-takes_write-clause-none c = λ none. c.empty.ensures

pub returns-then-not-takes_write-clause-none_lost : goal.returns-then-not-takes_write-clause-none_lost
returns-then-not-takes_write-clause-none_lost c = λ none. c.no_head-self.ensures

pub returns-clause-none_lost : goal.returns-clause-none_lost
returns-clause-none_lost c = λ none. contrary (takes_write c.args.event.now c.args.self.now.writers) (sym c.takes_write.ensures ∙ c.if-not-takes_write.false) none

pub returns-clause-none : goal.returns-clause-none
returns-clause-none c = λ none. contrary (takes_write c.args.event.now c.args.self.now.writers) (sym c.takes_write.ensures ∙ c.if-not-takes_write.false) none
