-- What a guard or a wait has seen is lawful, and its own entries there are those that it made.
use Rattle.std.proofs.Common.{ℕ, Bool, sym, subst, ◌∙◌}
use Rattle.rstate.specs.Histories.{Beginning, IsLawfulFrom}
use Rattle.rstate.proofs.homes.Lists.{same_item}
use Rattle.rguard.specs.declared.kind.GuardKind.{GuardKind}
use Rattle.rguard.specs.Guards.{HasSeenLawful, HasSeenOwn}
use Rattle.rguard.specs.LentSections.{SectionFields, Knows, Holds, Waits}

module _ {V E : Type 0} (after : V → E → V) (taken : V → E → Bool) (number : V → ℕ) (kind : GuardKind) (s : SectionFields V E) where
  lawful_known : (began : Beginning V) → Knows after taken number began s.site s.seat → HasSeenLawful after taken number s.seat
  lawful_known began knows b opens = subst (λ d. IsLawfulFrom after taken number d s.seat.seen) (same_item began b (sym knows.opening ∙ opens)) knows.lawful

  pub lawful_held : Holds after taken number kind s → HasSeenLawful after taken number s.seat
  lawful_held h = lawful_known h.began h.from.knows

  pub lawful_waited : Waits after taken number kind s → HasSeenLawful after taken number s.seat
  lawful_waited w = lawful_known w.began w.from.knows

  pub own_held : Holds after taken number kind s → HasSeenOwn s.seat
  own_held h = h.from.knows.own

  pub own_waited : Waits after taken number kind s → HasSeenOwn s.seat
  own_waited w = w.from.knows.own
