-- What waits are for.
use Rattle.rguard.specs.declared.kind.GuardKind.{GuardKind}
use Rattle.rguard.specs.declared.kind.GuardKind.TheVariants as kinds
use Rattle.rguard.specs.LentSections.{SectionFields}
use Rattle.rguard.specs.Guards.{WaitFields}
use Rattle.rguard.specs.declared.awaited.Awaited.{Awaited}
use Rattle.rguard.specs.declared.awaited.Awaited.TheVariants.{Read, Write, Rise, Nest}

module _ {T : Type 0} where
  -- the kind of the guard
  abbrev pub awaited_kind : Awaited T → GuardKind
  awaited_kind Read = kinds.Read
  awaited_kind Write = kinds.Write
  awaited_kind (Rise room) = kinds.Rise
  awaited_kind Nest = kinds.Nest

-- what contracts see of a section's wait
abbrev pub waiting : {V E : Type 0} → SectionFields V E → GuardKind → WaitFields V E
waiting s kind = record { site = s.site; seat = s.seat; acts = s.acts; kind = kind }
