-- The steps of a section, one after another: for proofs above.
use Rattle.std.proofs.Common.{◌≡◌, List, [], ◌∷◌, subst}
use Rattle.rclaim.specs.Requests.{RequestFields}
use Rattle.rclaim.specs.declared.event.Event.TheVariants.{Issue, Finish}
use Rattle.rlock.specs.Known.{Site}
use Rattle.rvalue.specs.declared.act.Act.{Act}
use Rattle.rguard.specs.declared.guard.Guard.{Guard}
use Rattle.rguard.specs.declared.guard.Guard.TheVariants as guards
use Rattle.rguard.specs.Seats.{SeatOf, Goes, bare}
use Rattle.rguard.specs.Guards.{GuardFields}
use Rattle.rguard.specs.Looks.{HasAcquired}
use Rattle.rguard.specs.Sections.{HasEntered, HasFinished, MadeSection}
use Rattle.rguard.proofs.Going.{goes_on}

module _ {V E : Type 0} where
  -- a seat whose guard was acquired to write has entered its section
  pub entered_to_write : {M : Type 0} (site : Site) (seat : SeatOf V E) (asked r : RequestFields) (guard : GuardFields V E) (acquired : Guard V M E) → asked ≡ r → acquired ≡ guards.Write guard
      → HasAcquired site seat asked acquired → HasEntered r seat guard
  entered_to_write {M} site seat asked r guard acquired made is has =
      let now : HasAcquired site seat asked (guards.Write guard) = subst (λ (x : Guard V M E). HasAcquired site seat asked x) is has in
      subst (λ (x : RequestFields). HasEntered x seat guard) made (record { issued = now.goes; fresh = now.no_acts })

  -- and so has a seat whose guard was acquired to read
  pub entered_to_read : {M : Type 0} (site : Site) (seat : SeatOf V E) (asked r : RequestFields) (guard : GuardFields V E) (acquired : Guard V M E) → asked ≡ r → acquired ≡ guards.Read guard
      → HasAcquired site seat asked acquired → HasEntered r seat guard
  entered_to_read {M} site seat asked r guard acquired made is has =
      let now : HasAcquired site seat asked (guards.Read guard) = subst (λ (x : Guard V M E). HasAcquired site seat asked x) is has in
      subst (λ (x : RequestFields). HasEntered x seat guard) made (record { issued = now.goes; fresh = now.no_acts })

  -- a seat that entered a section and finished it has made it: between the two it stayed where it was
  pub made : (r : RequestFields) (seat : SeatOf V E) (first last : GuardFields V E) (acts : List (Act E)) (later : SeatOf V E) → HasEntered r seat first → last.seat ≡ first.seat → HasFinished acts last later
      → MadeSection r acts seat later
  made r seat first last acts later entered stays finished =
      goes_on seat first.seat later (bare (Issue seat.number r) ∷ []) (record { event = Finish seat.number; acts = acts } ∷ []) entered.issued
      (subst (λ n. Goes first.seat (record { event = Finish n; acts = acts } ∷ []) later) entered.issued.same.1
      (subst (λ (s : SeatOf V E). Goes s (record { event = Finish s.number; acts = acts } ∷ []) later) stays finished))
