-- The greater lengths of two requests of one shape make a request in normal form.
use Rattle.std.proofs.Common.{◌≡◌, ℕ, max, sym, arith}
use Rattle.rset.specs.Sets.{Set}
use Rattle.rset.proofs.SetLemmas.{difference_of_apart}
use Rattle.rclaim.specs.Requests.{FitsKind, FitsFirst, FitsLater, normalised}
use Rattle.std.specs.FinSet.{union}
use Rattle.rclaim.specs.declared.request.Kind.{Kind}
use Rattle.rclaim.specs.declared.request.Kind.TheVariants.{Read, Write, Mixed, Upgrade, Nested}

-- a request in normal form stays in normal form, whatever its lengths are
pub longer_made : (k : Kind) (reads writes first : Set) (len later other : ℕ) → FitsKind k reads writes → FitsFirst k (union reads writes) first → FitsLater k later → FitsLater k other
    → normalised k reads writes first len (max later other) ≡ record { kind = k; reads = reads; writes = writes; first = first; len = len; later = max later other }
longer_made Read reads writes first len later other sets fits a b =
    let none : 0 ≡ max later other = omega (arith, a, b) in
    (λ i. record { kind = Read; reads = reads; writes = sym sets.1 i; first = sym fits i; len = len; later = none i })
longer_made Write reads writes first len later other sets fits a b =
    let none : 0 ≡ max later other = omega (arith, a, b) in
    (λ i. record { kind = Write; reads = sym sets.0 i; writes = writes; first = sym fits i; len = len; later = none i })
longer_made Mixed reads writes first len later other sets fits a b =
    let none : 0 ≡ max later other = omega (arith, a, b) in
    (λ i. record { kind = Mixed; reads = difference_of_apart reads writes sets.0 i; writes = writes; first = sym fits i; len = len; later = none i })
longer_made Upgrade reads writes first len later other sets fits a b =
    (λ i. record { kind = Upgrade; reads = reads; writes = sym sets.1 i; first = sym fits i; len = len; later = max later other })
longer_made Nested reads writes first len later other sets fits a b =
    let none : 0 ≡ max later other = omega (arith, a, b) in
    (λ i. record { kind = Nested; reads = difference_of_apart reads writes sets.0 i; writes = writes; first = first; len = len; later = none i })
