-- How proofs distinguish lock states: by their parts.
use Rattle.std.specs.Prelude.{ℕ, Bool, List, refl}
use Rattle.std.specs.Coded.{Coded, code_by, coded×, coded_ℕ, coded_bool, coded_list}
use Rattle.rset.specs.Sets.{Set}
use Rattle.rexpand.specs.Groups.{ReadGroups}
use Rattle.rexpand.specs.Codes.{groups_code}
use Rattle.rclaim.specs.Codes.{set_code, kind_code, status_code}
use Rattle.rclaim.specs.declared.request.Kind.{Kind}
use Rattle.rclaim.specs.declared.claim.Claim.{Claim}
use Rattle.rclaim.specs.declared.claim.Status.{Status}
use Rattle.rmodel.specs.declared.claimed.Claimed.{Claimed}
use Rattle.rmodel.specs.State.{LockState}

abbrev pub claim_code : Coded Claim
claim_code =
    code_by (ℕ × (ℕ × (Kind × (Bool × (Set × (Set × Set))))))
    (coded× coded_ℕ (coded× coded_ℕ (coded× kind_code (coded× coded_bool (coded× set_code (coded× set_code set_code))))))
    (λ c. (c.stamp, (c.seat, (c.kind, (c.write_half, (c.reads, (c.writes, c.places)))))))
    (λ p. record { stamp = p.0; seat = p.1.0; kind = p.1.1.0; write_half = p.1.1.1.0; reads = p.1.1.1.1.0; writes = p.1.1.1.1.1.0; places = p.1.1.1.1.1.1 })
    (λ _. refl)

abbrev pub claimed_code : Coded Claimed
claimed_code =
    code_by (Claim × (Status × (Set × Set))) (coded× claim_code (coded× status_code (coded× set_code set_code)))
    (λ x. (x.claim, (x.status, (x.asked, x.granted))))
    (λ p. record { claim = p.0; status = p.1.0; asked = p.1.1.0; granted = p.1.1.1 })
    (λ _. refl)

abbrev pub state_code : Coded LockState
state_code =
    code_by (ReadGroups × (ℕ × (ℕ × (ℕ × List Claimed))))
    (coded× groups_code (coded× coded_ℕ (coded× coded_ℕ (coded× coded_ℕ (coded_list claimed_code)))))
    (λ s. (s.groups, (s.seats, (s.cap, (s.issued, s.claims)))))
    (λ p. record { groups = p.0; seats = p.1.0; cap = p.1.1.0; issued = p.1.1.1.0; claims = p.1.1.1.1 })
    (λ _. refl)
