-- Requests: their fields, the set that a kind needs, and the normal form.
use Rattle.std.specs.Prelude.{◌≡◌, ◌≢◌, ◌≤◌, ℕ, nat_lt, Bool, ◌&&◌, true, false, refl}
use Rattle.std.specs.Coded.{Coded, code_by, coded×, coded_ℕ}
use Rattle.std.specs.FinSet.{empty, union, difference, is_subset, len}
use Rattle.rset.specs.Sets.{Set, meets}
use Rattle.rclaim.specs.Codes.{set_code, kind_code}
use Rattle.rclaim.specs.declared.request.Kind.{Kind}
use Rattle.rclaim.specs.declared.request.Kind.TheVariants.{Read, Write, Mixed, Upgrade, Nested}
use Rattle.rclaim.specs.declared.request.RequestErr.{RequestErr}
use Rattle.rclaim.specs.declared.request.RequestErr.TheVariants.{EmptyRequest, Undeclared, FirstOutside}
use Rattle.rclaim.specs.declared.TheConstants.{LENGTH_LIMIT}

-- what a request says
pub record RequestFields : Type 0 where
  pub kind : Kind
  pub reads : Set
  pub writes : Set
  pub first : Set
  pub len : ℕ
  pub later : ℕ

-- a request is coded as the tuple of its fields
abbrev pub request_code : Coded RequestFields
request_code =
    code_by (Kind × (Set × (Set × (Set × (ℕ × ℕ))))) (coded× kind_code (coded× set_code (coded× set_code (coded× set_code (coded× coded_ℕ coded_ℕ)))))
    (λ r. (r.kind, (r.reads, (r.writes, (r.first, (r.len, r.later))))))
    (λ p. record { kind = p.0; reads = p.1.0; writes = p.1.1.0; first = p.1.1.1.0; len = p.1.1.1.1.0; later = p.1.1.1.1.1 })
    (λ _. refl)

-- the one of the given sets that a request of this kind needs: it may not be empty
abbrev pub asked_set : Kind → Set → Set → Set
asked_set Read reads writes = reads
asked_set Write reads writes = writes
asked_set Mixed reads writes = writes
asked_set Upgrade reads writes = reads
asked_set Nested reads writes = writes

-- a set is not empty and a part of another
abbrev pub is_part : Set → Set → Bool
is_part part whole = nat_lt 0 (len part) && is_subset part whole

-- the first part of a nested request is a part of what it reads and writes; every other kind ignores it
abbrev pub first_fits : Kind → Set → Set → Set → Bool
first_fits Read reads writes first = true
first_fits Write reads writes first = true
first_fits Mixed reads writes first = true
first_fits Upgrade reads writes first = true
first_fits Nested reads writes first = is_part first (union reads writes)

-- the request in normal form: a read and an upgrade write nothing, a write reads nothing, and a mixed or nested request reads nothing that it writes;
-- only a nested request has a first part, and only an upgrade a later length
abbrev pub normalised : Kind → Set → Set → Set → ℕ → ℕ → RequestFields
normalised Read reads writes first len later = record { kind = Read; reads = reads; writes = empty; first = empty; len = len; later = 0 }
normalised Write reads writes first len later = record { kind = Write; reads = empty; writes = writes; first = empty; len = len; later = 0 }
normalised Mixed reads writes first len later = record { kind = Mixed; reads = difference reads writes; writes = writes; first = empty; len = len; later = 0 }
normalised Upgrade reads writes first len later = record { kind = Upgrade; reads = reads; writes = empty; first = empty; len = len; later = later }
normalised Nested reads writes first len later = record { kind = Nested; reads = difference reads writes; writes = writes; first = first; len = len; later = 0 }

-- what a request of this kind reads and writes
abbrev pub FitsKind : Kind → Set → Set → Type 0
FitsKind Read reads writes = (reads ≢ empty) × (writes ≡ empty)
FitsKind Write reads writes = (reads ≡ empty) × (writes ≢ empty)
FitsKind Mixed reads writes = (meets reads writes ≡ false) × (writes ≢ empty)
FitsKind Upgrade reads writes = (reads ≢ empty) × (writes ≡ empty)
FitsKind Nested reads writes = (meets reads writes ≡ false) × (writes ≢ empty)

-- the first part of a request of this kind that reads and writes `whole`
abbrev pub FitsFirst : Kind → Set → Set → Type 0
FitsFirst Read whole first = first ≡ empty
FitsFirst Write whole first = first ≡ empty
FitsFirst Mixed whole first = first ≡ empty
FitsFirst Upgrade whole first = first ≡ empty
FitsFirst Nested whole first = is_part first whole ≡ true

-- the later length of a request of this kind
abbrev pub FitsLater : Kind → ℕ → Type 0
FitsLater Read later = later ≡ 0
FitsLater Write later = later ≡ 0
FitsLater Mixed later = later ≡ 0
FitsLater Upgrade later = later ≤ LENGTH_LIMIT
FitsLater Nested later = later ≡ 0

-- a request is in normal form
pub record IsNormal (r : RequestFields) : Type 0 where
  pub sets : FitsKind r.kind r.reads r.writes
  pub first : FitsFirst r.kind (union r.reads r.writes) r.first
  pub len : r.len ≤ LENGTH_LIMIT
  pub later : FitsLater r.kind r.later

-- the number of a refusal
abbrev pub refusal_number : RequestErr → ℕ
refusal_number EmptyRequest = 1
refusal_number Undeclared = 2
refusal_number FirstOutside = 3
