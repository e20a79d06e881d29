-- What is lent to a seat: one share of each resource that it has taken for reading, and all shares of each that it has taken for writing.
use Rattle.std.specs.Prelude.{◌≡◌, ℕ, ◌+◌, Bool, false, ◌==◌, Option, Some, None, List, [], ◌∷◌, map, slice_get, slice_set, if◌then◌else◌, refl}
use Rattle.std.specs.Option.{option_map}
use Rattle.std.specs.List.{list_any, AllByRecursion}
use Rattle.std.specs.FinSet.{contains}
use Rattle.std.specs.Coded.{Coded, code_by, coded_ℕ, coded×, coded_list}
use Rattle.rmodel.specs.declared.granted.Granted.{Granted}
use Rattle.rstate.specs.Shares.{ShareFields, whole, share_code}

-- a share of the value of each resource lent to read, all shares of each lent to write, and for how many of each kind there is room
pub record LentFields (V : Type 0) : Type 0 where
  pub reads : List (ℕ × V)
  pub writes : List (ℕ × ShareFields V)
  pub reads_room : ℕ
  pub writes_room : ℕ

abbrev pub lent_code : {V : Type 0} → Coded V → Coded (LentFields V)
lent_code {V} code =
    code_by (List (ℕ × V) × (List (ℕ × ShareFields V) × (ℕ × ℕ)))
    (coded× (coded_list (coded× coded_ℕ code)) (coded× (coded_list (coded× coded_ℕ (share_code code))) (coded× coded_ℕ coded_ℕ)))
    (λ f. (f.reads, (f.writes, (f.reads_room, f.writes_room))))
    (λ p. record { reads = p.0; writes = p.1.0; reads_room = p.1.1.0; writes_room = p.1.1.1 })
    (λ _. refl)

-- the resource is among these
abbrev pub has : ℕ → List ℕ → Bool
has l places = list_any (λ k. k == l) places

-- no resource occurs twice
abbrev pub Once : List ℕ → Type 0
Once [] = Unit {0}
Once (l ∷ places) = (has l places ≡ false) × Once places

-- the resources that are lent, in order
abbrev pub places : {X : Type 0} → List (ℕ × X) → List ℕ
places loans = map (λ loan. loan.0) loans

-- what is lent of the resource among these, if it is
abbrev pub at_place : {X : Type 0} → List (ℕ × X) → ℕ → Option X
at_place [] l = None
at_place (loan ∷ loans) l = if loan.0 == l then Some loan.1 else at_place loans l

-- the first place of the resource in the list
abbrev pub index_of : {X : Type 0} → List (ℕ × X) → ℕ → ℕ
index_of [] l = 0
index_of (loan ∷ loans) l = if loan.0 == l then 0 else index_of loans l + 1

-- the list with other shares of the resource replacing those that are there
abbrev pub replaced : {X : Type 0} → List (ℕ × X) → ℕ → X → List (ℕ × X)
replaced loans l shares = slice_set loans (index_of loans l) (l, shares)

-- the value of the one share, or else of all shares
abbrev pub value_from : {V : Type 0} → Option V → Option (ShareFields V) → Option V
value_from (Some value) whole = Some value
value_from None whole = option_map (λ shares. shares.value) whole

-- the value of the resource, if it is lent
abbrev pub lent_value : {V : Type 0} → LentFields V → ℕ → Option V
lent_value lent l = value_from (at_place lent.reads l) (at_place lent.writes l)

-- Just what a seat has taken is lent to it, of values with these opening values: what it reads as it is now, by `at`, and what it writes as it will
-- be, by `later`
pub record IsLent {V : Type 0} (seats : ℕ) (g : Granted) (values : List V) (at later : ℕ → V → V) (lent : LentFields V) : Type 0 where
  pub reads_once : Once (places lent.reads)
  pub reads_has : (l : ℕ) → has l (places lent.reads) ≡ contains g.reads l
  pub reads_are : AllByRecursion (λ loan. (v : V) → slice_get values loan.0 ≡ Some v → loan.1 ≡ at loan.0 v) lent.reads
  pub writes_once : Once (places lent.writes)
  pub writes_has : (l : ℕ) → has l (places lent.writes) ≡ contains g.writes l
  pub writes_are : AllByRecursion (λ loan. (v : V) → slice_get values loan.0 ≡ Some v → loan.1 ≡ whole (seats + 1) (later loan.0 v)) lent.writes
