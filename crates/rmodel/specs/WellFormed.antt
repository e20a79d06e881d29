-- Well-formed lists of claims: stamps rise, and each claim is that of a request.
use Rattle.std.specs.Prelude.{◌≡◌, ◌≢◌, ◌<◌, ◌≤◌, true, false, List, [], ◌∷◌, ◌⊎◌}
use Rattle.std.specs.List.{AllByRecursion}
use Rattle.std.specs.FinSet.{empty, union, is_subset}
use Rattle.rclaim.specs.declared.claim.Claim.{Claim}
use Rattle.rmodel.specs.declared.claimed.Claimed.{Claimed}
use Rattle.rset.specs.Sets.{Set, meets}
use Rattle.rexpand.specs.Groups.{is_declared, places_of}
use Rattle.rmodel.specs.Claims.{share_place, conflicts, conflicts_on, is_active, is_satisfied, is_nested, is_read_half, is_upgrade}
use Rattle.rmodel.specs.State.{LockState}
use Rattle.rmodel.specs.Steps.{incomplete_of}

-- an element of the list
abbrev pub Among : {X : Type 0} → X → List X → Type 0
Among x [] = ⊥
Among x (y ∷ ys) = (x ≡ y) ⊎ Among x ys

-- the relation holds between each element and each that comes after it
abbrev pub EachPair : {X : Type 0} → (X → X → Type 0) → List X → Type 0
EachPair R [] = Unit {0}
EachPair R (x ∷ xs) = AllByRecursion (R x) xs × EachPair R xs

-- a claim's stamp is not above that of a later one, and that of a write is below it
pub record Rises (x y : Claimed) : Type 0 where
  pub not_above : x.claim.stamp ≤ y.claim.stamp
  pub after_write : x.claim.write_half ≡ true → x.claim.stamp < y.claim.stamp

-- a read claim reads something, writes nothing and has its places where it reads;
-- a write claim writes something and has places where it reads and where it writes
pub record IsClaim (c : Claim) : Type 0 where
  pub reads_some : c.write_half ≡ false → c.reads ≢ empty
  pub read_only : c.write_half ≡ false → c.writes ≡ empty
  pub read_places : c.write_half ≡ false → c.places ≡ c.reads
  pub writes_some : c.write_half ≡ true → c.writes ≢ empty
  pub reads_placed : c.write_half ≡ true → is_subset c.reads c.places ≡ true
  pub writes_placed : c.write_half ≡ true → is_subset c.writes c.places ≡ true

-- a list of claims is well formed
pub record AreWellFormed (xs : List Claimed) : Type 0 where
  pub rising : EachPair Rises xs
  pub claims : AllByRecursion (λ x. IsClaim x.claim) xs

-- where a write is entitled or satisfied and an earlier write shares a place with it, the earlier one is satisfied and writes no place of the later one
abbrev pub Entered : Claimed → Claimed → Type 0
Entered x y =
    x.claim.write_half ≡ true → y.claim.write_half ≡ true → share_place x.claim y.claim ≡ true → is_active y ≡ true
    → (is_satisfied x ≡ true) × (meets x.claim.writes y.claim.places ≡ false)

-- two satisfied claims do not conflict
abbrev pub Apart : Claimed → Claimed → Type 0
Apart x y = is_satisfied x ≡ true → is_satisfied y ≡ true → conflicts x.claim y.claim ≡ false

-- the claims of a list are exclusive: no two satisfied ones conflict, and writes have entered by the rules
pub record AreExclusive (xs : List Claimed) : Type 0 where
  pub well_formed : AreWellFormed xs
  pub entered : EachPair Entered xs
  pub apart : EachPair Apart xs

-- these groups admit a claim: what a read claim reads is declared, and the places of a write claim are expanded by the groups
pub record IsAdmittedBy (groups : List Set) (c : Claim) : Type 0 where
  pub declared : c.write_half ≡ false → is_declared groups c.reads ≡ true
  pub expanded : c.write_half ≡ true → c.places ≡ places_of groups c.reads c.writes

-- they admit each claim of a list
abbrev pub AreAdmittedBy : List Set → List Claimed → Type 0
AreAdmittedBy groups xs = AllByRecursion (λ x. IsAdmittedBy groups x.claim) xs

-- the first claim is the read half of an upgrade and the second its write half
pub record AreHalves (x y : Claim) : Type 0 where
  pub stamp : x.stamp ≡ y.stamp
  pub reads : is_read_half x ≡ true
  pub upgrade : is_upgrade y.kind ≡ true
  pub writes : y.write_half ≡ true
  pub same : y.writes ≡ x.reads

-- two claims of one seat are the halves of its upgrade
abbrev pub Distinct : Claimed → Claimed → Type 0
Distinct x y = x.claim.seat ≡ y.claim.seat → AreHalves x.claim y.claim

-- the write half of an upgrade is entitled or satisfied only once its read half is satisfied
abbrev pub TakeTurns : Claimed → Claimed → Type 0
TakeTurns x y = x.claim.seat ≡ y.claim.seat → is_active y ≡ true → is_satisfied x ≡ true

-- what was granted to x while it is not satisfied is free of v, if v is satisfied
abbrev pub IsFreeOf : Claimed → Claimed → Type 0
IsFreeOf v x = is_satisfied v ≡ true → is_satisfied x ≡ false → conflicts_on v.claim x.claim x.granted ≡ false

-- what was granted to either of two claims is free of the other
abbrev pub AreFree : Claimed → Claimed → Type 0
AreFree x y = IsFreeOf x y × IsFreeOf y x

-- what a claim asks for and was granted: parts of what a nested request reads and writes, and nothing for any other;
-- a nested request always asks for something or was granted something, and nothing is granted to a claim that waits
pub record HasParts (x : Claimed) : Type 0 where
  pub of_others : is_nested x.claim.kind ≡ false → (x.asked ≡ empty) × (x.granted ≡ empty)
  pub writes : is_nested x.claim.kind ≡ true → x.claim.write_half ≡ true
  pub some : is_nested x.claim.kind ≡ true → union x.granted x.asked ≢ empty
  pub asked : is_subset x.asked (union x.claim.reads x.claim.writes) ≡ true
  pub granted : is_subset x.granted (union x.claim.reads x.claim.writes) ≡ true
  pub waits : is_active x ≡ false → x.granted ≡ empty

-- a lock state is sound: its claims are well formed, with stamps that were given out and seats that exist, each seat with the claims of at most one request,
-- and no more requests than the cap
pub record IsSound (s : LockState) : Type 0 where
  pub well_formed : AreWellFormed s.claims
  pub given_out : AllByRecursion (λ x. x.claim.stamp < s.issued) s.claims
  pub seated : AllByRecursion (λ x. x.claim.seat < s.seats) s.claims
  pub one_each : EachPair Distinct s.claims
  pub parts : AllByRecursion HasParts s.claims
  pub within_cap : incomplete_of s ≤ s.cap
