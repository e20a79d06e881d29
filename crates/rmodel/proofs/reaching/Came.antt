-- Where the claims after an event come from, and where those before it go.
use Rattle.std.proofs.Common.{◌≡◌, ℕ, ◌==◌, Bool, true, false, not, ◌&&◌, cond, List, [], ◌∷◌, ◌++◌, map, refl, sym, ap, subst, ◌∙◌, ◌⊎◌, inl, inr}
use Rattle.std.proofs.lemmas.Bool.{eq-eqb, eqb-true}
use Rattle.std.specs.List.{AllZip}
use Rattle.std.specs.FinSet.{empty, union, is_subset}
use Rattle.rset.specs.Sets.{Set}
use Rattle.rset.proofs.SetLemmas.{within_reflexive, within_union_left}
use Rattle.rclaim.specs.declared.claim.Status.TheVariants.{Waiting}
use Rattle.rclaim.specs.declared.event.Event.{Event}
use Rattle.rclaim.specs.declared.event.Event.TheVariants.{Issue, Finish, Rise, Ask}
use Rattle.rmodel.specs.declared.claimed.Claimed.{Claimed}
use Rattle.rmodel.specs.Claims.{claims_of, waiting}
use Rattle.rmodel.specs.Holds.{has_request}
use Rattle.rmodel.specs.Reached.{IsReached}
use Rattle.rmodel.specs.Rules.{SettlesAt, Settles}
use Rattle.rmodel.specs.Settling.{settled}
use Rattle.rmodel.specs.State.{LockState}
use Rattle.rmodel.specs.StateLaws.{gives_back}
use Rattle.rmodel.specs.Steps.{changed, next, asking, gets_asked, with_asked, given, Comes}
use Rattle.rmodel.proofs.ListFacts.{Among, contrary, false_from, all_at, among_append, among_filter, in_filter, zip_partner, zip_map_right, zip_same}
use Rattle.rmodel.proofs.reaching.NewClaims.{IsNew, new_claims}
use Rattle.rmodel.proofs.settling.Settlement.{settles_settled}
use Rattle.rmodel.proofs.reaching.Soundness.{seat_is_idle, sound_changed}

-- ---- elements of lists

pub among_map : {X Y : Type 0} (f : X → Y) (xs : List X) (y : Y) → Among y (map f xs) → (x : X) × Among x xs × (y ≡ f x)
among_map f [] y there = absurd there
among_map f (x ∷ xs) y (inl same) = (x, inl refl, same)
among_map f (x ∷ xs) y (inr later) = let found = among_map f xs y later in (found.0, inr found.1, found.2)

pub in_map : {X Y : Type 0} (f : X → Y) (xs : List X) (x : X) → Among x xs → Among (f x) (map f xs)
in_map f [] x there = absurd there
in_map f (z ∷ xs) x (inl same) = inl (ap f same)
in_map f (z ∷ xs) x (inr later) = inr (in_map f xs x later)

pub in_append : {X : Type 0} (xs ys : List X) (x : X) → Among x xs → Among x (xs ++ ys)
in_append [] ys x there = absurd there
in_append (z ∷ xs) ys x (inl same) = inl same
in_append (z ∷ xs) ys x (inr later) = inr (in_append xs ys x later)

-- the partner of an element of the second list
pub zip_source : {X Y : Type 0} (R : X → Y → Type 0) (xs : List X) (ys : List Y) (y : Y) → AllZip R xs ys → Among y ys → (x : X) × Among x xs × R x y
zip_source R [] [] y zip there = absurd there
zip_source R [] (z ∷ ys) y zip there = absurd zip
zip_source R (x ∷ xs) [] y zip there = absurd there
zip_source R (x ∷ xs) (z ∷ ys) y zip (inl same) = (x, inl refl, subst (λ (w : _). R x w) (sym same) zip.0)
zip_source R (x ∷ xs) (z ∷ ys) y zip (inr later) = let found = zip_source R xs ys y zip.1 later in (found.0, inr found.1, found.2)

-- ---- an event changes the list

-- a claim as it was, except for what it asks for
pub record IsStill (was x : Claimed) : Type 0 where
  pub claim : x.claim ≡ was.claim
  pub status : x.status ≡ was.status
  pub granted : x.granted ≡ was.granted

-- a claim that was there before the event
pub record WasThere (s : LockState) (x : Claimed) : Type 0 where
  pub was : Claimed
  pub there : Among was s.claims
  pub still : IsStill was x

-- a claim that the event added: it waits, nothing is granted to it, and its seat had no request
pub record IsBrought (s : LockState) (x : Claimed) : Type 0 where
  pub idle : has_request s.claims x.claim.seat ≡ false
  pub stamped : x.claim.stamp ≡ s.issued
  pub waits : x.status ≡ Waiting
  pub nothing_granted : x.granted ≡ empty

itself : (s : LockState) (x : Claimed) → Among x s.claims → WasThere s x
itself s x there = record { was = x; there = there; still = record { claim = refl; status = refl; granted = refl } }

asks_still : (seat : ℕ) (part : Set) (x : Claimed) → IsStill x (asking seat part x)
asks_still seat part x = at (x.claim.seat == seat)
  where
    at : (b : Bool) → IsStill x (cond b (record x { asked = part }) x)
    at true = record { claim = refl; status = refl; granted = refl }
    at false = record { claim = refl; status = refl; granted = refl }

pub origin : (s : LockState) (e : Event) → Comes s e → (x : Claimed) → Among x (changed s e).claims → WasThere s x ⊎ IsBrought s x
origin s (Issue seat r) comes x there =
    let ns = map (waiting r.first) (claims_of s.groups.groups s.issued seat r) in
    elim (among_append s.claims ns x there) [
      | inl old ↦ inl (itself s x old)
      | inr new ↦ inr (brought (all_at (IsNew s.issued seat) ns x (new_claims s.groups.groups s.issued seat r comes.normal).each new))
    ]
  where
    brought : IsNew s.issued seat x → IsBrought s x
    brought new = record {
      idle = ap (has_request s.claims) new.seated ∙ seat_is_idle s seat r comes.accepted;
      stamped = new.stamped;
      waits = new.waits;
      nothing_granted = new.nothing_granted;
    }
origin s (Finish seat) comes x there = inl (itself s x (among_filter (λ x. not (x.claim.seat == seat)) s.claims x there).0)
origin s (Rise seat) comes x there = inl (itself s x (among_filter (λ x. not ((x.claim.seat == seat) && not x.claim.write_half)) s.claims x there).0)
origin s (Ask seat part) comes x there =
    let found = among_map (asking seat part) s.claims x there in
    inl (record { was = found.0; there = found.1; still = subst (λ (z : Claimed). IsStill found.0 z) (sym found.2) (asks_still seat part found.0) })

-- the same test of two numbers, the other way round
turned : (m n : ℕ) → (n == m) ≡ false → (m == n) ≡ false
turned m n other = false_from (m == n) (λ h. contrary (n == m) (eq-eqb n m (sym (eqb-true m n h))) other)

-- a claim of a seat that gives nothing back is left
pub record IsLeftAs (s : LockState) (e : Event) (x : Claimed) : Type 0 where
  pub to : Claimed
  pub there : Among to (changed s e).claims
  pub still : IsStill x to

pub left : (s : LockState) (e : Event) (x : Claimed) → Among x s.claims → gives_back x.claim.seat e ≡ false → IsLeftAs s e x
left s (Issue seat r) x there stays = record { to = x; there = in_append s.claims _ x there; still = record { claim = refl; status = refl; granted = refl } }
left s (Finish seat) x there stays =
    record { to = x; there = in_filter (λ x. not (x.claim.seat == seat)) s.claims x there (ap not (turned x.claim.seat seat stays)); still = record { claim = refl; status = refl; granted = refl } }
left s (Rise seat) x there stays =
    record {
      to = x;
      there = in_filter (λ x. not ((x.claim.seat == seat) && not x.claim.write_half)) s.claims x there (ap (λ b. not (b && not x.claim.write_half)) (turned x.claim.seat seat stays));
      still = record { claim = refl; status = refl; granted = refl };
    }
left s (Ask seat part) x there stays = record { to = asking seat part x; there = in_map (asking seat part) s.claims x there; still = asks_still seat part x }

-- ---- then it is settled, and what is asked for is granted

-- a claim before and after it gets what it asks for
pub record IsGiven (x y : Claimed) : Type 0 where
  pub claim : y.claim ≡ x.claim
  pub status : y.status ≡ x.status
  pub granted : is_subset x.granted y.granted ≡ true

pub given_more : (xs : List Claimed) → AllZip IsGiven xs (given xs)
unfolding given
given_more xs = zip_map_right (with_asked xs) (λ x y. x ≡ y) IsGiven (λ x y e. subst (λ (z : Claimed). IsGiven z (with_asked xs y)) (sym e) (at y (gets_asked xs y))) xs xs (zip_same (λ x y. x ≡ y) (λ x. refl) xs)
  where
    at : (y : Claimed) (b : Bool) → IsGiven y (cond b (record y { asked = empty; granted = union y.granted y.asked }) y)
    at y true = record { claim = refl; status = refl; granted = within_union_left y.granted y.asked }
    at y false = record { claim = refl; status = refl; granted = within_reflexive y.granted }

-- a claim as the event leaves it, and the same claim settled and granted
pub record Moves (s : LockState) (e : Event) (x y : Claimed) : Type 0 where
  pub mid : Claimed
  pub in_changed : Among x (changed s e).claims
  pub in_next : Among y (next s e).claims
  pub by_rule : SettlesAt (changed s e).claims (settled (changed s e).claims) x mid
  pub given : IsGiven mid y

module _ (s : LockState) (e : Event) (reached : IsReached s) (comes : Comes s e) where
  abbrev xs : List Claimed
  xs = (changed s e).claims

  settles : Settles xs (settled xs)
  settles = settles_settled xs (sound_changed s e reached.sound comes).well_formed

  pub came : (y : Claimed) → Among y (next s e).claims → (x : Claimed) × Moves s e x y
  came y there =
      let b = zip_source IsGiven (settled xs) (given (settled xs)) y (given_more (settled xs)) there in
      let a = zip_source (SettlesAt xs (settled xs)) xs (settled xs) b.0 settles b.1 in
      (a.0, record { mid = b.0; in_changed = a.1; in_next = there; by_rule = a.2; given = b.2 })

  pub goes : (x : Claimed) → Among x xs → (y : Claimed) × Moves s e x y
  goes x there =
      let a = zip_partner (SettlesAt xs (settled xs)) xs (settled xs) x settles there in
      let b = zip_partner IsGiven (settled xs) (given (settled xs)) a.0 (given_more (settled xs)) a.1 in
      (b.0, record { mid = a.0; in_changed = there; in_next = b.1; by_rule = a.2; given = b.2 })
