-- Claims and values of a seat along entries of others.
use Rattle.std.proofs.Common.{◌≡◌, ◌≢◌, ℕ, ◌==◌, Bool, true, false, cond, List, [], ◌∷◌, ◌++◌, length, filter, refl, sym, ap, subst, ◌∙◌, append_assoc, append-nil, length-append, arith}
use Rattle.std.proofs.lemmas.Bool.{true≢false, eq-eqb}
use Rattle.std.specs.List.{list_any, AllByRecursion}
use Rattle.rclaim.specs.Events.{seat_of}
use Rattle.rclaim.specs.declared.claim.Claim.{Claim}
use Rattle.rlock.specs.Known.{entries_by}
use Rattle.rlock.proofs.Entries.{entries_by-append}
use Rattle.rmodel.specs.Reached.{IsReached}
use Rattle.rmodel.specs.State.{LockState}
use Rattle.rmodel.specs.StateLaws.{gives_back}
use Rattle.rmodel.specs.Steps.{is_not_holding}
use Rattle.rvalue.specs.Entries.{EntryFields}
use Rattle.rvalue.specs.InTurn.{AllInTurn}
use Rattle.rstate.specs.Histories.{Beginning, lock_after, MayFollow}
use Rattle.rstate.proofs.histories.Following.{lock_push, reached_push}
use Rattle.rguard.proofs.seats.Claims.{claim_next, holding_next, gives_not}

-- the seat that made an entry
abbrev pub maker : {E : Type 0} → EntryFields E → ℕ
maker entry = seat_of entry.event

-- no entry is of this seat
abbrev pub AreOfOthers : {E : Type 0} → ℕ → List (EntryFields E) → Type 0
AreOfOthers {E} n more = AllByRecursion (λ (entry : EntryFields E). (maker entry == n) ≡ false) more

-- a filter that leaves nothing
none_left : {X : Type 0} (p : X → Bool) (xs : List X) → length (filter p xs) ≡ 0 → AllByRecursion (λ x. p x ≡ false) xs
none_left p [] none = tt
none_left p (x ∷ xs) none = at (p x) refl (none_left p xs)
  where
    at : (b : Bool) → p x ≡ b → (length (filter p xs) ≡ 0 → AllByRecursion (λ x. p x ≡ false) xs) → (p x ≡ false) × AllByRecursion (λ x. p x ≡ false) xs
    at true is rest = absurd (omega (arith, ap (λ (c : Bool). length (cond c (x ∷ filter p xs) (filter p xs))) is, none))
    at false is rest = (is, rest (ap (λ (c : Bool). length (cond c (x ∷ filter p xs) (filter p xs))) (sym is) ∙ none))

-- what comes after is of others if the seat's own entries are the same before and after
pub others_behind : {E : Type 0} (n : ℕ) (seen more : List (EntryFields E)) → entries_by maker n (seen ++ more) ≡ entries_by maker n seen → AreOfOthers n more
others_behind {E} n seen more same =
    none_left (λ (e : EntryFields E). maker e == n) more
    (omega (arith, ap length (sym (entries_by-append (λ (e : EntryFields E). maker e) n seen more) ∙ same), length-append (entries_by (λ (e : EntryFields E). maker e) n seen) (entries_by (λ (e : EntryFields E). maker e) n more)))

pub differs : (m n : ℕ) → (m == n) ≡ false → m ≢ n
differs m n h is = true≢false (sym (eq-eqb m n is) ∙ h)

module _ {V E : Type 0} (after : V → E → V) (taken : V → E → Bool) (number : V → ℕ) (b : Beginning V) (n : ℕ) where
  abbrev Follows : List (EntryFields E) → EntryFields E → Type 0
  Follows = MayFollow after taken number b

  pub claim_along : (q : Claim → Bool) → ((c : Claim) → q c ≡ true → c.seat ≡ n) → (earlier more : List (EntryFields E)) → IsReached (lock_after b earlier) → AllInTurn Follows earlier more → AreOfOthers n more
      → list_any (λ x. q x.claim) (lock_after b (earlier ++ more)).claims ≡ list_any (λ x. q x.claim) (lock_after b earlier).claims
  claim_along q of earlier [] reached fits others = ap (λ es. list_any (λ x. q x.claim) (lock_after b es).claims) (append-nil earlier)
  claim_along q of earlier (e ∷ more) reached fits others =
      ap (λ es. list_any (λ x. q x.claim) (lock_after b es).claims) (sym (append_assoc earlier (e ∷ []) more))
      ∙ claim_along q of (earlier ++ e ∷ []) more (reached_push after taken number b earlier e reached fits.0) fits.1 others.1
      ∙ ap (λ (s : LockState). list_any (λ x. q x.claim) s.claims) (lock_push b earlier e)
      ∙ claim_next n q of (lock_after b earlier) e.event reached fits.0.comes (differs (maker e) n others.0)

  pub holding_along : (earlier more : List (EntryFields E)) → IsReached (lock_after b earlier) → AllInTurn Follows earlier more → AreOfOthers n more
      → is_not_holding (lock_after b earlier).claims n ≡ false → is_not_holding (lock_after b (earlier ++ more)).claims n ≡ false
  holding_along earlier [] reached fits others holding = subst (λ es. is_not_holding (lock_after b es).claims n ≡ false) (sym (append-nil earlier)) holding
  holding_along earlier (e ∷ more) reached fits others holding =
      subst (λ es. is_not_holding (lock_after b es).claims n ≡ false) (append_assoc earlier (e ∷ []) more)
      (holding_along (earlier ++ e ∷ []) more (reached_push after taken number b earlier e reached fits.0) fits.1 others.1
      (subst (λ (s : LockState). is_not_holding s.claims n ≡ false) (sym (lock_push b earlier e))
      (holding_next n (lock_after b earlier) e.event reached fits.0.comes (differs (maker e) n others.0) holding)))

  -- entries of others give back nothing of the seat's
  pub none_given : (more : List (EntryFields E)) → AreOfOthers n more → AllByRecursion (λ (entry : EntryFields E). gives_back n entry.event ≡ false) more
  none_given [] others = tt
  none_given (e ∷ more) others = (gives_not n e.event (differs (maker e) n others.0), none_given more others.1)
