-- The claims of a seat while it is in a section, by its own entries; they are so after every lawful history.
use Rattle.std.proofs.Common.{◌≡◌, ◌≢◌, ℕ, ◌==◌, nat_lt, Bool, true, false, cond, not, ◌&&◌, ◌||◌, List, [], ◌∷◌, ◌++◌, map, Option, Some, None, refl, sym, ap, subst, ◌∙◌, ◌⊎◌, inl, inr, append-nil, append_assoc}
use Rattle.std.proofs.lemmas.Bool.{true≢false, eq-eqb, eqb-true, or_parts}
use Rattle.std.proofs.lemmas.List.Sums.{fold-append}
use Rattle.std.specs.Ordering.{nat_cmp}
use Rattle.std.specs.FinSet.{empty, union, contains, len}
use Rattle.std.specs.List.{AllByRecursion}
use Rattle.std.specs.Prelude.{fold, option_map}
use Rattle.rset.specs.Sets.{Set}
use Rattle.rset.proofs.SetLemmas.{contains_empty, contains_union}
use Rattle.rclaim.specs.Events.{seat_of}
use Rattle.rclaim.specs.Requests.{RequestFields}
use Rattle.rclaim.specs.declared.claim.Claim.{Claim}
use Rattle.rclaim.specs.declared.event.Event.{Event}
use Rattle.rclaim.specs.declared.event.Event.TheVariants.{Issue, Finish, Rise, Ask}
use Rattle.rclaim.specs.declared.request.Kind.{Kind}
use Rattle.rclaim.specs.declared.request.Kind.TheVariants as kinds
use Rattle.rlock.specs.Known.{entries_by}
use Rattle.rlock.proofs.Entries.{entries_by-append}
use Rattle.rmodel.specs.declared.claimed.Claimed.{Claimed}
use Rattle.rmodel.specs.declared.refused.Refused.{Refused}
use Rattle.rmodel.specs.Claims.{claims_of, claims_by, is_nested, waiting}
use Rattle.rmodel.specs.Holds.{holds_of, has_request, has_ask, is_nothing, may_rise}
use Rattle.rmodel.specs.Reached.{IsReached}
use Rattle.rmodel.specs.Rules.{SettlesAt}
use Rattle.rmodel.specs.Settling.{settled}
use Rattle.rmodel.specs.State.{LockState}
use Rattle.rmodel.specs.Steps.{Comes, changed, next, given, asking, with_asked, gets_asked, is_not_holding}
use Rattle.rmodel.proofs.ListFacts.{Among, contrary, false_from, all_at, among_append, among_filter, none_among}
use Rattle.rmodel.proofs.reaching.Came.{among_map, zip_source}
use Rattle.rmodel.proofs.reaching.NewClaims.{IsNew, new_claims}
use Rattle.rmodel.proofs.reaching.Soundness.{seat_is_idle, sound_changed}
use Rattle.rmodel.proofs.settling.Giving.{no_members}
use Rattle.rmodel.proofs.settling.Settlement.{settles_settled}
use Rattle.rvalue.specs.Entries.{EntryFields}
use Rattle.rvalue.specs.InTurn.{AllInTurn}
use Rattle.rvalue.proofs.InTurnLemmas.{AllInTurn-longer}
use Rattle.rstate.specs.Histories.{Beginning, lock_after, MayFollow, IsLawfulFrom}
use Rattle.rstate.proofs.histories.Following.{lock_push, reached_lawful}
use Rattle.rstate.proofs.homes.Lists.{same_item}
use Rattle.rguard.proofs.seats.Along.{maker, differs}
use Rattle.rguard.proofs.seats.Claims.{is_of, of_seat, claim_next, claim_asked, issued_next}
use Rattle.rguard.proofs.seats.Halves.{has_half, risen_next}

-- ---- sections

-- a section that is open: its request, whether that has risen, and what it has asked for
pub record OpenSection : Type 0 where
  pub request : RequestFields
  pub risen : Bool
  pub asked : Set

-- the section that a request begins
abbrev pub begun : RequestFields → OpenSection
begun r = record { request = r; risen = false; asked = r.first }

-- a section that has asked for another part
abbrev pub having_asked : Set → OpenSection → OpenSection
having_asked part s = record s { asked = union s.asked part }

-- a section that has risen
abbrev pub having_risen : OpenSection → OpenSection
having_risen s = record s { risen = true }

-- the section that is open after one more of a seat's own events, if any
abbrev pub section_told : Option OpenSection → Event → Option OpenSection
section_told section (Issue seat r) = Some (begun r)
section_told section (Finish seat) = None
section_told section (Rise seat) = option_map having_risen section
section_told section (Ask seat part) = option_map (having_asked part) section

-- the section that is open after a seat's own entries, if any
abbrev pub section_made : {E : Type 0} → List (EntryFields E) → Option OpenSection
section_made {E} mine = fold (λ section (entry : EntryFields E). section_told section entry.event) None mine

-- ---- a claim of a section

-- a half of an upgrade, and the half that writes once it has risen
abbrev pub HalfFor : Bool → Set → Claim → Type 0
HalfFor risen reads c =
    ((risen ≡ false) × (c.write_half ≡ false) × (c.reads ≡ reads) × (c.writes ≡ empty)) ⊎ ((c.write_half ≡ true) × (c.reads ≡ empty) × (c.writes ≡ reads))

abbrev pub SetsFor : Kind → Bool → Set → Set → Claim → Type 0
SetsFor kinds.Read risen reads writes c = (c.reads ≡ reads) × (c.writes ≡ writes)
SetsFor kinds.Write risen reads writes c = (c.reads ≡ reads) × (c.writes ≡ writes)
SetsFor kinds.Mixed risen reads writes c = (c.reads ≡ reads) × (c.writes ≡ writes)
SetsFor kinds.Upgrade risen reads writes c = HalfFor risen reads c
SetsFor kinds.Nested risen reads writes c = (c.reads ≡ reads) × (c.writes ≡ writes)

-- the claim belongs to a section with a request of this kind that reads and writes these sets
pub record IsFor (kind : Kind) (risen : Bool) (reads writes asked : Set) (x : Claimed) : Type 0 where
  pub kind_is : x.claim.kind ≡ kind
  pub sets : SetsFor kind risen reads writes x.claim
  pub parts : is_nested kind ≡ true → (l : ℕ) → (contains x.granted l || contains x.asked l) ≡ contains asked l

-- the claims of a new request
new_part : (first : Set) (l : ℕ) → (contains (empty {R = nat_cmp}) l || contains first l) ≡ contains first l
new_part first l = ap (λ b. b || contains first l) (contains_empty l)

new_for : (groups : List Set) (kind : Kind) (stamp n : ℕ) (reads writes first : Set) → AllByRecursion (IsFor kind false reads writes first) (map (waiting first) (claims_by groups kind stamp n reads writes))
new_for groups kinds.Read stamp n reads writes first = (record { kind_is = refl; sets = (refl, refl); parts = λ nested l. new_part first l }, tt)
new_for groups kinds.Write stamp n reads writes first = (record { kind_is = refl; sets = (refl, refl); parts = λ nested l. new_part first l }, tt)
new_for groups kinds.Mixed stamp n reads writes first = (record { kind_is = refl; sets = (refl, refl); parts = λ nested l. new_part first l }, tt)
new_for groups kinds.Upgrade stamp n reads writes first =
    (record { kind_is = refl; sets = inl (refl, refl, refl, refl); parts = λ nested l. new_part first l }, (record { kind_is = refl; sets = inr (refl, refl, refl); parts = λ nested l. new_part first l }, tt))
new_for groups kinds.Nested stamp n reads writes first = (record { kind_is = refl; sets = (refl, refl); parts = λ nested l. new_part first l }, tt)

module _ (kind : Kind) (risen : Bool) (reads writes asked : Set) where
  abbrev For : Claimed → Type 0
  For = IsFor kind risen reads writes asked

  moved : (x y : Claimed) → y.claim ≡ x.claim → y.asked ≡ x.asked → y.granted ≡ x.granted → For x → For y
  moved x y same_claim same_asked same_granted is = record {
    kind_is = ap (λ (c : Claim). c.kind) same_claim ∙ is.kind_is;
    sets = subst (SetsFor kind risen reads writes) (sym same_claim) is.sets;
    parts = λ nested l. (λ i. contains (same_granted i) l || contains (same_asked i) l) ∙ is.parts nested l;
  }

  -- what it asks for is granted, or not
  given_for : (xs : List Claimed) (x : Claimed) → For x → For (with_asked xs x)
  given_for xs x is = at (gets_asked xs x)
    where
      or_false : (a : Bool) → (a || false) ≡ a
      or_false true = refl
      or_false false = refl

      at : (b : Bool) → For (cond b (record x { asked = empty; granted = union x.granted x.asked }) x)
      at true = record {
        kind_is = is.kind_is;
        sets = is.sets;
        parts = λ nested l. (λ i. contains_union x.granted x.asked l i || contains_empty l i) ∙ or_false (contains x.granted l || contains x.asked l) ∙ is.parts nested l;
      }
      at false = is

  -- it has risen
  risen_for : (x : Claimed) → x.claim.write_half ≡ true → For x → IsFor kind true reads writes asked x
  risen_for x half is = record { kind_is = is.kind_is; sets = sets kind is.sets; parts = is.parts }
    where
      sets : (k : Kind) → SetsFor k risen reads writes x.claim → SetsFor k true reads writes x.claim
      sets kinds.Read h = h
      sets kinds.Write h = h
      sets kinds.Mixed h = h
      sets kinds.Upgrade (inl h) = contrary x.claim.write_half half h.1
      sets kinds.Upgrade (inr h) = inr h
      sets kinds.Nested h = h

  -- it asks for another part, where it was asking for nothing
  asked_for : (x : Claimed) (part : Set) → ((l : ℕ) → contains x.asked l ≡ false) → For x → IsFor kind risen reads writes (union asked part) (record x { asked = part })
  asked_for x part none is = record {
    kind_is = is.kind_is;
    sets = is.sets;
    parts = λ nested l. ap (λ b. b || contains part l) (sym (or_false (contains x.granted l)) ∙ ap (λ b. contains x.granted l || b) (sym (none l)) ∙ is.parts nested l) ∙ sym (contains_union asked part l);
  }
    where
      or_false : (a : Bool) → (a || false) ≡ a
      or_false true = refl
      or_false false = refl

-- a claim after an event, and what it was when the event had changed the list
pub record Comer (s : LockState) (e : Event) (y : Claimed) : Type 0 where
  pub from : Claimed
  pub there : Among from (changed s e).claims
  pub claim : y.claim ≡ from.claim
  pub stays : (kind : Kind) (risen : Bool) (reads writes asked : Set) → IsFor kind risen reads writes asked from → IsFor kind risen reads writes asked y

comer : (s : LockState) (e : Event) → IsReached s → Comes s e → (y : Claimed) → Among y (next s e).claims → Comer s e y
unfolding given
comer s e reached comes y there =
    let xs = (changed s e).claims in
    let b = among_map (with_asked (settled xs)) (settled xs) y there in
    let a = zip_source (SettlesAt xs (settled xs)) xs (settled xs) b.0 (settles_settled xs (sound_changed s e reached.sound comes).well_formed) b.1 in
    let same : (with_asked (settled xs) b.0).claim ≡ b.0.claim = claim_kept (settled xs) b.0 in
    record {
      from = a.0;
      there = a.1;
      claim = ap (λ (z : Claimed). z.claim) b.2 ∙ same ∙ a.2.same;
      stays = λ kind risen reads writes asked is. subst (IsFor kind risen reads writes asked) (sym b.2)
          (given_for kind risen reads writes asked (settled xs) b.0 (moved kind risen reads writes asked a.0 b.0 a.2.same a.2.asked a.2.granted is));
    }
  where
    claim_kept : (xs : List Claimed) (x : Claimed) → (with_asked xs x).claim ≡ x.claim
    claim_kept xs x = at (gets_asked xs x)
      where
        at : (b : Bool) → (cond b (record x { asked = empty; granted = union x.granted x.asked }) x).claim ≡ x.claim
        at true = refl
        at false = refl

-- ---- the claims of a seat

-- the seat has a request, and its claims are those of the section
pub record Stands (n : ℕ) (s : OpenSection) (lock : LockState) : Type 0 where
  pub some : has_request lock.claims n ≡ true
  pub each : (x : Claimed) → Among x lock.claims → x.claim.seat ≡ n → IsFor s.request.kind s.risen s.request.reads s.request.writes s.asked x

passed : (b : Bool) (cause : Refused) (rest : Option Refused) → cond b (Some cause) rest ≡ None → (b ≡ false) × (rest ≡ None)
passed true cause rest h = absurd (some_none cause h)
  where
    some_none : (x : Refused) → Some x ≡ None → ⊥
    some_none x h = cc
passed false cause rest h = (refl, h)

pub none_in : (s : Set) → nat_lt 0 (len s) ≡ false → (l : ℕ) → contains s l ≡ false
none_in s none l = ap (λ (t : Set). contains t l) (no_members s none) ∙ contains_empty l

same_section : (x y : OpenSection) → Some x ≡ Some y → x ≡ y
same_section x y h = same_item x y h

-- after its own events
after_issue : (n : ℕ) (r : RequestFields) (s : LockState) → IsReached s → Comes s (Issue n r) → Stands n (begun r) (next s (Issue n r))
after_issue n r s reached comes = record {
  some = issued_next s n r reached comes;
  each = λ y there of.
      let x = comer s (Issue n r) reached comes y there in
      let ns = map (waiting r.first) (claims_of s.groups.groups s.issued n r) in
      x.stays r.kind false r.reads r.writes r.first (elim (among_append s.claims ns x.from x.there) [
        | inl old ↦ contrary ((x.from).claim.seat == n) (eq-eqb (x.from).claim.seat n (ap (λ (c : Claim). c.seat) (sym x.claim) ∙ of)) (none_among (λ x. x.claim.seat == n) s.claims x.from (seat_is_idle s n r comes.accepted) old)
        | inr new ↦ all_at (IsFor r.kind false r.reads r.writes r.first) ns x.from (new_for s.groups.groups r.kind s.issued n r.reads r.writes r.first) new
      ]);
}

after_rise : (n : ℕ) (sec : OpenSection) (s : LockState) → IsReached s → Comes s (Rise n) → has_request (next s (Rise n)).claims n ≡ true → Stands n sec s → Stands n (having_risen sec) (next s (Rise n))
after_rise n sec s reached comes some was = record {
  some = some;
  each = λ y there of.
      let x = comer s (Rise n) reached comes y there in
      let seated : (x.from).claim.seat ≡ n = ap (λ (c : Claim). c.seat) (sym x.claim) ∙ of in
      let old = among_filter (λ x. not ((x.claim.seat == n) && not x.claim.write_half)) s.claims x.from x.there in
      x.stays sec.request.kind true sec.request.reads sec.request.writes sec.asked
      (risen_for sec.request.kind sec.risen sec.request.reads sec.request.writes sec.asked x.from (writes ((x.from).claim.seat == n) (x.from).claim.write_half (eq-eqb (x.from).claim.seat n seated) old.1) (was.each x.from old.0 seated));
}
  where
    writes : (a b : Bool) → a ≡ true → not (a && not b) ≡ true → b ≡ true
    writes true true is h = refl
    writes true false is h = absurd (true≢false (sym h))
    writes false b is h = absurd (true≢false (sym is))

after_ask : (n : ℕ) (part : Set) (sec : OpenSection) (s : LockState) → IsReached s → Comes s (Ask n part) → Stands n sec s → Stands n (having_asked part sec) (next s (Ask n part))
after_ask n part sec s reached comes was = record {
  some = claim_asked n (is_of n) (of_seat n) s part reached comes ∙ was.some;
  each = λ y there of.
      let x = comer s (Ask n part) reached comes y there in
      let old = among_map (asking n part) s.claims x.from x.there in
      let kept = ap (λ (z : Claimed). z.claim) old.2 ∙ same_claim old.0 in
      let seated : (old.0).claim.seat ≡ n = ap (λ (c : Claim). c.seat) (sym (x.claim ∙ kept)) ∙ of in
      x.stays sec.request.kind sec.risen sec.request.reads sec.request.writes (union sec.asked part)
      (subst (IsFor sec.request.kind sec.risen sec.request.reads sec.request.writes (union sec.asked part)) (sym (old.2 ∙ asks old.0 (eq-eqb (old.0).claim.seat n seated)))
      (asked_for sec.request.kind sec.risen sec.request.reads sec.request.writes sec.asked old.0 part (unasked old.0 old.1 seated) (was.each old.0 old.1 seated)));
}
  where
    same_claim : (x : Claimed) → (asking n part x).claim ≡ x.claim
    same_claim x = at (x.claim.seat == n)
      where
        at : (b : Bool) → (cond b (record x { asked = part }) x).claim ≡ x.claim
        at true = refl
        at false = refl

    asks : (x : Claimed) → (x.claim.seat == n) ≡ true → asking n part x ≡ record x { asked = part }
    asks x is = ap (λ (b : Bool). cond b (record x { asked = part }) x) is

    no_ask : has_ask s.claims n ≡ false
    no_ask = (or_parts (is_nothing (holds_of s.claims n)) (has_ask s.claims n) (passed (is_not_holding s.claims n) _ _ comes.accepted).0).1

    unasked : (x : Claimed) → Among x s.claims → x.claim.seat ≡ n → (l : ℕ) → contains x.asked l ≡ false
    unasked x there seated l = none_in x.asked (not_both (x.claim.seat == n) (nat_lt 0 (len x.asked)) (eq-eqb x.claim.seat n seated) (none_among (λ x. (x.claim.seat == n) && nat_lt 0 (len x.asked)) s.claims x no_ask there)) l
      where
        not_both : (a b : Bool) → a ≡ true → (a && b) ≡ false → b ≡ false
        not_both true b is h = h
        not_both false b is h = absurd (true≢false (sym is))

-- after an event of another seat
after_other : (n : ℕ) (sec : OpenSection) (s : LockState) (e : Event) → IsReached s → Comes s e → seat_of e ≢ n → Stands n sec s → Stands n sec (next s e)
after_other n sec s e reached comes differ was = record {
  some = claim_next n (is_of n) (of_seat n) s e reached comes differ ∙ was.some;
  each = λ y there of.
      let x = comer s e reached comes y there in
      x.stays sec.request.kind sec.risen sec.request.reads sec.request.writes sec.asked (from_before e comes differ x.from x.there (ap (λ (c : Claim). c.seat) (sym x.claim) ∙ of));
}
  where
    For : Claimed → Type 0
    For = IsFor sec.request.kind sec.risen sec.request.reads sec.request.writes sec.asked

    from_before : (e : Event) → Comes s e → seat_of e ≢ n → (x : Claimed) → Among x (changed s e).claims → x.claim.seat ≡ n → IsFor sec.request.kind sec.risen sec.request.reads sec.request.writes sec.asked x
    from_before (Issue k r) comes differ x there of =
        let ns = map (waiting r.first) (claims_of s.groups.groups s.issued k r) in
        elim (among_append s.claims ns x there) [
          | inl old ↦ was.each x old of
          | inr new ↦ absurd (differ (sym (all_at (IsNew s.issued k) ns x (new_claims s.groups.groups s.issued k r comes.normal).each new).seated ∙ of))
        ]
    from_before (Finish k) comes differ x there of = was.each x (among_filter (λ x. not (x.claim.seat == k)) s.claims x there).0 of
    from_before (Rise k) comes differ x there of = was.each x (among_filter (λ x. not ((x.claim.seat == k) && not x.claim.write_half)) s.claims x there).0 of
    from_before (Ask k part) comes differ x there of =
        let old = among_map (asking k part) s.claims x there in
        as_was old.0 old.1 old.2
      where
        same_claim : (z : Claimed) → (asking k part z).claim ≡ z.claim
        same_claim z = at (z.claim.seat == k)
          where
            at : (b : Bool) → (cond b (record z { asked = part }) z).claim ≡ z.claim
            at true = refl
            at false = refl

        as_was : (z : Claimed) → Among z s.claims → x ≡ asking k part z → IsFor sec.request.kind sec.risen sec.request.reads sec.request.writes sec.asked x
        as_was z among is =
            let seated : z.claim.seat ≡ n = ap (λ (c : Claim). c.seat) (sym (ap (λ (w : Claimed). w.claim) is ∙ same_claim z)) ∙ of in
            let beside : (z.claim.seat == k) ≡ false = false_from (z.claim.seat == k) (λ h. differ (sym (eqb-true z.claim.seat k h) ∙ seated)) in
            subst (IsFor sec.request.kind sec.risen sec.request.reads sec.request.writes sec.asked) (sym (is ∙ ap (λ (b : Bool). cond b (record z { asked = part }) z) beside)) (was.each z among seated)

-- ---- after lawful histories

module _ {V E : Type 0} (after : V → E → V) (taken : V → E → Bool) (number : V → ℕ) (b : Beginning V) (n : ℕ) where
  abbrev Follows : List (EntryFields E) → EntryFields E → Type 0
  Follows = MayFollow after taken number b

  -- the seat is in the section that its own entries say
  abbrev StandsBy : List (EntryFields E) → Type 0
  StandsBy entries = (sec : OpenSection) → section_made (entries_by maker n entries) ≡ Some sec → Stands n sec (lock_after b entries)

  -- one more own event
  own_event : (earlier : List (EntryFields E)) (e : Event) (told : Option OpenSection) → IsLawfulFrom after taken number b earlier → Comes (lock_after b earlier) e → seat_of e ≡ n
      → ((sec : OpenSection) → told ≡ Some sec → Stands n sec (lock_after b earlier)) → (sec : OpenSection) → section_told told e ≡ Some sec → Stands n sec (next (lock_after b earlier) e)
  own_event earlier (Issue k r) told lawful comes is was sec tells =
      subst (λ (x : OpenSection). Stands n x (next (lock_after b earlier) (Issue k r))) (same_section (begun r) sec tells)
      (subst (λ m. Stands n (begun r) (next (lock_after b earlier) (Issue m r))) (sym is) (after_issue n r (lock_after b earlier) (reached_lawful after taken number b earlier lawful) (subst (λ m. Comes (lock_after b earlier) (Issue m r)) is comes)))
  own_event earlier (Finish k) told lawful comes is was sec tells = absurd (none_some sec tells)
    where
      none_some : (x : OpenSection) → None ≡ Some x → ⊥
      none_some x h = cc
  own_event earlier (Rise k) None lawful comes is was sec tells = absurd (none_some sec tells)
    where
      none_some : (x : OpenSection) → None ≡ Some x → ⊥
      none_some x h = cc
  own_event earlier (Rise k) (Some old) lawful comes is was sec tells =
      let of_n : Comes (lock_after b earlier) (Rise n) = subst (λ m. Comes (lock_after b earlier) (Rise m)) is comes in
      let reached = reached_lawful after taken number b earlier lawful in
      let rises = (passed (not (may_rise (lock_after b earlier).claims n)) _ _ (passed (is_not_holding (lock_after b earlier).claims n) _ _ of_n.accepted).1).0 in
      subst (λ (x : OpenSection). Stands n x (next (lock_after b earlier) (Rise k))) (same_section (having_risen old) sec tells)
      (subst (λ m. Stands n (having_risen old) (next (lock_after b earlier) (Rise m))) (sym is) (after_rise n old (lock_after b earlier) reached of_n
      (risen_next (lock_after b earlier) n reached of_n (from_not (may_rise (lock_after b earlier).claims n) rises) (has_half after taken number b n earlier lawful)) (was old refl)))
    where
      from_not : (b : Bool) → not b ≡ false → b ≡ true
      from_not true h = refl
      from_not false h = absurd (true≢false h)
  own_event earlier (Ask k part) None lawful comes is was sec tells = absurd (none_some sec tells)
    where
      none_some : (x : OpenSection) → None ≡ Some x → ⊥
      none_some x h = cc
  own_event earlier (Ask k part) (Some old) lawful comes is was sec tells =
      subst (λ (x : OpenSection). Stands n x (next (lock_after b earlier) (Ask k part))) (same_section (having_asked part old) sec tells)
      (subst (λ m. Stands n (having_asked part old) (next (lock_after b earlier) (Ask m part))) (sym is)
      (after_ask n part old (lock_after b earlier) (reached_lawful after taken number b earlier lawful) (subst (λ m. Comes (lock_after b earlier) (Ask m part)) is comes) (was old refl)))

  stands_push : (earlier : List (EntryFields E)) (e : EntryFields E) → IsLawfulFrom after taken number b earlier → Follows earlier e → StandsBy earlier → StandsBy (earlier ++ e ∷ [])
  stands_push earlier e lawful right was sec tells = subst (Stands n sec) (sym (lock_push b earlier e)) (at (maker e == n) refl)
    where
      parts : entries_by maker n (earlier ++ e ∷ []) ≡ entries_by maker n earlier ++ cond (maker e == n) (e ∷ []) []
      parts = entries_by-append (λ (e : EntryFields E). maker e) n earlier (e ∷ [])

      at : (c : Bool) → (maker e == n) ≡ c → Stands n sec (next (lock_after b earlier) e.event)
      at true is =
          own_event earlier e.event (section_made (entries_by maker n earlier)) lawful right.comes (eqb-true (maker e) n is) was sec
          (sym (ap section_made (parts ∙ ap (λ (c : Bool). entries_by maker n earlier ++ cond c (e ∷ []) []) is)
          ∙ fold-append (λ (x : Option OpenSection) (entry : EntryFields E). section_told x entry.event) None (entries_by maker n earlier) (e ∷ [])) ∙ tells)
      at false is =
          after_other n sec (lock_after b earlier) e.event (reached_lawful after taken number b earlier lawful) right.comes (differs (maker e) n is)
          (was sec (sym (ap section_made (parts ∙ ap (λ (c : Bool). entries_by maker n earlier ++ cond c (e ∷ []) []) is ∙ append-nil (entries_by maker n earlier))) ∙ tells))

  stands_along : (earlier more : List (EntryFields E)) → IsLawfulFrom after taken number b earlier → AllInTurn Follows earlier more → StandsBy earlier → StandsBy (earlier ++ more)
  stands_along earlier [] lawful fits was = subst StandsBy (sym (append-nil earlier)) was
  stands_along earlier (e ∷ more) lawful fits was =
      subst StandsBy (append_assoc earlier (e ∷ []) more)
      (stands_along (earlier ++ e ∷ []) more ((AllInTurn-longer Follows earlier e).1 (lawful, fits.0)) fits.1 (stands_push earlier e lawful fits.0 was))

  pub stands : (entries : List (EntryFields E)) → IsLawfulFrom after taken number b entries → StandsBy entries
  stands entries lawful = stands_along [] entries tt lawful (λ sec tells. absurd (none_some sec tells))
    where
      none_some : (x : OpenSection) → None ≡ Some x → ⊥
      none_some x h = cc
