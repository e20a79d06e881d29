-- What is gathered event by event, and the bounds that are found by it.
use Rattle.std.proofs.Common.{◌≡◌, ℕ, zero, suc, ◌+◌, ◌<◌, List, [], ◌∷◌, ◌++◌, map, take, length, get_or, Some, refl, sym, ap, subst, ◌∙◌, arith, append_assoc}
use Rattle.std.specs.Prelude.{slice_get}
use Rattle.std.specs.List.{AllZip, AllByRecursion}
use Rattle.std.proofs.lemmas.List.{append-nil, map-append, take_more, length-map}
use Rattle.std.proofs.lemmas.Slice.Zip.{AllZip-long}
use Rattle.rclaim.specs.declared.event.Event.{Event}
use Rattle.rcover_laws.specs.declared.wait_end.WaitEnd.{WaitEnd}
use Rattle.rmodel.specs.Steps.{AreAccepted}
use Rattle.rmodel.specs.WellFormed.{Among}
use Rattle.rmodel.proofs.ListFacts.{all_from}
use Rattle.rmodel.proofs.reaching.Histories.{accepted_push}
use Rattle.rbound_history.specs.Keys.{key_of, IsLastEnded}
use Rattle.rbound_history.specs.Knows.{bound_by as bound_by_events}
use Rattle.rbound_history.specs.declared.key.BoundKey.{BoundKey}
use Rattle.rcover.specs.Past.{Past, start_of, with_event}
use Rattle.rtrace_write.specs.Behind.{ComesNext, bound_by}
use Rattle.rtrace_write.specs.Gathered.{EndedLast, HadKeyIn}

-- ---- one more event

-- the events with one that comes next are accepted
pub accepted_next : (p : Past) (e : Event) (ended : List WaitEnd) → AreAccepted (start_of p) p.events → ComesNext p e ended → AreAccepted (start_of p) (p.events ++ e ∷ [])
accepted_next p e ended accepted coming = accepted_push (start_of p) p.events e accepted coming.comes

-- and it is the last one, which ended these waits
pub ended_last : (p : Past) (e : Event) (ended : List WaitEnd) → AreAccepted (start_of p) p.events → ComesNext p e ended → EndedLast (with_event p e) ended
ended_last p e ended accepted coming =
    all_from (IsLastEnded p.groups p.seats p.cap (p.events ++ e ∷ [])) ended
    (λ w among. record {
      accepted = accepted_next p e ended accepted coming;
      before = p.events;
      last = e;
      split = refl;
      ended = subst (λ (ws : List WaitEnd). Among w ws) coming.ended among;
    })

-- a key that a wait had stays one, whatever event comes
had_later : (p : Past) (e : Event) (w : WaitEnd) (key : BoundKey) → HadKeyIn p w key → HadKeyIn (with_event p e) w key
had_later p e w key had = record {
  before = had.before;
  rest = had.rest ++ e ∷ [];
  split = ap (λ (es : List Event). es ++ e ∷ []) had.split ∙ append_assoc had.before had.rest (e ∷ []);
  is_key = had.is_key;
}

-- the waits that the last event ended have their keys after it
keys_now : (p : Past) (ended : List WaitEnd) → EndedLast p ended → AllZip (HadKeyIn p) ended (map (key_of p.events) ended)
keys_now p [] all = tt
keys_now p (w ∷ ws) all = (
  record { before = p.events; rest = []; split = sym (append-nil p.events); is_key = record { ended = all.0; is = refl } },
  keys_now p ws all.1,
)

-- the keys of the waits so far, with those that an event ended
pub keys_more : (p : Past) (e : Event) (ws : List WaitEnd) (keys : List BoundKey) (ended : List WaitEnd) → AllZip (HadKeyIn p) ws keys → EndedLast (with_event p e) ended
    → AllZip (HadKeyIn (with_event p e)) (ws ++ ended) (keys ++ map (key_of (p.events ++ e ∷ [])) ended)
keys_more p e [] [] ended had all = keys_now (with_event p e) ended all
keys_more p e [] (key ∷ keys) ended had all = absurd had
keys_more p e (w ∷ ws) [] ended had all = absurd had
keys_more p e (w ∷ ws) (key ∷ keys) ended had all = (had_later p e w key had.0, keys_more p e ws keys ended had.1 all)

-- a list without a wait
pub none_of : (ended : List WaitEnd) → length ended ≡ 0 → ended ≡ []
none_of [] is = refl
none_of (w ∷ ws) is = absurd (omega (arith, is))

-- and where an event ended none, the keys stay those of the waits so far
pub keys_same : (p : Past) (e : Event) (ws ended : List WaitEnd) (keys : List BoundKey) → ended ≡ [] → AllZip (HadKeyIn p) ws keys → AllZip (HadKeyIn (with_event p e)) (ws ++ ended) keys
keys_same p e ws ended keys none had = subst (λ (es : List WaitEnd). AllZip (HadKeyIn (with_event p e)) (ws ++ es) keys) (sym none) (all_later ws keys had)
  where
    all_later : (ws : List WaitEnd) (keys : List BoundKey) → AllZip (HadKeyIn p) ws keys → AllZip (HadKeyIn (with_event p e)) (ws ++ []) keys
    all_later [] [] had = tt
    all_later [] (key ∷ keys) had = absurd had
    all_later (w ∷ ws) [] had = absurd had
    all_later (w ∷ ws) (key ∷ keys) had = (had_later p e w key had.0, all_later ws keys had.1)

-- ---- the waits that an event ended, one after another

-- what holds of all holds of the one at a place
pub all_item : {X : Type 0} (P : X → Type 0) (xs : List X) (i : ℕ) (d : X) → AllByRecursion P xs → i < length xs → P (get_or xs i d)
all_item P [] i d all within = absurd (omega (arith, within))
all_item P (x ∷ xs) zero d all within = all.0
all_item P (x ∷ xs) (suc i) d all within = all_item P xs i d all.1 (omega (arith, within))

-- one more key
pub key_more : (f : WaitEnd → BoundKey) (ended : List WaitEnd) (i : ℕ) (d : WaitEnd) (old sofar now : List BoundKey) (key : BoundKey) → i < length ended
    → sofar ≡ old ++ map f (take i ended) → key ≡ f (get_or ended i d) → now ≡ sofar ++ key ∷ [] → now ≡ old ++ map f (take (i + 1) ended)
key_more f ended i d old sofar now key within were is grown =
    grown
    ∙ (λ k. were k ++ is k ∷ [])
    ∙ append_assoc old (map f (take i ended)) (f (get_or ended i d) ∷ [])
    ∙ ap (λ (ks : List BoundKey). old ++ ks) (sym (map-append f (take i ended) (get_or ended i d ∷ [])))
    ∙ ap (λ (ws : List WaitEnd). old ++ map f ws) (sym (take_more ended i d within))

-- ---- the bounds

-- there are as many waits as keys
pub as_many : (p : Past) (ws : List WaitEnd) (keys : List BoundKey) → AllZip (HadKeyIn p) ws keys → length keys ≡ length ws
as_many p ws keys had = AllZip-long (HadKeyIn p) ws keys had

-- whose key is at a place
pub record IsFound (p : Past) (ws : List WaitEnd) (i : ℕ) (key : BoundKey) : Type 0 where
  pub wait : WaitEnd
  pub at : slice_get ws i ≡ Some wait
  pub had : HadKeyIn p wait key

pub found_at : (p : Past) (ws : List WaitEnd) (keys : List BoundKey) (i : ℕ) (key : BoundKey) → AllZip (HadKeyIn p) ws keys → i < length ws → key ≡ get_or keys i key → IsFound p ws i key
found_at p [] keys i key had within at = absurd (omega (arith, within))
found_at p (w ∷ ws) [] i key had within at = absurd had
found_at p (w ∷ ws) (k ∷ keys) zero key had within at = record { wait = w; at = refl; had = subst (HadKeyIn p w) (sym at) had.0 }
found_at p (w ∷ ws) (k ∷ keys) (suc i) key had within at =
    let rest = found_at p ws keys i key had.1 (omega (arith, within)) at in
    record { wait = rest.wait; at = rest.at; had = rest.had }

-- the bound by all events, from those after which the wait had the key on
pub found_bound : (p : Past) (w : WaitEnd) (key : BoundKey) (had : HadKeyIn p w key) → bound_by_events p.groups p.seats p.cap (had.before ++ had.rest) w ≡ bound_by p w
unfolding bound_by
found_bound p w key had = ap (λ (es : List Event). bound_by_events p.groups p.seats p.cap es w) (sym had.split)

-- there are as many bounds as gaps, whatever is known of the same keys
pub bounds_many : (p : Past) (ws : List WaitEnd) (keys : List BoundKey) → AllZip (HadKeyIn p) ws keys → (q : Past) (vs : List WaitEnd) (gaps : List ℕ) → AllZip (HadKeyIn q) vs keys → length ws ≡ length gaps
    → length (map (bound_by q) vs) ≡ length gaps
bounds_many p ws keys had q vs gaps has each = length-map vs (bound_by q) ∙ sym (as_many q vs keys has) ∙ as_many p ws keys had ∙ each
