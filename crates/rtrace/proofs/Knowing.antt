-- What is known once an event came, once a bound was reported, and once the history was complete.
use Rattle.std.proofs.Common.{◌≡◌, ℕ, List, [], ◌∷◌, ◌++◌, map, refl, sym, ap, subst, ◌∙◌}
use Rattle.std.specs.List.{AllByRecursion}
use Rattle.std.proofs.lemmas.List.{append-nil, append_assoc, map-append}
use Rattle.rexpand.specs.Groups.{ReadGroups}
use Rattle.rclaim.specs.declared.event.Event.{Event}
use Rattle.rmodel.specs.State.{opening}
use Rattle.rmodel.specs.Steps.{AreAccepted}
use Rattle.rmodel.proofs.ListFacts.{all_append}
use Rattle.rbound.specs.Bounds.{numbers_in}
use Rattle.rbound.specs.declared.bound.Bound.{Bound}
use Rattle.rcover_laws.specs.declared.wait_end.WaitEnd.{WaitEnd}
use Rattle.rtrace_form.specs.WrongBounds.{first_other}
use Rattle.rbound_history.specs.Keys.{IsKeyOf, HadKey}
use Rattle.rbound_history.specs.Knows.{Knows, bound_by}
use Rattle.rbound_history.specs.declared.growing.GrowingNeeds.{GrowingNeeds}
use Rattle.rbound_history.specs.declared.key.BoundKey.{BoundKey}
use Rattle.rbound_history.proofs.WaitKeys.{is_found}
use Rattle.rtrace.specs.Told.{Told, said, waits_of, AreBefore}
use Rattle.rtrace.specs.Kept.{Keyed, told_in, least_wrong, Tells}
use Rattle.rtrace.specs.Knows.{KnowsTold, AreOfWaits, bound_of_key}
use Rattle.rtrace.specs.declared.key.Key.{Key}
use Rattle.rtrace.specs.declared.kept_bounds.Kept.{Kept}
use Rattle.rtrace.specs.declared.told_bounds.ToldBounds.{ToldBounds}
use Rattle.rtrace.proofs.KeyedBounds.{noted, noted_keys, tells_more}

module _ (groups : ReadGroups) (seats cap : ℕ) where
  -- ---- one more event

  had_key_on : (events : List Event) (e : Event) (wait : WaitEnd) (key : BoundKey) → HadKey groups seats cap events wait key → HadKey groups seats cap (events ++ e ∷ []) wait key
  had_key_on events e wait key had = record {
    before = had.before;
    rest = had.rest ++ e ∷ [];
    split = ap (λ (es : List Event). es ++ e ∷ []) had.split ∙ append_assoc had.before had.rest (e ∷ []);
    is_key = had.is_key;
  }

  keyed_on : (events : List Event) (e : Event) (keyed : List Keyed) → AllByRecursion (λ (one : Keyed). HadKey groups seats cap events one.told.wait one.key) keyed → AllByRecursion (λ (one : Keyed). HadKey groups seats cap (events ++ e ∷ []) one.told.wait one.key) keyed
  keyed_on events e [] all = tt
  keyed_on events e (k ∷ ks) all = (had_key_on events e k.told.wait k.key all.0, keyed_on events e ks all.1)

  of_waits_on : (events : List Event) (e : Event) (entries : List (Key × Kept)) → AreOfWaits groups seats cap events entries → AreOfWaits groups seats cap (events ++ e ∷ []) entries
  of_waits_on events e [] all = tt
  of_waits_on events e (k ∷ ks) all = ((all.0.0, had_key_on events e all.0.0 k.0.key all.0.1), of_waits_on events e ks all.1)

  pub knows_event : (old new : ToldBounds) (events : List Event) (e : Event) (items : List Told) → KnowsTold old groups seats cap events items → AreAccepted (opening groups seats cap) (events ++ e ∷ [])
      → Knows new.needs seats (events ++ e ∷ []) → new.kept.entries ≡ old.kept.entries → KnowsTold new groups seats cap (events ++ e ∷ []) items
  knows_event old new events e items known accepted needs kept = record {
    accepted = accepted;
    needs = needs;
    keyed = known.keyed;
    told = known.told;
    keys = keyed_on events e known.keyed known.keys;
    kept = subst (λ (es : List (Key × Kept)). Tells es known.keyed) (sym kept) known.kept;
    of_waits = subst (AreOfWaits groups seats cap (events ++ e ∷ [])) (sym kept) (of_waits_on events e old.kept.entries known.of_waits);
  }

  -- ---- one more bound

  just_had : (events : List Event) (wait : WaitEnd) (key : BoundKey) → IsKeyOf groups seats cap events wait key → HadKey groups seats cap events wait key
  just_had events wait key is = record { before = events; rest = []; split = sym (append-nil events); is_key = is }

  pub knows_bound : (old new : ToldBounds) (events : List Event) (items : List Told) (number : ℕ) (wait : WaitEnd) (bound : Bound) (key : Key) → KnowsTold old groups seats cap events items → IsKeyOf groups seats cap events wait key.key → AreBefore number items
      → new.needs ≡ old.needs → new.kept.entries ≡ noted key number bound old.kept.entries → KnowsTold new groups seats cap events (items ++ record { number = number; wait = wait; bound = numbers_in bound } ∷ [])
  knows_bound old new events items number wait bound key known is before needs kept =
      let item : Told = record { number = number; wait = wait; bound = numbers_in bound } in
      let one : Keyed = record { told = item; key = key.key } in
      let had = just_had events wait key.key is in
      record {
        accepted = known.accepted;
        needs = subst (λ (n : GrowingNeeds). Knows n seats events) (sym needs) known.needs;
        keyed = known.keyed ++ one ∷ [];
        told = ap (λ (ts : List Told). ts ++ item ∷ []) known.told ∙ sym (map-append (λ (k : Keyed). k.told) known.keyed (one ∷ []));
        keys = all_append (λ (k : Keyed). HadKey groups seats cap events k.told.wait k.key) known.keyed (one ∷ []) known.keys (had, tt);
        kept = subst (λ (es : List (Key × Kept)). Tells es (known.keyed ++ one ∷ [])) (sym kept) (tells_more old.kept.entries known.keyed key number wait bound (subst (AreBefore number) known.told before) known.kept);
        of_waits = subst (AreOfWaits groups seats cap events) (sym kept) (noted_keys (λ (k : BoundKey). (w : WaitEnd) × HadKey groups seats cap events w k) key number bound old.kept.entries (wait, had) known.of_waits);
      }

  -- ---- the whole history

  -- the bound of a wait is that of its key
  pub bound_had : (events : List Event) (wait : WaitEnd) (key : BoundKey) → AreAccepted (opening groups seats cap) events → HadKey groups seats cap events wait key → bound_of_key groups seats cap events key ≡ bound_by groups seats cap events wait
  bound_had events wait key accepted had =
      let found = is_found groups seats cap had.before had.rest wait (subst (AreAccepted (opening groups seats cap)) had.split accepted) had.is_key.ended in
      subst (λ (all : List Event). bound_of_key groups seats cap all key ≡ bound_by groups seats cap all wait) (sym had.split)
      (ap (λ (k : BoundKey). bound_of_key groups seats cap (had.before ++ had.rest) k) had.is_key.is ∙ found.bound)

  dues_are : (events : List Event) (keyed : List Keyed) → AreAccepted (opening groups seats cap) events → AllByRecursion (λ (one : Keyed). HadKey groups seats cap events one.told.wait one.key) keyed
      → map (λ (one : Keyed). bound_of_key groups seats cap events one.key) keyed ≡ map (bound_by groups seats cap events) (waits_of (told_in keyed))
  dues_are events [] accepted all = refl
  dues_are events (k ∷ ks) accepted all = λ i. bound_had events k.told.wait k.key accepted all.0 i ∷ dues_are events ks accepted all.1 i

  -- *The first wrong one by what is kept is the first of all*
  pub first_is : (told : ToldBounds) (events : List Event) (items : List Told) → KnowsTold told groups seats cap events items → least_wrong (bound_of_key groups seats cap events) told.kept.entries ≡ first_other (said items) (map (bound_by groups seats cap events) (waits_of items))
  first_is told events items known =
      known.kept.first (bound_of_key groups seats cap events)
      ∙ ap (λ dues. first_other (said (told_in known.keyed)) dues) (dues_are events known.keyed known.accepted known.keys)
      ∙ ap (λ (ts : List Told). first_other (said ts) (map (bound_by groups seats cap events) (waits_of ts))) (sym known.told)
