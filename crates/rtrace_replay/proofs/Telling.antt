-- Giving an audience the steps of a list, one after another.
use Rattle.std.proofs.Common.{◌≡◌, ℕ, ◌+◌, ◌<◌, ◌≤◌, List, [], ◌∷◌, drop, get_or, length, map, refl, sym, ap, subst, ◌∙◌, add-one}
use Rattle.std.proofs.Math.Seq.{drop-cons}
use Rattle.std.proofs.lemmas.List.{drop_all}
use Rattle.rclaim.specs.Changes.{ChangeLists}
use Rattle.rclaim.specs.declared.event.Event.{Event}
use Rattle.rmodel.specs.Changes.{changes_between}
use Rattle.rmodel.specs.State.{LockState}
use Rattle.rmodel.specs.Steps.{AreAccepted, Comes, next}
use Rattle.rwatch.specs.Seen.{Seen, told, told_all}
use Rattle.rwatch.proofs.Given.{given_none, given_first}
use Rattle.rmodel.specs.Watching.{steps_of}

-- some events were given: those that are left are accepted, and once they are given too, all are
pub record IsToldSo (first : LockState) (events : List Event) (watchers : List Seen) (s : LockState) (rest : List Event) (now : List Seen) : Type 0 where
  pub accepted : AreAccepted s rest
  pub all : map (told_all (steps_of first events)) watchers ≡ map (told_all (steps_of s rest)) now

rest_of : (es : List Event) (i : ℕ) (d : Event) → i < length es → drop i es ≡ get_or es i d ∷ drop (i + 1) es
rest_of es i d within = drop-cons es i d within ∙ ap (λ n. get_or es i d ∷ drop n es) (sym (add-one i))

module _ (first : LockState) (events : List Event) (watchers : List Seen) where
  pub told_none : AreAccepted first events → IsToldSo first events watchers first (drop 0 events) watchers
  told_none accepted = record { accepted = accepted; all = refl }

  module _ (s : LockState) (i : ℕ) (now : List Seen) (d : Event) (within : i < length events) (so : IsToldSo first events watchers s (drop i events) now) where
    pub coming : Comes s (get_or events i d)
    coming = (subst (AreAccepted s) (rest_of events i d within) so.accepted).0

    pub told_on : (t : LockState) (later : List Seen) → t ≡ next s (get_or events i d) → later ≡ map (told (get_or events i d) (changes_between s t)) now → IsToldSo first events watchers t (drop (i + 1) events) later
    told_on t later is told_one =
        let e = get_or events i d in
        record {
          accepted = subst (λ u. AreAccepted u (drop (i + 1) events)) (sym is) (subst (AreAccepted s) (rest_of events i d within) so.accepted).1;
          all = so.all
              ∙ ap (λ es. map (told_all (steps_of s es)) now) (rest_of events i d within)
              ∙ given_first (e, changes_between s (next s e)) (steps_of (next s e) (drop (i + 1) events)) now
              ∙ sym (λ j. map (told_all (steps_of (is j) (drop (i + 1) events))) ((told_one ∙ (λ k. map (told e (changes_between s (is k))) now)) j));
        }

  pub told_whole : (s : LockState) (i : ℕ) (now : List Seen) → length events ≤ i → IsToldSo first events watchers s (drop i events) now → now ≡ map (told_all (steps_of first events)) watchers
  told_whole s i now behind so = sym (so.all ∙ ap (λ es. map (told_all (steps_of s es)) now) (drop_all i events behind) ∙ given_none now)
