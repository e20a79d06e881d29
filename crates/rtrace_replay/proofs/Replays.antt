-- What is known of a replay after a record.
use Rattle.std.proofs.Common.{◌≡◌, inl, inr, ◌⊎◌, ℕ, ◌≤◌, length, false, List, [], ◌∷◌, ◌++◌, Option, Some, None, refl, sym, ap, subst, ◌∙◌, true≢false}
use Rattle.std.proofs.lemmas.List.{map-append}
use Rattle.std.specs.Prelude.{Result, Err, option_to_list, IfSome, IsSome}
use Rattle.rclaim.specs.declared.event.Event.{Event}
use Rattle.rexpand.specs.Groups.{ReadGroups}
use Rattle.rmodel.specs.Changes.{changes_between}
use Rattle.rmodel.specs.State.{LockState}
use Rattle.rmodel.specs.Steps.{AreAccepted, Comes, after, next}
use Rattle.rcover_laws.specs.Ended.{ended_by}
use Rattle.rcover_laws.specs.declared.wait_end.WaitEnd.{WaitEnd}
use Rattle.rplain.specs.Machine.{Standing}
use Rattle.rtrace_read.specs.Follows.{Follows}
use Rattle.rtrace_read.specs.Past.{Past, begun, start_of, with_event, AreLastEnded}
use Rattle.rtrace_read.specs.Following.{Following}
use Rattle.rtrace_form.specs.Records.{Row}
use Rattle.rtrace_form.specs.Heads.{Head}
use Rattle.rtrace_form.specs.Lines.{Happens}
use Rattle.rtrace_form.specs.Reports.{Entry, lock_after}
use Rattle.rtrace_form.specs.SoFar.{SoFar, entries_in, head_in, names_in, bare, with_row}
use Rattle.rtrace_form.specs.Waits.{events_of, all_ended, ended_in, ended_from}
use Rattle.rtrace_form.proofs.lists.ToldWaits.{all_ended_push}
use Rattle.rtrace_form.specs.Faults.{code_of}
use Rattle.rtrace_form.proofs.lists.Places.{up_to_five}
use Rattle.rtrace_write.specs.Behind.{past_in, ComesNext}
use Rattle.rtrace_write.specs.Gathered.{KnowsGathered}
use Rattle.rtrace_write.specs.Open.{open_told}
use Rattle.rtrace_write.specs.Told.{step_told}
use Rattle.rtrace_read.specs.Knows.{Knows, StandBehind, changes_in}
use Rattle.rtrace_read.specs.declared.reading.ReportReader.{ReportReader}
use Rattle.rtrace_replay.specs.Names.{names_read}
use Rattle.rtrace_replay.specs.Followed.{AreFollowed, IsTold}
use Rattle.rtrace_replay.specs.Replaying.{history_text, KnowsTelling}
use Rattle.rtrace_replay.specs.declared.replaying.Telling.{Telling}
use Rattle.rtrace_replay.proofs.Following.{event_head, event_text, other_text, far_head, far_place}

pub if_some_weaker : {X : Type 0} {P Q : X → Type 0} (o : Option X) → ((x : X) → P x → Q x) → IfSome o P → IfSome o Q
if_some_weaker None f h = tt
if_some_weaker (Some x) f h = f x h

pub one_err : {T E : Type 0} {a b : E} → ◌≡◌ {A = Result T E} (Err a) (Err b) → a ≡ b
one_err e = cc

pub names_are : (reading : ReportReader) (s : SoFar) → Knows false reading s → names_read reading ≡ names_in s
names_are reading s k = λ i. record { resources = k.resources i; tasks = k.tasks i }

none_some : {X : Type 0} (o : Option X) (x : X) → o ≡ None → o ≡ Some x → ⊥
none_some o x a b = cc

no_entries : (reading : ReportReader) (s : SoFar) → Knows false reading s → s.last ≤ 5 → entries_in s ≡ []
no_entries reading s k near = let idle = k.idle near in λ i. idle.1 i ++ option_to_list (idle.2 i)

pub event_far : (reading : ReportReader) (t : SoFar) (x : Entry) → Knows false reading t → t.latest ≡ Some x → 6 ≤ t.last
event_far reading t x k latest = at (up_to_five t.last)
  where
    at : (t.last ≤ 5) ⊎ (6 ≤ t.last) → 6 ≤ t.last
    at (inl near) = absurd (none_some t.latest x (k.idle near).2 latest)
    at (inr far) = far

-- a reader that took an event has a machine, and a follower after these events
both_there : (machine : Option Standing) (following : Option Following) (latest : Option Entry) (p : Past) (x : Entry) → StandBehind machine following latest p → latest ≡ Some x
    → IsSome machine × IsSome following × AreFollowed following p
both_there None None latest p x h is = absurd (none_some latest x h.0 is)
both_there (Some m) (Some f) latest p x h is = (refl, refl, h.1)
both_there None (Some f) latest p x h is = absurd h
both_there (Some m) None latest p x h is = absurd h

module _ (s : SoFar) (row : Row) (right : code_of false s row ≡ None) (before reading : ReportReader) (was : Knows false before s) (now : Knows false reading (with_row false s row)) where
  abbrev past : Past
  past = past_in (head_in s) (entries_in s)

  -- names that were ready are still those that were read
  names_stay : (telling : Telling) → KnowsTelling telling s → telling.names ≡ names_read reading
  names_stay telling k = k.names ∙ ap (λ head. record { resources = head.resources; tasks = head.tasks }) (sym (far_head s row right k.far)) ∙ sym (names_are reading (with_row false s row) now)

  -- a record that adds no entry leaves the `Telling` as it was
  pub telling_kept : (telling : Option Telling) → (with_row false s row).earlier ≡ s.earlier → (with_row false s row).latest ≡ s.latest → IfSome telling (λ t. KnowsTelling t s) → IfSome telling (λ t. KnowsTelling t (with_row false s row))
  telling_kept telling earlier latest = if_some_weaker telling (λ t k.
      let head : head_in (with_row false s row) ≡ head_in s = far_head s row right k.far in
      let same : entries_in (with_row false s row) ≡ entries_in s = λ i. earlier i ++ option_to_list (latest i) in
      record {
        names = k.names ∙ ap (λ h. record { resources = h.resources; tasks = h.tasks }) (sym head);
        far = far_place s row right k.far;
        gathered = subst (λ (h : Head). KnowsGathered t.gathered (past_in h (entries_in (with_row false s row))) (all_ended h (entries_in (with_row false s row)))) (sym head)
            (subst (λ (some : List Entry). KnowsGathered t.gathered (past_in (head_in s) some) (all_ended (head_in s) some)) (sym same) k.gathered);
      })

  module _ (e : Event) (earlier : (with_row false s row).earlier ≡ entries_in s) (latest : (with_row false s row).latest ≡ Some (bare e)) where
    more : entries_in (with_row false s row) ≡ entries_in s ++ bare e ∷ []
    more = λ i. earlier i ++ option_to_list (latest i)

    -- the events with this one
    pub past_event : with_event past e ≡ past_in (head_in (with_row false s row)) (entries_in (with_row false s row))
    past_event =
        ap (λ (es : List Event). record past { events = es }) (sym (map-append (λ (entry : Entry). entry.event) (entries_in s) (bare e ∷ [])))
        ∙ (λ i. past_in (sym (event_head s row right e earlier latest) i) (sym more i))

    -- the waits with those that it ended
    pub ended_event : all_ended (head_in s) (entries_in s) ++ ended_by (start_of past) past.events e ≡ all_ended (head_in (with_row false s row)) (entries_in (with_row false s row))
    unfolding ended_in
    ended_event = sym (all_ended_push (head_in s) (entries_in s) (bare e)) ∙ (λ i. all_ended (sym (event_head s row right e earlier latest) i) (sym more i))

    -- the reader has a machine, and a follower that followed them
    pub followed_event : IsSome reading.machine × IsSome reading.following × AreFollowed reading.following (with_event past e)
    followed_event =
        let h = both_there reading.machine reading.following (with_row false s row).latest (past_in (head_in (with_row false s row)) (entries_in (with_row false s row))) (bare e) now.stand latest in
        (h.0, h.1, subst (λ (p : Past). AreFollowed reading.following p) (sym past_event) h.2)

    -- before the first event nothing was given to it
    pub nothing_told : entries_in s ≡ [] → (past ≡ begun past.groups (length reading.tasks) past.cap) × (all_ended (head_in s) (entries_in s) ≡ [])
    unfolding ended_from
    nothing_told none =
        let tasks : length (head_in s).tasks ≡ length reading.tasks =
        ap (λ (h : Head). length h.tasks) (sym (event_head s row right e earlier latest)) ∙ ap (λ (ts : List (List ℕ)). length ts) (sym now.tasks) in
        ((λ i. record { groups = past.groups; seats = tasks i; cap = past.cap; events = events_of (none i) }), ap (all_ended (head_in s)) none)

    -- the `Telling` was given the events so far by what the reader has read
    pub still_told : (telling : Option Telling) → IfSome telling (λ t. KnowsTelling t s) → (telling ≡ None → entries_in s ≡ []) → IsTold telling reading past (all_ended (head_in s) (entries_in s))
    still_told None knows untold = nothing_told (untold refl)
    still_told (Some t) knows untold = (names_stay t knows, knows.gathered)

    -- the text, with the event, its changes and the waits that it ended after it
    pub event_history : (old new : List (Option ℕ)) → old ≡ history_text s
        → new ≡ old ++ open_told (names_read reading) (Happens e ∷ step_told (changes_in reading.machine) (ended_by (start_of past) past.events e)) → new ≡ history_text (with_row false s row)
    unfolding ended_in
    event_history old new f g =
        let head = event_head s row right e earlier latest in
        let names = names_are reading (with_row false s row) now ∙ ap (λ h. record { resources = h.resources; tasks = h.tasks }) head in
        let changes = now.changes (bare e) latest ∙ (λ i. changes_between (lock_after (head i) (earlier i)) (next (lock_after (head i) (earlier i)) e)) in
        g ∙ (λ i. f i ++ open_told (names i) (Happens e ∷ step_told (changes i) (ended_by (start_of past) past.events e))) ∙ sym (event_text s row right e earlier latest)

    -- the `Telling`, after it
    pub told_event : (telling : Option Telling) → IsSome telling → IsTold telling reading (with_event past e) (all_ended (head_in s) (entries_in s) ++ ended_by (start_of past) past.events e)
        → IfSome telling (λ t. KnowsTelling t (with_row false s row))
    told_event None there told = tt
    told_event (Some t) there told = record {
      names = told.0 ∙ names_are reading (with_row false s row) now;
      far = event_far reading (with_row false s row) (bare e) now latest;
      gathered = subst (λ (p : Past). KnowsGathered t.gathered p (all_ended (head_in (with_row false s row)) (entries_in (with_row false s row)))) past_event
          (subst (λ (ws : List WaitEnd). KnowsGathered t.gathered (with_event past e) ws) ended_event told.1);
    }

  pub other_history : (old : List (Option ℕ)) → (with_row false s row).earlier ≡ s.earlier → (with_row false s row).latest ≡ s.latest → old ≡ history_text s → old ≡ history_text (with_row false s row)
  other_history old earlier latest f = f ∙ sym (other_text s row right (no_entries before s was) earlier latest)

-- the last of accepted events is accepted in the state that those before it lead to
comes_last : (s : LockState) (es : List Event) (e : Event) → AreAccepted s (es ++ e ∷ []) → Comes (after s es) e
comes_last s [] e all = all.0
comes_last s (d ∷ es) e all = comes_last (next s d) es e all.1

-- the follower followed them
pub followed_by : (o : Option Following) (following : Following) (p : Past) → o ≡ Some following → AreFollowed o p → Follows following p
followed_by o following p is h = subst (λ (f : Option Following). AreFollowed f p) is h

-- an event that a follower followed came next, and it ended the waits that the follower has
pub coming_next : (following : Following) (p : Past) (e : Event) (ended : List WaitEnd) → Follows following (with_event p e) → ((q : Past) → Follows following q → AreLastEnded q ended) → ComesNext p e ended
coming_next following p e ended follows has = record {
  comes = comes_last (start_of p) p.events e follows.accepted;
  ended = has (with_event p e) follows p.events e refl;
}

-- what was made at the first event was given none before it
pub first_told : (t : Telling) (reading : ReportReader) (p : Past) (ws : List WaitEnd) → ((groups : ReadGroups) (cap : ℕ) → KnowsGathered t.gathered (begun groups (length reading.tasks) cap) []) → IsTold None reading p ws
    → KnowsGathered t.gathered p ws
first_told t reading p ws told none =
    subst (λ (q : Past). KnowsGathered t.gathered q ws) (sym none.0) (subst (λ (vs : List WaitEnd). KnowsGathered t.gathered (begun p.groups (length reading.tasks) p.cap) vs) (sym none.1) (told p.groups p.cap))

-- what is there is not missing
pub some_telling : {P : Type 0} (telling : Option Telling) → IsSome telling → telling ≡ None → P
some_telling None is none = absurd (true≢false (sym is))
some_telling (Some t) is none = cc

module _ (s : SoFar) (row : Row) where
  -- a record that adds no entry to none leaves none
  pub other_untold : (with_row false s row).earlier ≡ s.earlier → (with_row false s row).latest ≡ s.latest → entries_in s ≡ [] → entries_in (with_row false s row) ≡ []
  other_untold earlier latest none = (λ i. earlier i ++ option_to_list (latest i)) ∙ none
