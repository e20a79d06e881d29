-- The line that is made is the first one due after what was said.
use Rattle.std.proofs.Common.{◌≡◌, ℕ, ◌<◌, ◌≤◌, Bool, true, false, cond, List, [], ◌∷◌, ◌++◌, length, drop, nat_lt, Option, Some, None, refl, sym, ap, subst, ◌∙◌, arith, true≢false}
use Rattle.std.specs.Prelude.{IfSome, IsSome, IsSomeAnd, is_some, option_map, option_to_list, slice_get}
use Rattle.std.proofs.lemmas.Bool.{lt-ltb, le-ltb, ltb-true, ltb-false, ne_eqb, eq-eqb}
use Rattle.rclaim.specs.Changes.{ChangeLists}
use Rattle.rclaim.specs.declared.event.Event.{Event}
use Rattle.rplain.specs.Machine.{Standing}
use Rattle.rcover_laws.specs.Ended.{ended_by}
use Rattle.rvalue.specs.declared.ledger.Ledger.{Ledger}
use Rattle.rtrace_replay.specs.Follows.{Follows}
use Rattle.rtrace_replay.specs.Past.{Past, start_of}
use Rattle.rtrace_replay.specs.Following.{Following}
use Rattle.rtrace_form.specs.Lines.{Line}
use Rattle.rtrace_form.specs.Reports.{Entry, ledger_after, ledger_lines}
use Rattle.rtrace_form.specs.SoFar.{SoFar, at_ledgers, at_end, entries_in, head_in, ledgers_due}
use Rattle.rtrace_form.specs.Waits.{events_of, ended_in}
use Rattle.rtrace_form.specs.declared.fault.Code.TheVariants.{WrongChange, WrongLedger}
use Rattle.rtrace_form.proofs.facts.Choices.{some_none}
use Rattle.rtrace_read.specs.Due.{due_list}
use Rattle.rtrace_replay.specs.Knows.{Knows, StandBehind, changes_in, ended_at, last_ended, past_in}
use Rattle.rtrace_replay.specs.LineTakes.{StillDue, ledgers_told}
use Rattle.rtrace_replay.specs.ReportReader.{ReportReader}
use Rattle.rtrace_read.proofs.Steps.{events_push}
use Rattle.rtrace_replay.specs.Names.{names_read}
use Rattle.rnlp_cli.specs.Due.{as_text, due_text, due_behind, first_due_text}
use Rattle.rnlp_cli.specs.DueLines.{due_texts, ledger_text}
use Rattle.rnlp_cli.proofs.DueTexts.{due_texts_are, first_left, ledger_texts}

-- before the first entry nothing has happened
none_happened : (machine : Option Standing) (o : Option Following) (latest : Option Entry) (p : Past) → StandBehind machine o latest p → latest ≡ None → p.events ≡ []
none_happened None None latest p h none = h.1
none_happened (Some m) (Some f) latest p h none = absurd (true≢false (sym (subst (λ (l : Option Entry). IsSome l) none h.0)))
none_happened None (Some f) latest p h none = absurd h
none_happened (Some m) None latest p h none = absurd h

-- if nothing is followed there is no machine, and no entry
nobody_follows : (machine : Option Standing) (o : Option Following) (latest : Option Entry) (p : Past) → StandBehind machine o latest p → o ≡ None → (machine ≡ None) × (latest ≡ None)
nobody_follows None None latest p h none = (refl, h.0)
nobody_follows (Some m) (Some f) latest p h none = absurd (some_none (sym none))
nobody_follows None (Some f) latest p h none = absurd h
nobody_follows (Some m) None latest p h none = absurd h

-- if there is a follower, what holds for any follower holds for it
is_followed : (P : Following → Type 0) (o : Option Following) (f : Following) → o ≡ Some f → IfSome o P → IsSomeAnd o P
is_followed P None f same h = absurd (some_none same)
is_followed P (Some g) f same h = h

module _ (was now : ReportReader) (s : SoFar) (h : Knows true was s) (still : StillDue was now) where
  -- the texts of what is due after the latest event: the changes that the machine had last, and the waits that this
  -- event ended
  abbrev texts_now : List (List ℕ)
  texts_now = due_texts (names_read now) (changes_in now.machine) (last_ended s)

  -- before the first event nothing is due
  nothing_due : now.following ≡ None → option_map as_text (slice_get texts_now now.told) ≡ None
  nothing_due none =
      let neither = nobody_follows was.machine was.following s.latest (past_in s) h.stand (at was.following refl) in
      λ i. option_map as_text (slice_get (due_texts (names_read now) ((still.changes ∙ ap changes_in neither.0) i) (ended_at (head_in s) s.earlier (neither.1 i))) now.told)
    where
      at : (o : Option Following) → was.following ≡ o → was.following ≡ None
      at None same = same
      at (Some f) same = absurd (true≢false (sym (still.there (ap (λ (o : Option Following). is_some o) same)) ∙ ap (λ (o : Option Following). is_some o) none))

  -- what is made after the events that are followed is the text after those that have come
  at_last : (made : Option (List ℕ))
      → ((p : Past) (before : List Event) (last : Event) → IsSomeAnd now.following (λ f. Follows f p) → p.events ≡ before ++ last ∷ []
      → made ≡ option_map as_text (slice_get (due_texts (names_read now) (changes_in now.machine) (ended_by (start_of p) before last)) now.told))
      → ((p : Past) → IsSomeAnd now.following (λ f. Follows f p) → p.events ≡ [] → made ≡ option_map as_text (slice_get (due_texts (names_read now) (changes_in now.machine) []) now.told))
      → (now.following ≡ None → made ≡ None)
      → made ≡ option_map as_text (slice_get texts_now now.told)
  unfolding ended_in
  at_last made change begun unbegun = followed now.following refl
    where
      at : IsSomeAnd now.following (λ f. Follows f (past_in s)) → (latest : Option Entry) → s.latest ≡ latest
          → made ≡ option_map as_text (slice_get (due_texts (names_read now) (changes_in now.machine) (ended_at (head_in s) s.earlier latest)) now.told)
      at follows None none = begun (past_in s) follows (none_happened was.machine was.following s.latest (past_in s) h.stand none)
      at follows (Some entry) same =
          change (past_in s) (events_of s.earlier) entry.event follows (ap (λ (l : Option Entry). events_of (s.earlier ++ option_to_list l)) same ∙ events_push s.earlier entry)

      followed : (o : Option Following) → now.following ≡ o → made ≡ option_map as_text (slice_get texts_now now.told)
      followed None none = unbegun none ∙ sym (nothing_due none)
      followed (Some f) there = at (is_followed (λ (g : Following). Follows g (past_in s)) now.following f there (still.followed true s h)) s.latest refl

  -- that text is the first line that is due
  change_first : now.last < 8 → first_due_text (names_read now) s WrongChange ≡ option_map as_text (slice_get texts_now now.told)
  change_first low =
      let lines = due_list (changes_in was.machine) (last_ended s) in
      let same = still.last in
      let last = h.last in
      let early : s.last < 8 = omega (arith, same, last, low) in
      first_left (names_read now) lines now.told (due_behind s WrongChange)
      (ap (λ (b : Bool). cond b s.due []) (lt-ltb s.last at_ledgers early) ∙ h.due (omega (arith, early)) ∙ ap (λ (n : ℕ). drop n lines) (sym still.told))
      ∙ ap (λ (texts : List (List ℕ)). option_map as_text (slice_get texts now.told))
      (sym (due_texts_are (names_read now) (changes_in was.machine) (last_ended s) h.active) ∙ ap (λ (changes : ChangeLists). due_texts (names_read now) changes (last_ended s)) (sym still.changes))

  -- after the first ledger no change is due
  late_change : 8 ≤ now.last → first_due_text (names_read now) s WrongChange ≡ None
  late_change past =
      let same = still.last in
      let last = h.last in
      ap (λ (b : Bool). option_map (λ (line : Line). as_text (due_text (names_read now) line)) (slice_get (cond b s.due []) 0)) (le-ltb s.last at_ledgers (omega (arith, same, last, past)))

  -- the ledgers that are due are those that have not come yet
  ledgers_left : now.last ≤ 8 → ledgers_due true s ≡ drop (ledgers_told now) (ledger_lines true (head_in s) (entries_in s))
  ledgers_left most = at (nat_lt s.last at_ledgers) refl
    where
      same : now.last ≡ was.last
      same = still.last

      last : was.last ≡ s.last
      last = h.last

      at : (b : Bool) → nat_lt s.last at_ledgers ≡ b → cond b (ledger_lines true (head_in s) (entries_in s)) s.due ≡ drop (ledgers_told now) (ledger_lines true (head_in s) (entries_in s))
      at true e =
          let low = ltb-true s.last at_ledgers e in
          ap (λ (n : ℕ). drop n (ledger_lines true (head_in s) (entries_in s))) (sym (ap (λ (b : Bool). cond b now.told 0) (ne_eqb now.last at_ledgers (λ there. omega (arith, same, last, low, there)))))
      at false e =
          let high = ltb-false s.last at_ledgers e in
          h.left (omega (arith, same, last, most, high))
          ∙ ap (λ (n : ℕ). drop n (ledger_lines true (head_in s) (entries_in s))) (sym (ap (λ (b : Bool). cond b now.told 0) (eq-eqb now.last at_ledgers (omega (arith, same, last, most, high))) ∙ still.told))

  -- the text of the next ledger is that of the first one due
  ledger_first : now.last ≤ 8 → first_due_text (names_read now) s WrongLedger ≡ option_map as_text (ledger_text (names_read now) now.ledgers.items (ledgers_told now))
  unfolding ledger_lines
  ledger_first most =
      let same = still.last in
      let last = h.last in
      let unended : s.last < 9 = omega (arith, same, last, most) in
      first_left (names_read now) (ledger_lines true (head_in s) (entries_in s)) (ledgers_told now) (due_behind s WrongLedger)
      (ap (λ (b : Bool). cond b (ledgers_due true s) []) (lt-ltb s.last at_end unended) ∙ ledgers_left most)
      ∙ ap (option_map as_text)
      (ledger_texts (names_read now) now.ledgers.items (length s.resources) (ledger_after (entries_in s)) (ap (λ (items : List Ledger). length items) still.ledgers ∙ h.ledgers.many)
      (λ l low. ap (λ (items : List Ledger). slice_get items l) still.ledgers ∙ h.ledgers.each l low) (ledgers_told now))

  -- after the end no ledger is due
  late_ledger : 8 < now.last → first_due_text (names_read now) s WrongLedger ≡ None
  late_ledger past =
      let same = still.last in
      let last = h.last in
      ap (λ (b : Bool). option_map (λ (line : Line). as_text (due_text (names_read now) line)) (slice_get (cond b (ledgers_due true s) []) 0)) (le-ltb s.last at_end (omega (arith, same, last, past)))

  -- what is made for a wrong change is the first change or wait that is due
  pub change_made : (made : Option (List ℕ))
      → ((p : Past) (before : List Event) (last : Event) → IsSomeAnd now.following (λ f. Follows f p) → p.events ≡ before ++ last ∷ [] → now.last < 8
      → made ≡ option_map as_text (slice_get (due_texts (names_read now) (changes_in now.machine) (ended_by (start_of p) before last)) now.told))
      → ((p : Past) → IsSomeAnd now.following (λ f. Follows f p) → p.events ≡ [] → now.last < 8
      → made ≡ option_map as_text (slice_get (due_texts (names_read now) (changes_in now.machine) []) now.told))
      → (now.following ≡ None → made ≡ None) → (8 ≤ now.last → made ≡ None) → first_due_text (names_read now) s WrongChange ≡ made
  change_made made change begun unbegun behind = at (nat_lt now.last at_ledgers) refl
    where
      at : (b : Bool) → nat_lt now.last at_ledgers ≡ b → first_due_text (names_read now) s WrongChange ≡ made
      at true e =
          let low = ltb-true now.last at_ledgers e in
          change_first low ∙ sym (at_last made (λ p before last follows is. change p before last follows is low) (λ p follows none. begun p follows none low) unbegun)
      at false e =
          let past = ltb-false now.last at_ledgers e in
          late_change past ∙ sym (behind past)

  -- what is made for a wrong ledger is the first ledger that is due
  pub ledger_made : (made : Option (List ℕ)) → (now.last ≤ 8 → made ≡ option_map as_text (ledger_text (names_read now) now.ledgers.items (ledgers_told now)))
      → (8 < now.last → made ≡ None) → first_due_text (names_read now) s WrongLedger ≡ made
  ledger_made made ledger ended = at (nat_lt at_ledgers now.last) refl
    where
      at : (b : Bool) → nat_lt at_ledgers now.last ≡ b → first_due_text (names_read now) s WrongLedger ≡ made
      at true e =
          let past = ltb-true at_ledgers now.last e in
          late_ledger past ∙ sym (ended past)
      at false e =
          let most = ltb-false at_ledgers now.last e in
          ledger_first most ∙ sym (ledger most)
