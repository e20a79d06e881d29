-- What a record of an event list adds to the text of its history.
use Rattle.std.proofs.Common.{◌≡◌, ◌⊎◌, inl, inr, ◌≤◌, true, false, List, [], ◌∷◌, ◌++◌, length, Option, Some, None, refl, sym, ap, subst, ◌∙◌, arith, true≢false, length-append}
use Rattle.std.specs.Prelude.{option_map, option_to_list, IsSome}
use Rattle.rclaim.specs.declared.event.Event.{Event}
use Rattle.rclaim.specs.declared.event.Event.TheVariants as event
use Rattle.rmodel.specs.Changes.{changes_between}
use Rattle.rmodel.specs.Steps.{next}
use Rattle.rvalue.specs.declared.act.Act.{Act}
use Rattle.rvalue.specs.declared.ledger.Edit.{Edit}
use Rattle.rtrace_form.specs.Records.{Row}
use Rattle.rtrace_form.specs.Fields.{Names}
use Rattle.rtrace_form.specs.Heads.{Head}
use Rattle.rtrace_form.specs.Lines.{Line, Opens, HasResource, HasGroup, HasTask, HasCap, Happens, Does, BecomesEntitled, BecomesSatisfied, Grants, Waits, Leaves, Ends}
use Rattle.rtrace_form.specs.Reports.{Entry, history_lines, change_lines, wait_lines, lock_after}
use Rattle.rtrace_form.specs.SoFar.{SoFar, entries_in, head_in, lock_in, names_in, bare, with_act, with_line, with_meaning, with_row}
use Rattle.rtrace_form.specs.Faults.{code_of, is_act}
use Rattle.rtrace_form.proofs.facts.Fine.{IsFine}
use Rattle.rtrace_form.proofs.facts.Said.{clean}
use Rattle.rtrace_form.proofs.lists.Histories.{history-push}
use Rattle.rtrace_form.proofs.lists.NoActs.{no_act}
use Rattle.rtrace_form.proofs.lists.Places.{placed, none_due, up_to_five}
use Rattle.rtrace_form.specs.Waits.{ended_in, no_bounds}
use Rattle.rtrace_write.specs.Open.{open_told}
use Rattle.rtrace_write.specs.Told.{step_told}
use Rattle.rtrace_write.proofs.Opening.{open-append}
use Rattle.rtrace_replay.specs.Replaying.{history_text}

-- no list is longer by one item than itself
no_longer : {X : Type 0} (xs : List X) (x : X) → xs ≡ xs ++ x ∷ [] → ⊥
no_longer {X} xs x e = let more = length-append xs (x ∷ []) in let same : length xs ≡ length (xs ++ x ∷ []) = ap (λ (ys : List X). length ys) e in omega (arith, more, same)

-- the latest entry is not one more entry
one_latest : (earlier : List Entry) (latest : Option Entry) (x : Entry) → earlier ≡ earlier ++ option_to_list latest → latest ≡ Some x → ⊥
one_latest earlier latest x e is = no_longer earlier x (e ∙ ap (λ (o : Option Entry). earlier ++ option_to_list o) is)

-- ---- an event

-- a line that makes this the latest entry, after all before it, declares nothing
adds_event : (s : SoFar) (line : Line) (e : Event) → is_act line ≡ false → (with_line false s line).earlier ≡ entries_in s → (with_line false s line).latest ≡ Some (bare e) → head_in (with_line false s line) ≡ head_in s
adds_event s (Does act) e plain earlier latest = absurd (true≢false plain)
adds_event s (HasResource name) e plain earlier latest = absurd (one_latest s.earlier s.latest (bare e) earlier latest)
adds_event s (HasGroup group) e plain earlier latest = absurd (one_latest s.earlier s.latest (bare e) earlier latest)
adds_event s (HasTask name) e plain earlier latest = absurd (one_latest s.earlier s.latest (bare e) earlier latest)
adds_event s (HasCap n) e plain earlier latest = absurd (one_latest s.earlier s.latest (bare e) earlier latest)
adds_event s (Happens f) e plain earlier latest = refl
adds_event s Opens e plain earlier latest = refl
adds_event s (BecomesEntitled seat half) e plain earlier latest = refl
adds_event s (BecomesSatisfied seat half) e plain earlier latest = refl
adds_event s (Grants seat set) e plain earlier latest = refl
adds_event s (Waits seat stage cover bound) e plain earlier latest = refl
adds_event s (Leaves place ledger) e plain earlier latest = refl
adds_event s Ends e plain earlier latest = refl

-- ---- no event

-- after the head nothing declares anything
far_same : (s : SoFar) (line : Line) → IsFine false s line → 6 ≤ s.last → head_in (with_line false s line) ≡ head_in s
far_same s Opens fine far = absurd (let at = (placed false s Opens fine (none_due false s Opens fine refl refl)).0 in omega (arith, at.high, far))
far_same s (HasResource name) fine far = absurd (let at = (placed false s (HasResource name) fine (none_due false s (HasResource name) fine refl refl)).0 in omega (arith, at.high, far))
far_same s (HasGroup group) fine far = absurd (let at = (placed false s (HasGroup group) fine (none_due false s (HasGroup group) fine refl refl)).0 in omega (arith, at.high, far))
far_same s (HasTask name) fine far = absurd (let at = (placed false s (HasTask name) fine (none_due false s (HasTask name) fine refl refl)).0 in omega (arith, at.high, far))
far_same s (HasCap n) fine far = absurd (let at = (placed false s (HasCap n) fine (none_due false s (HasCap n) fine refl refl)).0 in omega (arith, at.high, far))
far_same s (Happens e) fine far = refl
far_same s (Does act) fine far = refl
far_same s (BecomesEntitled seat half) fine far = refl
far_same s (BecomesSatisfied seat half) fine far = refl
far_same s (Grants seat set) fine far = refl
far_same s (Waits seat stage cover bound) fine far = refl
far_same s (Leaves place ledger) fine far = refl
far_same s Ends fine far = refl

far_stays : (s : SoFar) (line : Line) → IsFine false s line → 6 ≤ s.last → 6 ≤ (with_line false s line).last
far_stays s Opens fine far = absurd (let at = (placed false s Opens fine (none_due false s Opens fine refl refl)).0 in omega (arith, at.high, far))
far_stays s (HasResource name) fine far = absurd (let at = (placed false s (HasResource name) fine (none_due false s (HasResource name) fine refl refl)).0 in omega (arith, at.high, far))
far_stays s (HasGroup group) fine far = absurd (let at = (placed false s (HasGroup group) fine (none_due false s (HasGroup group) fine refl refl)).0 in omega (arith, at.high, far))
far_stays s (HasTask name) fine far = absurd (let at = (placed false s (HasTask name) fine (none_due false s (HasTask name) fine refl refl)).0 in omega (arith, at.high, far))
far_stays s (HasCap n) fine far = absurd (let at = (placed false s (HasCap n) fine (none_due false s (HasCap n) fine refl refl)).0 in omega (arith, at.high, far))
far_stays s (Happens (event.Issue seat r)) fine far = omega arith
far_stays s (Happens (event.Finish seat)) fine far = omega arith
far_stays s (Happens (event.Rise seat)) fine far = omega arith
far_stays s (Happens (event.Ask seat part)) fine far = omega arith
far_stays s (Does act) fine far = omega arith
far_stays s (BecomesEntitled seat half) fine far = omega arith
far_stays s (BecomesSatisfied seat half) fine far = omega arith
far_stays s (Grants seat set) fine far = omega arith
far_stays s (Waits seat stage cover bound) fine far = omega arith
far_stays s (Leaves place ledger) fine far = omega arith
far_stays s Ends fine far = omega arith

-- an entry with one more act is another
no_act_more : (latest : Option Entry) (act : Act Edit) → IsSome latest → latest ≡ option_map (with_act act) latest → ⊥
no_act_more None act is e = true≢false (sym is)
no_act_more (Some x) act is e = no_longer x.acts act (ap acts_of e)
  where
    acts_of : Option Entry → List (Act Edit)
    acts_of None = []
    acts_of (Some y) = y.acts

-- no line of a list adds an act
adds_act : (s : SoFar) (line : Line) (act : Act Edit) → is_act line ≡ false → (with_line false s line).earlier ≡ s.earlier → (with_line false s line).latest ≡ option_map (with_act act) s.latest → IsSome s.latest → ⊥
adds_act s (Does other) act plain earlier latest is = true≢false plain
adds_act s (Happens e) act plain earlier latest is = at s.latest is (sym earlier)
  where
    at : (o : Option Entry) → IsSome o → s.earlier ≡ s.earlier ++ option_to_list o → ⊥
    at None is same = true≢false (sym is)
    at (Some x) is same = no_longer s.earlier x same
adds_act s Opens act plain earlier latest is = no_act_more s.latest act is latest
adds_act s (HasResource name) act plain earlier latest is = no_act_more s.latest act is latest
adds_act s (HasGroup group) act plain earlier latest is = no_act_more s.latest act is latest
adds_act s (HasTask name) act plain earlier latest is = no_act_more s.latest act is latest
adds_act s (HasCap n) act plain earlier latest is = no_act_more s.latest act is latest
adds_act s (BecomesEntitled seat half) act plain earlier latest is = no_act_more s.latest act is latest
adds_act s (BecomesSatisfied seat half) act plain earlier latest is = no_act_more s.latest act is latest
adds_act s (Grants seat set) act plain earlier latest is = no_act_more s.latest act is latest
adds_act s (Waits seat stage cover bound) act plain earlier latest is = no_act_more s.latest act is latest
adds_act s (Leaves place ledger) act plain earlier latest is = no_act_more s.latest act is latest
adds_act s Ends act plain earlier latest is = no_act_more s.latest act is latest

-- ---- texts

-- the text of a history with one more event
event_more : (head : Head) (names : Names) (earlier : List Entry) (e : Event)
    → open_told names (history_lines true no_bounds head [] (earlier ++ bare e ∷ []))
    ≡ open_told names (history_lines true no_bounds head [] earlier)
    ++ open_told names (Happens e ∷ step_told (changes_between (lock_after head earlier) (next (lock_after head earlier) e)) (ended_in head earlier e))
unfolding change_lines wait_lines
event_more head names earlier e =
    ap (open_told names) (history-push true no_bounds head [] earlier (bare e))
    ∙ open-append names (history_lines true no_bounds head [] earlier)
    (Happens e ∷ step_told (changes_between (lock_after head earlier) (next (lock_after head earlier) e)) (ended_in head earlier e))

pub no_text : (head : Head) (names : Names) → open_told names (history_lines true no_bounds head [] []) ≡ []
unfolding history_lines
no_text head names = refl

module _ (s : SoFar) (row : Row) (right : code_of false s row ≡ None) where
  of_line : (P : SoFar → Type 0) → ((line : Line) → IsFine false s line → is_act line ≡ false → P (with_line false s line)) → P (with_row false s row)
  unfolding with_row
  of_line P each =
      let h = clean false s row right in
      subst (λ (o : Option Line). P (with_meaning false s o)) (sym h.means) (each h.line h.fine (no_act (names_in s) row h.line h.means))

  -- the record of an event declares nothing
  pub event_head : (e : Event) → (with_row false s row).earlier ≡ entries_in s → (with_row false s row).latest ≡ Some (bare e) → head_in (with_row false s row) ≡ head_in s
  event_head e = of_line (λ t. t.earlier ≡ entries_in s → t.latest ≡ Some (bare e) → head_in t ≡ head_in s) (λ line fine plain earlier latest. adds_event s line e plain earlier latest)

  -- the text of the history grows by the event, its changes, and the waits that it ended
  pub event_text : (e : Event) → (with_row false s row).earlier ≡ entries_in s → (with_row false s row).latest ≡ Some (bare e)
      → history_text (with_row false s row)
      ≡ history_text s ++ open_told (names_in s) (Happens e ∷ step_told (changes_between (lock_in s) (next (lock_in s) e)) (ended_in (head_in s) (entries_in s) e))
  event_text e earlier latest =
      let t = with_row false s row in
      let head = event_head e earlier latest in
      (λ i. open_told (record { resources = (head i).resources; tasks = (head i).tasks }) (history_lines true no_bounds (head i) [] (earlier i ++ option_to_list (latest i))))
      ∙ event_more (head_in s) (names_in s) (entries_in s) e

  -- a record that adds no entry leaves the text
  pub other_text : (s.last ≤ 5 → entries_in s ≡ []) → (with_row false s row).earlier ≡ s.earlier → (with_row false s row).latest ≡ s.latest → history_text (with_row false s row) ≡ history_text s
  other_text idle earlier latest = at (up_to_five s.last)
    where
      same : entries_in (with_row false s row) ≡ entries_in s
      same = λ i. earlier i ++ option_to_list (latest i)

      at : (s.last ≤ 5) ⊎ (6 ≤ s.last) → history_text (with_row false s row) ≡ history_text s
      at (inl near) =
          let none = idle near in
          ap (λ entries. open_told (names_in (with_row false s row)) (history_lines true no_bounds (head_in (with_row false s row)) [] entries)) (same ∙ none) ∙ no_text (head_in (with_row false s row)) (names_in (with_row false s row))
          ∙ sym (ap (λ entries. open_told (names_in s) (history_lines true no_bounds (head_in s) [] entries)) none ∙ no_text (head_in s) (names_in s))
      at (inr far) =
          let head = of_line (λ t. head_in t ≡ head_in s) (λ line fine plain. far_same s line fine far) in
          (λ i. open_told (record { resources = (head i).resources; tasks = (head i).tasks }) (history_lines true no_bounds (head i) [] (same i)))

  -- after the head the head stays
  pub far_head : 6 ≤ s.last → head_in (with_row false s row) ≡ head_in s
  far_head far = of_line (λ t. head_in t ≡ head_in s) (λ line fine plain. far_same s line fine far)

  pub far_place : 6 ≤ s.last → 6 ≤ (with_row false s row).last
  far_place far = of_line (λ t. 6 ≤ t.last) (λ line fine plain. far_stays s line fine far)

  -- no record of a list adds an act
  pub never_act : (act : Act Edit) → (with_row false s row).earlier ≡ s.earlier → (with_row false s row).latest ≡ option_map (with_act act) s.latest → IsSome s.latest → ⊥
  never_act act = of_line (λ t. t.earlier ≡ s.earlier → t.latest ≡ option_map (with_act act) s.latest → IsSome s.latest → ⊥) (λ line fine plain earlier latest is. adds_act s line act plain earlier latest is)
