-- One more line in the history: an event, an act, a change.
use Rattle.std.proofs.Common.{◌≡◌, ℕ, ◌≤◌, ◌<◌, ◌^◌, ◌==◌, ◌&&◌, ◌⊎◌, not, cond, Bool, true, false, List, [], ◌∷◌, ◌++◌, drop, length, map, Option, Some, None, refl, sym, ap, subst, ◌∙◌, arith, inl, inr, append_assoc, length-append, true≢false, nat_lt}
use Rattle.std.specs.Prelude.{option_map, option_to_list}
use Rattle.std.proofs.lemmas.Bool.{and_parts, eqb-true, ltb-true}
use Rattle.std.proofs.lemmas.List.{map-append}
use Rattle.rclaim.specs.declared.event.Event.{Event}
use Rattle.rclaim.specs.declared.event.Event.TheVariants as event
use Rattle.rmodel.specs.Steps.{Comes}
use Rattle.rvalue.specs.declared.act.Act.{Act}
use Rattle.rvalue.specs.declared.act.Act.TheVariants.{Edited, Shown}
use Rattle.rvalue.specs.declared.ledger.Edit.{Edit}
use Rattle.rvalue.specs.declared.ledger.Edit.TheVariants as edit
use Rattle.rvalue.proofs.InTurnLemmas.{AllInTurn-longer}
use Rattle.rtrace_form.specs.Heads.{is_nil}
use Rattle.rtrace_form.specs.Lines.{Line, Happens, Does, word_of}
use Rattle.rtrace_form.specs.Reports.{Entry, head_lines, history_lines, due_lines, IsLawful, IsRightEntry}
use Rattle.rtrace_form.specs.Waits.{no_bounds}
use Rattle.rtrace_form.specs.Events.{refusal_in}
use Rattle.rtrace_form.specs.SoFar.{SoFar, entries_in, head_in, lock_in, with_line, event_place, bare, with_act, stands, at_acts, at_changes, at_ledgers}
use Rattle.rtrace_form.specs.Faults.{is_change, is_change_due, is_first, is_right_in, is_right_act, is_act_here}
use Rattle.rtrace_form.proofs.facts.Fine.{IsFine}
use Rattle.rtrace_form.proofs.facts.Tests.{not_false}
use Rattle.rtrace_form.proofs.lists.Histories.{history-push, lock-issued}
use Rattle.rtrace_form.proofs.lists.Places.{IsBetween, none_due, placed, no_change, up_to_five}
use Rattle.rtrace_form.proofs.lists.RightActs.{right-push, right-bare}
use Rattle.rtrace_form.proofs.lists.SameLines.{first_is}
use Rattle.rtrace_form.proofs.lists.BlankLines.{without_bound, AreBlank, blank_behind, front_blank}
use Rattle.rtrace_form.proofs.forth.Stands.{Stands, IsNext, IsDeclared, IsOpen, front_of, front_before, front_lines, lawful_so_far}
use Rattle.rtrace_form.proofs.forth.HeadSteps.{few_more}

-- what is declared stays so, after the head
pub declared_later : (s : SoFar) → IsDeclared s → (place : ℕ) (earlier : List Entry) (latest : Option Entry) (due : List Line) → 4 ≤ s.last → 5 ≤ place
    → IsDeclared (record s { last = place; earlier = earlier; latest = latest; due = due })
declared_later s d place earlier latest due low high = record {
  resources = d.resources;
  tasks = d.tasks;
  grouped = d.grouped;
  some_resource = λ _. d.some_resource (omega (arith, low));
  some_task = λ _. d.some_task low;
  no_resources = λ e. absurd (omega (arith, e, high));
  no_groups = λ e. absurd (omega (arith, e, high));
  no_tasks = λ e. absurd (omega (arith, e, high));
  no_cap = λ e. absurd (omega (arith, e, high));
}

event_low : (e : Event) → 6 ≤ event_place e
event_low (event.Issue seat r) = omega arith
event_low (event.Finish seat) = omega arith
event_low (event.Rise seat) = omega arith
event_low (event.Ask seat part) = omega arith

event_high : (e : Event) → event_place e ≤ 7
event_high (event.Issue seat r) = omega arith
event_high (event.Finish seat) = omega arith
event_high (event.Rise seat) = omega arith
event_high (event.Ask seat part) = omega arith

-- an event may come after the head and the history
event_between : (s : SoFar) (e : Event) → IsBetween s (stands (word_of (Happens e))) → (4 ≤ s.last) × (s.last ≤ 7)
event_between s (event.Issue seat r) at = (at.low, at.high)
event_between s (event.Finish seat) at = (at.low, at.high)
event_between s (event.Rise seat) at = (at.low, at.high)
event_between s (event.Ask seat part) at = (at.low, at.high)

-- an act may come where acts do
act_between : (s : SoFar) (act : Act Edit) → IsBetween s (stands (word_of (Does act))) → s.last ≡ 6
act_between s (Shown place number) at = omega (arith, at.low, at.high)
act_between s (Edited place (edit.Add n) done) at = omega (arith, at.low, at.high)
act_between s (Edited place (edit.Take n) done) at = omega (arith, at.low, at.high)
act_between s (Edited place (edit.Set n) done) at = omega (arith, at.low, at.high)

few_act : (earlier : List Entry) (old new : Entry) (xs ys : List Entry) (lines : List Line) (act : Act Edit) → xs ≡ earlier ++ old ∷ [] → ys ≡ earlier ++ new ∷ [] → length xs ≤ length lines
    → length ys ≤ length (lines ++ Does act ∷ [])
few_act earlier old new xs ys lines act p q few =
    let a = ap length p ∙ length-append earlier (old ∷ []) in
    let b = ap length q ∙ length-append earlier (new ∷ []) in
    let c = length-append lines (Does act ∷ []) in
    omega (arith, a, b, c, few)

due_first : (c d f a : Bool) → cond c (not (d && f)) (d && not a) ≡ false → c ≡ true → (d ≡ true) × (f ≡ true)
due_first true true true a h e = (refl, refl)
due_first true true false a h e = absurd (true≢false h)
due_first true false f a h e = absurd (true≢false h)
due_first false d f a h e = absurd (true≢false (sym e))

-- the lines of an open entry are those of the history, with its changes after them
open_history : (whole : Bool) (s : SoFar) (lines : List Line) → IsOpen whole s lines → lines ++ s.due ≡ front_of whole s
open_history whole s lines o =
    let head = head_lines (head_in s) s.cap in
    let before = history_lines whole no_bounds (head_in s) [] s.earlier in
    let told = Happens o.entry.event ∷ map Does o.entry.acts in
    let changes = due_lines whole no_bounds (head_in s) s.earlier o.entry.event in
    (λ i. o.are i ++ o.due i)
    ∙ append_assoc (head ++ before) told changes
    ∙ append_assoc head before (told ++ changes)
    ∙ ap (λ (xs : List Line). head ++ xs) (sym (history-push whole no_bounds (head_in s) [] s.earlier o.entry))
    ∙ ap (λ (l : Option Entry). head ++ history_lines whole no_bounds (head_in s) [] (s.earlier ++ option_to_list l)) (sym o.is)

module _ (whole : Bool) (s : SoFar) (lines : List Line) (h : Stands whole s lines) where
  pub event_step : (e : Event) → length lines < 2 ^ 63 → IsNext whole s (Happens e) → Stands whole (with_line whole s (Happens e)) (lines ++ Happens e ∷ [])
  event_step e short next =
      let none = none_due whole s (Happens e) next.fine refl refl in
      let at = event_between s e (placed whole s (Happens e) next.fine none).0 in
      let quiet = no_change s none (omega (arith, at.1)) in
      let front = front_lines whole s lines h at.0 at.1 quiet in
      let changes = due_lines whole no_bounds (head_in s) (entries_in s) e in
      let head = head_lines (head_in s) s.cap in
      let before = history_lines whole no_bounds (head_in s) [] (entries_in s) in
      let few = lock-issued (head_in s) (entries_in s) in
      let all = h.few in
      let comes : Comes (lock_in s) e = next.comes (omega (arith, few, all, short)) (ap (λ b. cond b None (refusal_in (lock_in s) e)) (sym none) ∙ next.fine.accepted) in
      let low = event_low e in
      let high = event_high e in
      record {
        declared = declared_later s h.declared (event_place e) (entries_in s) (Some (bare e)) changes at.0 (omega (arith, low));
        none = λ place. absurd (omega (arith, place, low));
        heads = λ _ place. absurd (omega (arith, place, low));
        earlier = λ place. absurd (omega (arith, place, low));
        latest = λ place. absurd (omega (arith, place, low));
        due = λ place. absurd (omega (arith, place, low));
        few = (let one = length-append (entries_in s) (bare e ∷ []) in let two = length-append lines (Happens e ∷ []) in omega (arith, one, two, all));
        lawful = λ _. (AllInTurn-longer (IsRightEntry (head_in s)) (entries_in s) (bare e)).1 (lawful_so_far whole s lines h, right-bare (head_in s) (entries_in s) (bare e) refl comes);
        history = λ _ _. append_assoc lines (Happens e ∷ []) changes
            ∙ ap (λ (xs : List Line). xs ++ Happens e ∷ changes) front
            ∙ append_assoc head before (Happens e ∷ changes)
            ∙ ap (λ (xs : List Line). head ++ xs) (sym (history-push whole no_bounds (head_in s) [] (entries_in s) (bare e)));
        acts = λ _. record { entry = bare e; is = refl; are = ap (λ (xs : List Line). xs ++ Happens e ∷ []) front; due = refl };
        ledgers = λ place. absurd (omega (arith, place, high));
        ended = λ place. absurd (omega (arith, place, high));
      }

  act_place : (act : Act Edit) → IsFine whole s (Does act) → s.last ≡ 6
  act_place act fine = at (is_change_due s) refl
    where
      at : (b : Bool) → is_change_due s ≡ b → s.last ≡ 6
      at true e = eqb-true s.last 6 (not_false (s.last == 6) (ap (λ d. d && not (s.last == 6)) (sym e) ∙ fine.change))
      at false e = act_between s act (placed whole s (Does act) fine e).0

  pub act_step : (act : Act Edit) → IsNext whole s (Does act) → Stands whole (with_line whole s (Does act)) (lines ++ Does act ∷ [])
  act_step act next =
      let six = act_place act next.fine in
      let o = h.acts six in
      let now : SoFar = with_line whole s (Does act) in
      let latest : now.latest ≡ Some (with_act act o.entry) = ap (option_map (with_act act)) o.is in
      let entries : entries_in now ≡ s.earlier ++ with_act act o.entry ∷ [] = ap (λ (l : Option Entry). s.earlier ++ option_to_list l) latest in
      let were : entries_in s ≡ s.earlier ++ o.entry ∷ [] = ap (λ (l : Option Entry). s.earlier ++ option_to_list l) o.is in
      let right : is_right_act s o.entry act ≡ true = ap (λ (l : Option Entry). is_right_in s l act) (sym o.is) ∙ not_false (is_right_in s s.latest act) next.fine.act in
      let parts = (AllInTurn-longer (IsRightEntry (head_in s)) s.earlier o.entry).0 (subst (λ (xs : List Entry). IsLawful (head_in s) xs) were (h.lawful (omega (arith, six)))) in
      let opened : IsOpen whole now (lines ++ Does act ∷ []) = record {
        entry = with_act act o.entry;
        is = latest;
        are = ap (λ (xs : List Line). xs ++ Does act ∷ []) o.are
            ∙ append_assoc (front_before whole s) (Happens o.entry.event ∷ map Does o.entry.acts) (Does act ∷ [])
            ∙ ap (λ (xs : List Line). front_before whole s ++ Happens o.entry.event ∷ xs) (sym (map-append Does o.entry.acts (act ∷ [])));
        due = o.due;
      } in
      record {
        declared = declared_later s h.declared at_acts s.earlier now.latest s.due (omega (arith, six)) (omega arith);
        none = λ place. absurd (omega (arith, place));
        heads = λ _ place. absurd (omega (arith, place));
        earlier = λ place. absurd (omega (arith, place));
        latest = λ place. absurd (omega (arith, place));
        due = λ place. absurd (omega (arith, place));
        few = few_act s.earlier o.entry (with_act act o.entry) (entries_in s) (entries_in now) lines act were entries h.few;
        lawful = λ _. subst (λ (xs : List Entry). IsLawful (head_in s) xs) (sym entries)
            ((AllInTurn-longer (IsRightEntry (head_in s)) s.earlier (with_act act o.entry)).1 (parts.0, right-push (head_in s) s.earlier o.entry act right parts.1));
        history = λ _ _. open_history whole now (lines ++ Does act ∷ []) opened;
        acts = λ _. opened;
        ledgers = λ place. absurd (omega (arith, place));
        ended = λ place. absurd (omega (arith, place));
      }

  -- a line of a change or a wait is the one that is due, but for its bound
  pub change_step : (line : Line) → is_change line ≡ true → IsFine whole s line → Stands whole (record s { last = at_changes; due = drop 1 s.due }) (lines ++ without_bound line ∷ [])
  change_step line change fine =
      let both = due_first (is_change line) (is_change_due s) (is_first s.due line) (is_act_here s line) fine.change change in
      let early = ltb-true s.last 8 (and_parts (nat_lt s.last at_ledgers) (not (is_nil s.due)) both.0).0 in
      let high : 6 ≤ s.last = behind_head (up_to_five s.last) both.1 in
      let history = h.history high (omega (arith, early)) in
      let due = first_is s.due line (blank_behind lines s.due (subst AreBlank (sym history) (front_blank whole (head_in s) s.cap (entries_in s)))) both.1 in
      record {
        declared = declared_later s h.declared at_changes s.earlier s.latest (drop 1 s.due) (omega (arith, high)) (omega arith);
        none = λ e. absurd (omega (arith, e));
        heads = λ _ e. absurd (omega (arith, e));
        earlier = λ e. absurd (omega (arith, e));
        latest = λ e. absurd (omega (arith, e));
        due = λ e. absurd (omega (arith, e));
        few = few_more _ lines (without_bound line) h.few;
        lawful = λ _. h.lawful high;
        history = λ _ _. append_assoc lines (without_bound line ∷ []) (drop 1 s.due) ∙ ap (λ (xs : List Line). lines ++ xs) (sym due) ∙ history;
        acts = λ e. absurd (omega (arith, e));
        ledgers = λ e. absurd (omega (arith, e));
        ended = λ e. absurd (omega (arith, e));
      }
    where
      behind_head : (s.last ≤ 5) ⊎ (6 ≤ s.last) → is_first s.due line ≡ true → 6 ≤ s.last
      behind_head (inl low) is = absurd (true≢false (sym is ∙ ap (λ (xs : List Line). is_first xs line) (h.due low)))
      behind_head (inr high) is = high
