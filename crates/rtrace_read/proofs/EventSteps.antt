-- An event in its place.
use Rattle.std.proofs.Common.{◌≡◌, ℕ, ◌≤◌, Bool, true, false, ◌&&◌, cond, nat_le, List, [], ◌∷◌, ◌++◌, length, map, Option, Some, None, refl, sym, ap, subst, ◌∙◌, arith, true≢false}
use Rattle.std.specs.Prelude.{option_map}
use Rattle.std.specs.List.{flat_map}
use Rattle.std.proofs.lemmas.List.{length-map}
use Rattle.rset.specs.Sets.{Set}
use Rattle.rset.proofs.SetMembers.{contains_union, contains_empty}
use Rattle.rclaim.specs.Events.{seat_of}
use Rattle.rclaim.specs.Requests.{RequestFields, IsNormal}
use Rattle.rclaim.specs.declared.changes.StatusChange.{StatusChange}
use Rattle.rclaim.specs.declared.claim.Status.{Status}
use Rattle.rclaim.specs.declared.claim.Status.TheVariants.{Waiting, Entitled, Satisfied}
use Rattle.rclaim.specs.declared.request.RequestErr.TheVariants.{Undeclared}
use Rattle.rclaim.specs.declared.event.Event.{Event}
use Rattle.rclaim.specs.declared.event.Event.TheVariants as event
use Rattle.rmodel.specs.Claims.{is_admitted, active_by}
use Rattle.rmodel.specs.Changes.{changes_between, AreActive}
use Rattle.rmodel.specs.Holds.{holds_of}
use Rattle.rmodel.specs.State.{LockState}
use Rattle.rmodel.specs.Steps.{refusal, next}
use Rattle.rmodel.specs.declared.granted.Granted.{Granted}
use Rattle.rvalue.specs.Lawful.{stands_with, is_held}
use Rattle.rvalue.specs.Ledgers.{opening_ledger, value_after}
use Rattle.rvalue.specs.declared.act.Act.{Act}
use Rattle.rvalue.specs.declared.act.Act.TheVariants.{Edited, Shown}
use Rattle.rvalue.specs.declared.ledger.Edit.{Edit}
use Rattle.rvalue.proofs.ValueLemmas.{value_of-longer}
use Rattle.rcover.specs.Follows.{Follows}
use Rattle.rcover.specs.Past.{state_of, with_event}
use Rattle.rcover.specs.declared.following.Following.{Following}
use Rattle.rtrace_form.specs.Heads.{Head, opening_of, read_groups}
use Rattle.rtrace_form.specs.Lines.{Line, Happens}
use Rattle.rtrace_form.specs.Reports.{Entry, ledger_after, status_lines, status_line, grant_line, wait_line, change_lines, wait_lines}
use Rattle.rtrace_form.specs.Waits.{events_of, ended_in, no_bounds}
use Rattle.rtrace_form.specs.Events.{request_refusal, refusal_by, refusal_in}
use Rattle.rtrace_form.specs.SoFar.{SoFar, head_in, entries_in, lock_in, event_place, bare, with_line}
use Rattle.rtrace_form.specs.Walks.{first_of}
use Rattle.rtrace_form.specs.Faults.{line_code, is_change_due}
use Rattle.rtrace_form.specs.declared.fault.Code.{Code}
use Rattle.rtrace_form.specs.declared.fault.Code.TheVariants.{Refused}
use Rattle.rtrace_form.specs.declared.fault.Refusal.{Refusal}
use Rattle.rtrace_form.specs.declared.fault.Refusal.TheVariants.{Request, Step}
use Rattle.rtrace_form.proofs.facts.Choices.{some_is}
use Rattle.rtrace_form.proofs.facts.Coming.{some_set, fitting_first}
use Rattle.rtrace_form.proofs.written.Reaching.{lock-push, after_is}
use Rattle.rtrace_read.specs.declared.reading.ReportReader.{ReportReader}
use Rattle.rtrace_read.specs.Due.{due_list}
use Rattle.rtrace_read.specs.Knows.{Knows, may_do, due_left, past_in}
use Rattle.rtrace_read.specs.LineTakes.{place_code, FitsTold, event_admitted, stepped, shown_by, edited_by, Allows, noted}
use Rattle.rtrace_read.proofs.Codes.{plain_causes, place_code_is, placed, refused_code, no_plain_code, follows_both, event_is}
use Rattle.rtrace_read.proofs.Steps.{groups_on, events_push}

-- ---- requests

refusal_is : (groups : List Set) (r : RequestFields) (admitted : Bool) → IsNormal r → is_admitted groups r ≡ admitted → request_refusal groups r ≡ cond admitted None (Some Undeclared)
refusal_is groups r admitted normal is =
    let some = some_set r.kind r.reads r.writes normal.sets in
    let part = fitting_first r.kind r.reads r.writes r.first normal.first in
    rw (some, part, is) refl

pub refused_undeclared : (s : LockState) (e : Event) → FitsTold s e → event_admitted s.groups.groups e ≡ false → refusal_in s e ≡ Some (Request Undeclared)
unfolding refusal_in
refused_undeclared s (event.Issue seat r) fits none = ap (refusal_by s (event.Issue seat r)) (refusal_is s.groups.groups r false fits.3 none)
refused_undeclared s (event.Finish seat) fits none = absurd (true≢false none)
refused_undeclared s (event.Rise seat) fits none = absurd (true≢false none)
refused_undeclared s (event.Ask seat part) fits none = absurd (true≢false none)

pub refused_by_lock : (s : LockState) (e : Event) → FitsTold s e → event_admitted s.groups.groups e ≡ true → refusal_in s e ≡ option_map Step (refusal s e)
unfolding refusal_in
refused_by_lock s (event.Issue seat r) fits there = ap (refusal_by s (event.Issue seat r)) (refusal_is s.groups.groups r true fits.3 there)
refused_by_lock s (event.Finish seat) fits there = refl
refused_by_lock s (event.Rise seat) fits there = refl
refused_by_lock s (event.Ask seat part) fits there = refl

-- ---- what is due after an event

one_told : (seat : ℕ) (half : Bool) (status : Status) → active_by status ≡ true → status_lines seat half status ≡ status_line (record { seat = seat; write_half = half; status = status }) ∷ []
one_told seat half Waiting h = absurd (true≢false (sym h))
one_told seat half Entitled h = refl
one_told seat half Satisfied h = refl

all_told : (changes : List StatusChange) → AreActive changes → flat_map (λ (c : StatusChange). status_lines c.seat c.write_half c.status) changes ≡ map status_line changes
all_told [] active = refl
all_told (c ∷ changes) active = λ i. one_told c.seat c.write_half c.status active.0 i ++ all_told changes active.1 i

pub due_is : (whole : Bool) (head : Head) (earlier : List Entry) (s : LockState) (e : Event) → AreActive (changes_between s (next s e)).statuses
    → change_lines whole s e ++ wait_lines whole no_bounds head earlier e ≡ due_left whole 0 (due_list (changes_between s (next s e)) (ended_in head earlier e))
unfolding change_lines wait_lines
due_is true head earlier s e active =
    ap (λ (lines : List Line). (lines ++ map grant_line (changes_between s (next s e)).grants) ++ map (wait_line no_bounds) (ended_in head earlier e)) (all_told (changes_between s (next s e)).statuses active)
due_is false head earlier s e active = refl

bare_within : (entries : List Entry) (e : Event) (l : ℕ) → ledger_after (entries ++ bare e ∷ []) l ≡ ledger_after entries l
bare_within entries (event.Issue seat r) l = value_of-longer value_after opening_ledger entries (bare (event.Issue seat r)) l
bare_within entries (event.Finish seat) l = value_of-longer value_after opening_ledger entries (bare (event.Finish seat)) l
bare_within entries (event.Rise seat) l = value_of-longer value_after opening_ledger entries (bare (event.Rise seat)) l
bare_within entries (event.Ask seat part) l = value_of-longer value_after opening_ledger entries (bare (event.Ask seat part)) l

allowed_by : (held : Granted) (e : Event) (act : Act Edit) → event_place e ≡ 6 → may_do (shown_by held) (edited_by held e) act ≡ (stands_with e act && is_held held.reads held.writes act)
allowed_by held (event.Finish seat) (Edited place edit done) six = refl
allowed_by held (event.Finish seat) (Shown place number) six = contains_union held.reads held.writes place
allowed_by held (event.Rise seat) (Edited place edit done) six = contains_empty place
allowed_by held (event.Rise seat) (Shown place number) six = contains_union held.reads held.writes place
allowed_by held (event.Issue seat r) act six = absurd (omega (arith, six))
allowed_by held (event.Ask seat part) act six = absurd (omega (arith, six))

event_low : (e : Event) → 6 ≤ event_place e
event_low (event.Issue seat r) = omega arith
event_low (event.Finish seat) = omega arith
event_low (event.Rise seat) = omega arith
event_low (event.Ask seat part) = omega arith

pub event_high : (e : Event) → event_place e ≤ 7
event_high (event.Issue seat r) = omega arith
event_high (event.Finish seat) = omega arith
event_high (event.Rise seat) = omega arith
event_high (event.Ask seat part) = omega arith

module _ (whole : Bool) (old : ReportReader) (s : SoFar) (h : Knows whole old s) (e : Event) (here : place_code s 4 7 ≡ None) where
  at : (is_change_due s ≡ false) × ((nat_le 4 s.last && nat_le s.last 7) ≡ true)
  at = placed (is_change_due s) (nat_le 4 s.last && nat_le s.last 7) here

  code_by : (o : Option Refusal) → refusal_in (lock_in s) e ≡ o → line_code whole s (Happens e) ≡ first_of (plain_causes false (is_change_due s) (nat_le 4 s.last && nat_le s.last 7) false o false)
  code_by o is =
      event_is whole s e
      ∙ ap (λ (r : Option Refusal). first_of (plain_causes false (is_change_due s) (nat_le 4 s.last && nat_le s.last 7) false r false)) (ap (λ d. cond d None (refusal_in (lock_in s) e)) at.0 ∙ is)

  pub happen_refused : (cause : Refusal) → refusal_in (lock_in s) e ≡ Some cause → line_code whole s (Happens e) ≡ Some (Refused cause)
  happen_refused cause is = code_by (Some cause) is ∙ refused_code (is_change_due s) (nat_le 4 s.last && nat_le s.last 7) false cause here

  pub happen_taken : (state : LockState) (shown edited : Set) (follower : Following) → Follows follower (with_event (past_in s) e) → state ≡ lock_in s → refusal_in state e ≡ None → AreActive (changes_between state (next state e)).statuses
      → (whole ≡ true → Allows shown edited e (holds_of state.claims (seat_of e)))
      → (line_code whole s (Happens e) ≡ None) × Knows whole (noted (record old { machine = Some (stepped state e); following = Some follower; shown = shown; edited = edited }) e) (with_line whole s (Happens e))
  happen_taken state shown edited follower follows is free active allows =
      let both = follows_both 4 s.last 7 at.1 in
      let low = event_low e in
      let high = event_high e in
      let many = h.ledgers.many in (
        code_by None (ap (λ (l : LockState). refusal_in l e) (sym is) ∙ free) ∙ no_plain_code (is_change_due s) (nat_le 4 s.last && nat_le s.last 7) here,
        record {
          kind = h.kind;
          last = refl;
          most = omega (arith, high);
          resources = h.resources;
          tasks = h.tasks;
          cap = h.cap;
          capped = h.capped;
          groups = h.groups ∙ groups_on whole old s h both.0 (event_place e) (omega (arith, low));
          no_groups = λ early. absurd (omega (arith, early, low));
          some_resource = λ _. h.some_resource (omega (arith, both.0));
          some_task = λ _. h.some_task both.0;
          idle = λ early. absurd (omega (arith, early, low));
          untold = λ _. refl;
          lock = ap (λ (l : LockState). next l e) is ∙ sym (lock-push (head_in s) (entries_in s) (bare e));
          stand = (refl, subst (λ (es : List Event). Follows follower (record { groups = read_groups (head_in s); seats = length s.tasks; cap = (head_in s).cap; events = es })) (sym (events_push (entries_in s) (bare e))) follows);
          due = λ _. ap (λ (l : LockState). change_lines whole l e ++ wait_lines whole no_bounds (head_in s) (entries_in s) e) (sym is) ∙ due_is whole (head_in s) (entries_in s) state e active;
          changes = λ entry same. (λ i. changes_between (is i) (next (is i) ((some_is same) i).event));
          active = active;
          ledgers = record { many = many; each = λ l small. h.ledgers.each l small ∙ ap Some (sym (bare_within (entries_in s) e l)) };
          acts = λ report six. record {
            entry = bare e;
            is = refl;
            allowed = λ act. (λ i. may_do ((allows report).0 i) ((allows report).1 i) act)
                ∙ allowed_by (holds_of state.claims (seat_of e)) e act six
                ∙ ap (λ (l : LockState). stands_with e act && is_held (holds_of l.claims (seat_of e)).reads (holds_of l.claims (seat_of e)).writes act) is;
            within = λ l. sym (bare_within (entries_in s) e l);
          };
          left = λ eight. absurd (omega (arith, eight, high));
        },
      )

pub event_misplaced : (whole : Bool) (s : SoFar) (e : Event) (code : Code) → place_code s 4 7 ≡ Some code → line_code whole s (Happens e) ≡ Some code
event_misplaced whole s e code h =
    event_is whole s e ∙ place_code_is (is_change_due s) (nat_le 4 s.last && nat_le s.last 7) false false (cond (is_change_due s) None (refusal_in (lock_in s) e)) code
    (λ due. ap (λ d. cond d None (refusal_in (lock_in s) e)) due) h

-- ---- the events so far

pub past_state : (s : SoFar) → state_of (past_in s) ≡ lock_in s
past_state s = after_is (opening_of (head_in s)) (events_of (entries_in s))

pub past_many : (s : SoFar) → length (past_in s).events ≡ length (entries_in s)
past_many s = length-map (entries_in s) (λ (x : Entry). x.event)
