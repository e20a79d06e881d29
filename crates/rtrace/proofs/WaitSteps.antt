-- The waits that were reported and those that are left: one more line at a time.
use Rattle.std.proofs.Common.{◌≡◌, ℕ, ◌-◌, Bool, true, false, not, ◌&&◌, cond, nat_lt, is_some, List, [], ◌∷◌, ◌++◌, drop, filter, length, Option, Some, None, refl, sym, ap, subst, ◌∙◌, arith, true≢false, append_assoc}
use Rattle.std.specs.Prelude.{option_map, option_and_then, option_to_list, IsSome}
use Rattle.std.proofs.Math.Seq.{drop-nil}
use Rattle.std.proofs.Math.ListN.{drop_of_length-le}
use Rattle.std.proofs.lemmas.Bool.{and_parts, lt-ltb, ltb-true}
use Rattle.std.proofs.lemmas.List.{append-nil}
use Rattle.rclaim.specs.Changes.{ChangeLists}
use Rattle.rclaim.specs.declared.event.Event.{Event}
use Rattle.rbound.specs.Bounds.{Numbers}
use Rattle.rmodel.specs.Changes.{changes_between, AreActive}
use Rattle.rmodel.specs.Steps.{next}
use Rattle.rvalue.specs.declared.act.Act.{Act}
use Rattle.rvalue.specs.declared.act.Act.TheVariants.{Edited, Shown}
use Rattle.rvalue.specs.declared.ledger.Edit.{Edit}
use Rattle.rvalue.specs.declared.ledger.Edit.TheVariants as edit
use Rattle.rcover_laws.specs.declared.wait_end.WaitEnd.{WaitEnd}
use Rattle.rtrace_form.specs.Heads.{Head, is_nil}
use Rattle.rtrace_form.specs.Records.{Row}
use Rattle.rtrace_form.specs.Lines.{Line, Opens, HasResource, HasGroup, HasTask, HasCap, Happens, Does, BecomesEntitled, BecomesSatisfied, Grants, Waits, Leaves, Ends, word_of}
use Rattle.rtrace_form.specs.Waits.{all_ended, ended_from, ended_in}
use Rattle.rtrace_form.specs.Reports.{Entry}
use Rattle.rtrace_form.specs.SoFar.{SoFar, stands, head_in, entries_in, names_in, lock_in, at_ledgers, with_act, bare, with_line, with_meaning, with_row, event_place}
use Rattle.rtrace_form.specs.Faults.{code_of, is_change_due, is_first, is_same_line}
use Rattle.rtrace_form.specs.ToldWaits.{tells_wait}
use Rattle.rtrace_form.specs.WrongBounds.{bound_told, bound_said}
use Rattle.rtrace_form.specs.declared.word.Stage.{Stage}
use Rattle.rtrace_form.proofs.facts.Choices.{some_none}
use Rattle.rtrace_form.proofs.facts.Fine.{IsFine}
use Rattle.rtrace_form.proofs.facts.Said.{clean, IsClean}
use Rattle.rtrace_form.proofs.facts.Tests.{not_false}
use Rattle.rtrace_form.proofs.lists.Places.{no_change, none_due, placed}
use Rattle.rtrace_form.proofs.lists.ToldWaits.{all_ended_push}
use Rattle.rtrace_read.specs.declared.reading.ReportReader.{ReportReader}
use Rattle.rtrace_read.specs.Knows.{Knows, ended_at, last_ended, waits_due}
use Rattle.rtrace.specs.ToldBounds.{waits_left}
use Rattle.rtrace_read.proofs.DueWaits.{waits_in, all_due}
use Rattle.rtrace_read.proofs.EventSteps.{due_is, event_high}

-- ---- what was reported, and what is left

-- what was reported and what is left are all waits that ended
abbrev pub AreAll : List WaitEnd → SoFar → Type 0
AreAll told s = told ++ waits_left s ≡ all_ended (head_in s) (entries_in s)

none_left : (s : SoFar) → s.latest ≡ None → waits_left s ≡ []
none_left s never = at (nat_lt s.last at_ledgers)
  where
    at : (b : Bool) → cond b (waits_due s) [] ≡ []
    at true = ap (λ (l : Option Entry). drop (length (ended_at (head_in s) s.earlier l) - waits_in s.due) (ended_at (head_in s) s.earlier l)) never ∙ drop-nil (0 - waits_in s.due)
    at false = refl

-- before the first event no wait has ended
pub none_ended : (s : SoFar) → s.earlier ≡ [] → s.latest ≡ None → all_ended (head_in s) (entries_in s) ≡ []
unfolding ended_from
none_ended s first never = λ i. ended_from (head_in s) [] (first i ++ option_to_list (never i))

pub no_due_left : (s : SoFar) → is_change_due s ≡ false → waits_left s ≡ []
no_due_left s none = at (nat_lt s.last at_ledgers) refl
  where
    at : (b : Bool) → nat_lt s.last at_ledgers ≡ b → cond b (waits_due s) [] ≡ []
    at true early =
        let empty : s.due ≡ [] = no_change s none (ltb-true s.last 8 early) in
        ap (λ (lines : List Line). drop (length (last_ended s) - waits_in lines) (last_ended s)) empty ∙ drop_of_length-le (last_ended s) (omega arith)
    at false early = refl

due_left_is : (s : SoFar) → nat_lt s.last at_ledgers ≡ true → waits_left s ≡ waits_due s
due_left_is s early = ap (λ b. cond b (waits_due s) []) early

pub some_not : {X : Type 0} {o : Option X} → o ≡ None → IsSome o → ⊥
some_not none some = true≢false (sym some ∙ ap is_some none)

-- ---- the head

early_on : (told : List WaitEnd) (s t : SoFar) → s.earlier ≡ [] → s.latest ≡ None → t.earlier ≡ [] → t.latest ≡ None → AreAll told s → AreAll told t
early_on told s t first never then still all =
    ap (λ (ws : List WaitEnd). told ++ ws) (none_left t still ∙ sym (none_left s never)) ∙ all ∙ none_ended s first never ∙ sym (none_ended t then still)

-- ---- events

event_left : (new : ReportReader) (s : SoFar) (e : Event) → Knows true new (with_line true s (Happens e)) → waits_left (with_line true s (Happens e)) ≡ ended_in (head_in s) (entries_in s) e
event_left new s e h =
    let t = with_line true s (Happens e) in
    let ws = ended_in (head_in s) (entries_in s) e in
    let high = event_high e in
    let active = subst (λ (changes : ChangeLists). AreActive changes.statuses) (h.changes (bare e) refl) h.active in
    let due : waits_in t.due ≡ length ws = ap waits_in (due_is true (head_in s) (entries_in s) (lock_in s) e active) ∙ all_due (changes_between (lock_in s) (next (lock_in s) e)) ws in
    let none : length ws - waits_in t.due ≡ 0 = omega (arith, due) in
    due_left_is t (lt-ltb (event_place e) 8 (omega (arith, high))) ∙ ap (λ n. drop n ws) none

event_on : (told : List WaitEnd) (new : ReportReader) (s : SoFar) (e : Event) → Knows true new (with_line true s (Happens e)) → is_change_due s ≡ false → AreAll told s → AreAll told (with_line true s (Happens e))
event_on told new s e h none all =
    let ws = ended_in (head_in s) (entries_in s) e in
    ap (λ (left : List WaitEnd). told ++ left) (event_left new s e h)
    ∙ ap (λ (before : List WaitEnd). before ++ ws) (sym (append-nil told) ∙ ap (λ (left : List WaitEnd). told ++ left) (sym (no_due_left s none)) ∙ all)
    ∙ sym (all_ended_push (head_in s) (entries_in s) (bare e))

-- ---- acts

act_most : (act : Act Edit) → (stands (word_of (Does act))).most ≡ 6
act_most (Shown place number) = refl
act_most (Edited place (edit.Add n) done) = refl
act_most (Edited place (edit.Take n) done) = refl
act_most (Edited place (edit.Set n) done) = refl

act_early : (s : SoFar) (act : Act Edit) → IsFine true s (Does act) → nat_lt s.last at_ledgers ≡ true
act_early s act fine = at (is_change_due s) refl
  where
    at : (b : Bool) → is_change_due s ≡ b → nat_lt s.last at_ledgers ≡ true
    at true due = (and_parts (nat_lt s.last at_ledgers) (not (is_nil s.due)) due).0
    at false none = let high = (placed true s (Does act) fine none).0.high in let most = act_most act in lt-ltb s.last 8 (omega (arith, high, most))

act_ended : (head : Head) (earlier : List Entry) (latest : Option Entry) (act : Act Edit) → ended_at head earlier (option_map (with_act act) latest) ≡ ended_at head earlier latest
act_ended head earlier None act = refl
act_ended head earlier (Some entry) act = refl

act_all : (head : Head) (earlier : List Entry) (latest : Option Entry) (act : Act Edit) → all_ended head (earlier ++ option_to_list (option_map (with_act act) latest)) ≡ all_ended head (earlier ++ option_to_list latest)
act_all head earlier None act = refl
act_all head earlier (Some entry) act = all_ended_push head earlier (with_act act entry) ∙ sym (all_ended_push head earlier entry)

act_on : (told : List WaitEnd) (s : SoFar) (act : Act Edit) → IsFine true s (Does act) → AreAll told s → AreAll told (with_line true s (Does act))
act_on told s act fine all =
    ap (λ (ws : List WaitEnd). told ++ drop (length ws - waits_in s.due) ws) (act_ended (head_in s) s.earlier s.latest act)
    ∙ ap (λ (ws : List WaitEnd). told ++ ws) (sym (due_left_is s (act_early s act fine)))
    ∙ all ∙ sym (act_all (head_in s) s.earlier s.latest act)

-- ---- changes, and waits

tells_not : (x line : Line) → ((seat : ℕ) (which : Stage) (cover bound : Numbers) → is_same_line (Waits seat which cover bound) line ≡ false) → is_same_line x line ≡ true → tells_wait x ≡ false
tells_not (Waits seat which cover bound) line other same = absurd (true≢false (sym same ∙ other seat which cover bound))
tells_not _ line other same = refl

same_many : (due : List Line) (line : Line) → ((seat : ℕ) (which : Stage) (cover bound : Numbers) → is_same_line (Waits seat which cover bound) line ≡ false) → is_first due line ≡ true → waits_in (drop 1 due) ≡ waits_in due
same_many [] line other first = absurd (true≢false (sym first))
same_many (x ∷ due) line other first = ap (λ b. length (cond b (x ∷ filter tells_wait due) (filter tells_wait due))) (sym (tells_not x line other first))

-- after a change as many waits are left as before it
change_on : (told : List WaitEnd) (s : SoFar) (line : Line) → ((seat : ℕ) (which : Stage) (cover bound : Numbers) → is_same_line (Waits seat which cover bound) line ≡ false)
    → not (is_change_due s && is_first s.due line) ≡ false → AreAll told s → AreAll told (record s { last = 7; due = drop 1 s.due })
change_on told s line other right all =
    let both = and_parts (is_change_due s) (is_first s.due line) (not_false (is_change_due s && is_first s.due line) right) in
    let early = (and_parts (nat_lt s.last at_ledgers) (not (is_nil s.due)) both.0).0 in
    ap (λ n. told ++ drop (length (last_ended s) - n) (last_ended s)) (same_many s.due line other both.1)
    ∙ ap (λ (ws : List WaitEnd). told ++ ws) (sym (due_left_is s early)) ∙ all

-- and the wait that is reported is no longer left
wait_on : (told : List WaitEnd) (s : SoFar) (w : WaitEnd) (line : Line) → not (is_change_due s && is_first s.due line) ≡ false → waits_due s ≡ w ∷ waits_due (record s { last = 7; due = drop 1 s.due })
    → AreAll told s → AreAll (told ++ w ∷ []) (record s { last = 7; due = drop 1 s.due })
wait_on told s w line right first all =
    let t : SoFar = record s { last = 7; due = drop 1 s.due } in
    let both = and_parts (is_change_due s) (is_first s.due line) (not_false (is_change_due s && is_first s.due line) right) in
    let early = (and_parts (nat_lt s.last at_ledgers) (not (is_nil s.due)) both.0).0 in
    append_assoc told (w ∷ []) (waits_due t)
    ∙ ap (λ (ws : List WaitEnd). told ++ ws) (sym first ∙ sym (due_left_is s early)) ∙ all

-- ---- the end

late_on : (told : List WaitEnd) (s : SoFar) → is_change_due s ≡ false → AreAll told s → told ++ [] ≡ all_ended (head_in s) (entries_in s)
late_on told s none all = ap (λ (ws : List WaitEnd). told ++ ws) (sym (no_due_left s none)) ∙ all

-- in the end nothing is left
pub all_at_end : (told : List WaitEnd) (s : SoFar) → s.last ≡ 9 → AreAll told s → told ≡ all_ended (head_in s) (entries_in s)
all_at_end told s nine all = sym (append-nil told) ∙ ap (λ (ws : List WaitEnd). told ++ ws) (sym (ap (λ n. cond (nat_lt n at_ledgers) (waits_due s) []) nine)) ∙ all

-- ---- one more line

line_on : (told : List WaitEnd) (new : ReportReader) (s : SoFar) (line : Line) → Knows true new (with_line true s line) → IsFine true s line → bound_told line ≡ None → AreAll told s → AreAll told (with_line true s line)
line_on told new s Opens h fine none all = let idle = h.idle (omega arith) in early_on told s (with_line true s Opens) idle.1 idle.2 idle.1 idle.2 all
line_on told new s (HasResource name) h fine none all = let idle = h.idle (omega arith) in early_on told s (with_line true s (HasResource name)) idle.1 idle.2 idle.1 idle.2 all
line_on told new s (HasGroup set) h fine none all = let idle = h.idle (omega arith) in early_on told s (with_line true s (HasGroup set)) idle.1 idle.2 idle.1 idle.2 all
line_on told new s (HasTask name) h fine none all = let idle = h.idle (omega arith) in early_on told s (with_line true s (HasTask name)) idle.1 idle.2 idle.1 idle.2 all
line_on told new s (HasCap n) h fine none all = let idle = h.idle (omega arith) in early_on told s (with_line true s (HasCap n)) idle.1 idle.2 idle.1 idle.2 all
line_on told new s (Happens e) h fine none all = event_on told new s e h (none_due true s (Happens e) fine refl refl) all
line_on told new s (Does act) h fine none all = act_on told s act fine all
line_on told new s (BecomesEntitled seat half) h fine none all = change_on told s (BecomesEntitled seat half) (λ _ _ _ _. refl) fine.change all
line_on told new s (BecomesSatisfied seat half) h fine none all = change_on told s (BecomesSatisfied seat half) (λ _ _ _ _. refl) fine.change all
line_on told new s (Grants seat set) h fine none all = change_on told s (Grants seat set) (λ _ _ _ _. refl) fine.change all
line_on told new s (Waits seat which cover bound) h fine none all = absurd (some_none (sym none))
line_on told new s (Leaves place ledger) h fine none all = late_on told s (none_due true s (Leaves place ledger) fine refl refl) all
line_on told new s Ends h fine none all = late_on told s (none_due true s Ends fine refl refl) all

line_wait : (told : List WaitEnd) (s : SoFar) (w : WaitEnd) (line : Line) (bound : Numbers) → IsFine true s line → bound_told line ≡ Some bound → waits_due s ≡ w ∷ waits_due (with_line true s line) → AreAll told s → AreAll (told ++ w ∷ []) (with_line true s line)
line_wait told s w (Waits seat which cover b) bound fine is first all = wait_on told s w (Waits seat which cover b) fine.change first all
line_wait told s w _ bound fine is first all = absurd (some_none is)

-- the head is declared by the first event
line_head : (new : ReportReader) (s : SoFar) (line : Line) → Knows true new (with_line true s line) → IsSome (with_line true s line).latest → head_in (with_line true s line) ≡ head_in s
line_head new s Opens h some = absurd (some_not (h.idle (omega arith)).2 some)
line_head new s (HasResource name) h some = absurd (some_not (h.idle (omega arith)).2 some)
line_head new s (HasGroup set) h some = absurd (some_not (h.idle (omega arith)).2 some)
line_head new s (HasTask name) h some = absurd (some_not (h.idle (omega arith)).2 some)
line_head new s (HasCap n) h some = absurd (some_not (h.idle (omega arith)).2 some)
line_head new s _ h some = refl

-- ---- one more record

module _ (new : ReportReader) (s : SoFar) (row : Row) (h : Knows true new (with_row true s row)) (right : code_of true s row ≡ None) where
  c : IsClean true s row
  c = clean true s row right

  leads : with_row true s row ≡ with_line true s c.line
  unfolding with_row
  leads = ap (with_meaning true s) c.means

  knows : Knows true new (with_line true s c.line)
  knows = subst (λ (t : SoFar). Knows true new t) leads h

  -- a record that is not of a wait leaves all that was left, and what its event ended
  pub row_on : (told : List WaitEnd) → bound_said true (names_in s) row ≡ None → AreAll told s → AreAll told (with_row true s row)
  row_on told none all = subst (λ (t : SoFar). AreAll told t) (sym leads) (line_on told new s c.line knows c.fine (sym (ap (option_and_then bound_told) c.means) ∙ none) all)

  -- and a record of a wait reports the first that is due
  pub row_wait : (told : List WaitEnd) (w : WaitEnd) (bound : Numbers) → bound_said true (names_in s) row ≡ Some bound → waits_due s ≡ w ∷ waits_due (with_row true s row) → AreAll told s → AreAll (told ++ w ∷ []) (with_row true s row)
  row_wait told w bound is first all =
      subst (λ (t : SoFar). AreAll (told ++ w ∷ []) t) (sym leads)
      (line_wait told s w c.line bound c.fine (sym (ap (option_and_then bound_told) c.means) ∙ is) (first ∙ ap (λ (t : SoFar). w ∷ waits_due t) leads) all)

  pub row_head : IsSome (with_row true s row).latest → head_in (with_row true s row) ≡ head_in s
  row_head some = ap head_in leads ∙ line_head new s c.line knows (subst (λ (t : SoFar). IsSome t.latest) leads some)
