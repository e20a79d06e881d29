-- An act of the latest entry.
use Rattle.std.proofs.Common.{◌≡◌, ◌≢◌, ℕ, ◌<◌, ◌==◌, Bool, true, false, ◌&&◌, cond, nat_le, List, [], ◌∷◌, ◌++◌, get_or, length, map, fold, Option, Some, None, refl, sym, ap, subst, ◌∙◌, ◌↔◌, arith, IsTrue, true≢false}
use Rattle.std.specs.Prelude.{option_map, option_to_list}
use Rattle.std.proofs.Math.ListN.{set}
use Rattle.std.proofs.lemmas.Bool.{and_parts, eqb-true, eq-eqb}
use Rattle.std.proofs.lemmas.Bool.Decides.{nat_tests}
use Rattle.std.proofs.lemmas.List.{map-append, length-set, get_or-set_same, get_or-set_other}
use Rattle.std.proofs.lemmas.Option.{slice_get-get_or}
use Rattle.rclaim.specs.declared.event.Event.{Event}
use Rattle.rclaim.specs.declared.event.Event.TheVariants as event
use Rattle.rmodel.specs.Steps.{next}
use Rattle.rmodel.specs.Changes.{changes_between}
use Rattle.rvalue.specs.Acts.{place_of, value_within, value_after_act, IsAnsweredAt}
use Rattle.rvalue.specs.Lawful.{stands_with}
use Rattle.rvalue.specs.Ledgers.{opening_ledger, is_taken, value_after}
use Rattle.rvalue.specs.declared.act.Act.{Act}
use Rattle.rvalue.specs.declared.act.Act.TheVariants.{Edited, Shown}
use Rattle.rvalue.specs.declared.ledger.Edit.{Edit}
use Rattle.rvalue.specs.declared.ledger.Ledger.{Ledger}
use Rattle.rvalue.proofs.ValueLemmas.{value_within-append, value_of-longer}
use Rattle.rplain.specs.Machine.{Standing}
use Rattle.rcover.specs.Follows.{Follows}
use Rattle.rcover.specs.Past.{Past}
use Rattle.rcover.specs.declared.following.Following.{Following}
use Rattle.rtrace_form.specs.Heads.{Head, opening_of, read_groups}
use Rattle.rtrace_form.specs.Waits.{events_of}
use Rattle.rtrace_form.specs.Lines.{Does}
use Rattle.rtrace_form.specs.Reports.{Entry, lock_after, ledger_after}
use Rattle.rtrace_form.specs.SoFar.{SoFar, head_in, entries_in, with_act, with_line}
use Rattle.rtrace_form.specs.Faults.{line_code, is_right_in, is_answered, same_answer}
use Rattle.rtrace_form.specs.declared.fault.Code.TheVariants.{WrongShow}
use Rattle.rtrace_form.proofs.facts.Choices.{some_is, some_none}
use Rattle.rtrace_read.specs.declared.reading.ReportReader.{ReportReader}
use Rattle.rtrace_read.specs.Due.{due_list}
use Rattle.rtrace_read.specs.Knows.{Knows, IsOpen, may_do, due_left, changes_in, ended_at, past_in, StandBehind}
use Rattle.rtrace_read.proofs.Codes.{act_judged}
use Rattle.rtrace_read.proofs.Steps.{groups_on, events_push}

pub not_six : (n : ℕ) → (n ≡ 6 → ⊥) → ((n == 6) ≡ false) × ((nat_le 6 n && nat_le n 6) ≡ false)
not_six n h = (grind (arith, nat_tests), grind (arith, nat_tests))

-- ---- answers

same_is : (a b : Bool) → same_answer a b ≡ true → a ≡ b
same_is true b h = sym h
same_is false true h = absurd (true≢false (sym h))
same_is false false h = refl

is_same : (a : Bool) → same_answer a a ≡ true
is_same true = refl
is_same false = refl

answered_at : (ledger : Ledger) (act : Act Edit) → is_answered ledger act ≡ true → IsAnsweredAt is_taken (λ (l : Ledger). l.balance) ledger act
answered_at ledger (Edited place edit done) h = same_is done (is_taken ledger edit) h
answered_at ledger (Shown place number) h = eqb-true number ledger.balance h

at_answered : (ledger : Ledger) (act : Act Edit) → IsAnsweredAt is_taken (λ (l : Ledger). l.balance) ledger act → is_answered ledger act ≡ true
at_answered ledger (Edited place edit done) h = ap (λ b. same_answer b (is_taken ledger edit)) h ∙ is_same (is_taken ledger edit)
at_answered ledger (Shown place number) h = eq-eqb number ledger.balance h

-- an act done again answers whether its answer is right
pub answered_is : (right : Bool) (ledger : Ledger) (act : Act Edit) → (IsTrue right ↔ IsAnsweredAt is_taken (λ (l : Ledger). l.balance) ledger act) → is_answered ledger act ≡ right
answered_is true ledger act h = at_answered ledger act (h.0 refl)
answered_is false ledger act h = at (is_answered ledger act) refl
  where
    at : (b : Bool) → is_answered ledger act ≡ b → b ≡ false
    at true e = absurd (true≢false (sym (h.1 (answered_at ledger act e))))
    at false e = refl

-- ---- what an act makes of a ledger

pub act_here : (v : Ledger) (act : Act Edit) → value_within value_after v (act ∷ []) (place_of act) ≡ value_after_act value_after v act
act_here v (Edited place edit done) = ap (λ b. fold value_after v (cond b (edit ∷ []) [] ++ [])) (eq-eqb place place refl)
act_here v (Shown place number) = refl

pub act_elsewhere : (v : Ledger) (act : Act Edit) (l : ℕ) → l ≢ place_of act → value_within value_after v (act ∷ []) l ≡ v
act_elsewhere v (Edited place edit done) l other =
    let no : (place == l) ≡ false = grind (arith, nat_tests) in ap (λ b. fold value_after v (cond b (edit ∷ []) [] ++ [])) no
act_elsewhere v (Shown place number) l other = refl

-- after an entry that ends a section, its acts have edited; after a rise nothing was edited
finish_within : (earlier : List Entry) (acts : List (Act Edit)) (seat l : ℕ)
    → ledger_after (earlier ++ (record { event = event.Finish seat; acts = acts }) ∷ []) l ≡ value_within value_after (ledger_after earlier l) acts l
finish_within earlier acts seat l = value_of-longer value_after opening_ledger earlier (record { event = event.Finish seat; acts = acts }) l

rise_within : (earlier : List Entry) (acts : List (Act Edit)) (seat l : ℕ) → ledger_after (earlier ++ (record { event = event.Rise seat; acts = acts }) ∷ []) l ≡ ledger_after earlier l
rise_within earlier acts seat l = value_of-longer value_after opening_ledger earlier (record { event = event.Rise seat; acts = acts }) l

still_within : (earlier : List Entry) (e : Event) (acts : List (Act Edit)) (act : Act Edit) (l : ℕ) → stands_with e act ≡ true
    → value_within value_after (ledger_after earlier l) acts l ≡ ledger_after (earlier ++ (record { event = e; acts = acts }) ∷ []) l
    → value_within value_after (ledger_after earlier l) (acts ++ act ∷ []) l ≡ ledger_after (earlier ++ (record { event = e; acts = acts ++ act ∷ [] }) ∷ []) l
still_within earlier (event.Finish seat) acts act l stands was = sym (finish_within earlier (acts ++ act ∷ []) seat l)
still_within earlier (event.Rise seat) acts (Shown place number) l stands was =
    value_within-append value_after (ledger_after earlier l) acts (Shown place number ∷ []) l ∙ was ∙ rise_within earlier acts seat l ∙ sym (rise_within earlier (acts ++ Shown place number ∷ []) seat l)
still_within earlier (event.Rise seat) acts (Edited place edit done) l stands was = absurd (true≢false (sym stands))
still_within earlier (event.Issue seat r) acts act l stands was = absurd (true≢false (sym stands))
still_within earlier (event.Ask seat part) acts act l stands was = absurd (true≢false (sym stands))

-- an act changes nothing of the events
act_stand : (machine : Option Standing) (f : Option Following) (x y : Entry) (p q : Past) → StandBehind machine f (Some x) p → p ≡ q → StandBehind machine f (Some y) q
act_stand None None x y p q h same = absurd (some_none (sym h.0))
act_stand (Some m) (Some g) x y p q h same = (refl, subst (Follows g) same h.1)
act_stand None (Some g) x y p q h same = absurd h
act_stand (Some m) None x y p q h same = absurd h

lock_same : (head : Head) (earlier : List Entry) (x y : Entry) → x.event ≡ y.event → lock_after head (earlier ++ x ∷ []) ≡ lock_after head (earlier ++ y ∷ [])
lock_same head earlier x y same =
    ap (fold next (opening_of head)) (map-append (λ (z : Entry). z.event) earlier (x ∷ []) ∙ ap (λ e. map (λ (z : Entry). z.event) earlier ++ e ∷ []) same ∙ sym (map-append (λ (z : Entry). z.event) earlier (y ∷ [])))

module _ (whole : Bool) (old : ReportReader) (s : SoFar) (h : Knows whole old s) (is : whole ≡ true) (six : s.last ≡ 6) (act : Act Edit) (below : place_of act < length old.ledgers.items) where
  o : IsOpen old s
  o = h.acts is six

  were : entries_in s ≡ s.earlier ++ o.entry ∷ []
  were = ap (λ (l : Option Entry). s.earlier ++ option_to_list l) o.is

  now_is : (ledger : Ledger) → ledger ≡ get_or old.ledgers.items (place_of act) ledger → ledger ≡ ledger_after (entries_in s) (place_of act)
  now_is ledger at =
      let many = h.ledgers.many in
      at ∙ some_is (sym (slice_get-get_or old.ledgers.items (place_of act) ledger below) ∙ h.ledgers.each (place_of act) (omega (arith, many, below)))

  -- the test of the act, by what the reader keeps
  pub right_is : (ledger : Ledger) (right : Bool) → ledger ≡ get_or old.ledgers.items (place_of act) ledger → is_answered ledger act ≡ right
      → is_right_in s s.latest act ≡ (may_do old.shown old.edited act && right)
  right_is ledger right at answered =
      ap (λ (l : Option Entry). is_right_in s l act) o.is
      ∙ (λ i. sym (o.allowed act) i && is_answered ((o.within (place_of act) ∙ sym (now_is ledger at)) i) act)
      ∙ ap (λ b. may_do old.shown old.edited act && b) answered

  pub act_barred : may_do old.shown old.edited act ≡ false → line_code whole s (Does act) ≡ Some WrongShow
  act_barred barred =
      act_judged whole s act false six (
      ap (λ (l : Option Entry). is_right_in s l act) o.is
      ∙ ap (λ b. b && is_answered (value_within value_after (ledger_after s.earlier (place_of act)) o.entry.acts (place_of act)) act) (sym (o.allowed act) ∙ barred))

  pub act_wrong : (ledger : Ledger) (right : Bool) → ledger ≡ get_or old.ledgers.items (place_of act) ledger → is_answered ledger act ≡ right → (may_do old.shown old.edited act && right) ≡ false
      → line_code whole s (Does act) ≡ Some WrongShow
  act_wrong ledger right at answered wrong = act_judged whole s act false six (right_is ledger right at answered ∙ wrong)

  pub act_taken : (ledger : Ledger) (new : ReportReader) → ledger ≡ get_or old.ledgers.items (place_of act) ledger → is_answered ledger act ≡ true → may_do old.shown old.edited act ≡ true
      → record old { ledgers = new.ledgers } ≡ new → new.ledgers.items ≡ set old.ledgers.items (place_of act) (value_after_act value_after ledger act)
      → (line_code whole s (Does act) ≡ None) × Knows whole new (with_line whole s (Does act))
  act_taken ledger new at answered may made are =
      let entry = o.entry in
      let after : Entry = with_act act entry in
      let t : SoFar = record s { last = 6; latest = Some after } in
      let stands : stands_with entry.event act ≡ true = (and_parts (stands_with entry.event act) _ (sym (o.allowed act) ∙ may)).0 in
      let inside : (l : ℕ) → value_within value_after (ledger_after s.earlier l) (entry.acts ++ act ∷ []) l ≡ ledger_after (s.earlier ++ after ∷ []) l =
      λ l. still_within s.earlier entry.event entry.acts act l stands (o.within l ∙ ap (λ (xs : List Entry). ledger_after xs l) were) in
      let step : (l : ℕ) → ledger_after (s.earlier ++ after ∷ []) l ≡ value_within value_after (ledger_after (entries_in s) l) (act ∷ []) l =
      λ l. sym (inside l) ∙ value_within-append value_after (ledger_after s.earlier l) entry.acts (act ∷ []) l ∙ ap (λ (v : Ledger). value_within value_after v (act ∷ []) l) (o.within l) in
      let many = h.ledgers.many in
      let size : length new.ledgers.items ≡ length s.resources = ap length are ∙ length-set old.ledgers.items (place_of act) (value_after_act value_after ledger act) ∙ many in
      let last = h.last in
      let same_events : events_of (entries_in s) ≡ events_of (s.earlier ++ after ∷ []) =
      ap (λ (xs : List Entry). events_of xs) were ∙ events_push s.earlier entry ∙ sym (events_push s.earlier after) in
      let same_past : past_in s ≡ past_in t = λ i. record { groups = read_groups (head_in s); seats = length s.tasks; cap = (head_in s).cap; events = same_events i } in
      let knows : Knows whole (record old { ledgers = new.ledgers }) t = record {
        kind = h.kind;
        last = last ∙ six;
        most = omega arith;
        resources = h.resources;
        tasks = h.tasks;
        cap = h.cap;
        capped = h.capped;
        groups = h.groups ∙ groups_on whole old s h (omega (arith, six)) 6 (omega arith);
        no_groups = λ e. absurd (omega (arith, e));
        some_resource = λ _. h.some_resource (omega (arith, six));
        some_task = λ _. h.some_task (omega (arith, six));
        idle = λ e. absurd (omega (arith, e));
        untold = h.untold;
        lock = h.lock ∙ ap (lock_after (head_in s)) were ∙ lock_same (head_in s) s.earlier entry after refl;
        stand = act_stand old.machine old.following entry after (past_in s) (past_in t) (subst (λ (l : Option Entry). StandBehind old.machine old.following l (past_in s)) o.is h.stand) same_past;
        due = λ _. h.due (omega (arith, six)) ∙ ap (λ (l : Option Entry). due_left whole old.told (due_list (changes_in old.machine) (ended_at (head_in s) s.earlier l))) o.is;
        changes = λ x same. h.changes entry o.is ∙ ap (λ (y : Entry). changes_between (lock_after (head_in s) s.earlier) (next (lock_after (head_in s) s.earlier) y.event)) (some_is same);
        active = h.active;
        ledgers = record {
          many = size;
          each = λ l small. slice_get-get_or new.ledgers.items l opening_ledger (omega (arith, size, small)) ∙ ap Some (ap (λ xs. get_or xs l opening_ledger) are ∙ set_is l ledger small at ∙ sym (step l));
        };
        acts = λ _ _. record { entry = after; is = refl; allowed = o.allowed; within = inside };
        left = λ e. absurd (omega (arith, e));
      } in (
        act_judged whole s act true six (right_is ledger true at answered ∙ ap (λ b. b && true) may),
        subst (λ (l : Option Entry). Knows whole new (record s { last = 6; latest = l })) (sym (ap (option_map (with_act act)) o.is)) (subst (λ (r : ReportReader). Knows whole r t) made knows),
      )
    where
      set_is : (l : ℕ) (ledger : Ledger) → l < length s.resources → ledger ≡ get_or old.ledgers.items (place_of act) ledger
          → get_or (set old.ledgers.items (place_of act) (value_after_act value_after ledger act)) l opening_ledger ≡ value_within value_after (ledger_after (entries_in s) l) (act ∷ []) l
      set_is l ledger small at = by (l == place_of act) refl
        where
          by : (b : Bool) → (l == place_of act) ≡ b
              → get_or (set old.ledgers.items (place_of act) (value_after_act value_after ledger act)) l opening_ledger ≡ value_within value_after (ledger_after (entries_in s) l) (act ∷ []) l
          by true e =
              let same = eqb-true l (place_of act) e in
              ap (λ n. get_or (set old.ledgers.items (place_of act) (value_after_act value_after ledger act)) n opening_ledger) same
              ∙ get_or-set_same old.ledgers.items (place_of act) (value_after_act value_after ledger act) opening_ledger below
              ∙ ap (λ (v : Ledger). value_after_act value_after v act) (now_is ledger at)
              ∙ sym (act_here (ledger_after (entries_in s) (place_of act)) act)
              ∙ ap (λ n. value_within value_after (ledger_after (entries_in s) n) (act ∷ []) n) (sym same)
          by false e =
              let other : l ≢ place_of act = λ same. true≢false (sym (eq-eqb l (place_of act) same) ∙ e) in
              let many = h.ledgers.many in
              get_or-set_other old.ledgers.items (place_of act) l (value_after_act value_after ledger act) opening_ledger other
              ∙ some_is (sym (slice_get-get_or old.ledgers.items l opening_ledger (omega (arith, many, small))) ∙ h.ledgers.each l small)
              ∙ sym (act_elsewhere (ledger_after (entries_in s) l) act l other)
