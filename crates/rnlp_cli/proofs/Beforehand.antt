-- What the tasks need by the history of a run is what they need by the script.
use Rattle.std.proofs.Common.{◌≡◌, ◌<◌, ◌+◌, ◌==◌, ℕ, zero, suc, Bool, true, false, cond, List, [], ◌∷◌, ◌++◌, length, map, Some, refl, sym, ap, subst, ◌∙◌, append_assoc, arith}
use Rattle.std.proofs.lemmas.Bool.{eq-eqb}
use Rattle.std.proofs.lemmas.List.{map-append}
use Rattle.std.specs.Prelude.{slice_get}
use Rattle.std.specs.List.{range_with_len}
use Rattle.rset.specs.Sets.{Set}
use Rattle.rclaim.specs.Events.{seat_of}
use Rattle.rclaim.specs.declared.event.Event.{Event}
use Rattle.rclaim.specs.declared.event.Event.TheVariants.{Issue, Finish, Rise, Ask}
use Rattle.rbound.specs.Needs.{RequestNeeds}
use Rattle.rbound.specs.TaskNeeds.{TaskNeeds, bound_of}
use Rattle.rmodel.specs.Steps.{AreAccepted}
use Rattle.rmodel.proofs.ListFacts.{all_from}
use Rattle.rmodel.proofs.reaching.Histories.{accepted_parts}
use Rattle.rcover_laws.specs.Ended.{ended_by}
use Rattle.rcover_laws.specs.History.{asks_of, requests_of, history_needs, number_from}
use Rattle.rcover_laws.specs.declared.wait_end.WaitEnd.{WaitEnd}
use Rattle.rbound_history.specs.Foreseen.{MayHave}
use Rattle.rbound_history.specs.Keys.{IsLastEnded}
use Rattle.rbound_history.proofs.WaitKeys.{is_found}
use Rattle.rlock.specs.Known.{entries_by}
use Rattle.rscript.specs.declared.statement.Statement.{Statement}
use Rattle.rscript.specs.declared.statement.Statement.TheVariants as statement
use Rattle.rrun.specs.Scripts.{ScriptFields}
use Rattle.rrun.specs.Needs.{asks_in, requests_in, needs_of}
use Rattle.rrun.specs.Runs.{run_of, IsRunOf, deeds_next}
use Rattle.rtrace_form.specs.Reports.{Entry, Report}
use Rattle.rtrace_form.specs.Heads.{read_groups, opening_of}
use Rattle.rtrace_form.specs.Waits.{events_of, ended_in, needs_in, bound_in}
use Rattle.rtrace_form.proofs.written.Reaching.{accepted_from}
use Rattle.rnlp_cli.specs.Headline.{IsHeadline, request_of, IsCountedBeforehand, AreCountedBeforehand}
use Rattle.rnlp_cli.proofs.BoundLines.{row_is}
use Rattle.rnlp_cli.proofs.OpenRequests.{event_told, events_told}

-- ---- the needs of one seat

abbrev maker : Entry → ℕ
maker entry = seat_of entry.event

-- the asks of a seat until its next issue, with one more event before these
abbrev asks_next : ℕ → Event → List Set → List Set
asks_next seat (Issue other r) asks = cond (other == seat) [] asks
asks_next seat (Finish other) asks = asks
asks_next seat (Rise other) asks = asks
asks_next seat (Ask other part) asks = cond (other == seat) (part ∷ asks) asks

asks_before : (seat : ℕ) (e : Event) (es : List Event) → asks_of seat (e ∷ es) ≡ asks_next seat e (asks_of seat es)
asks_before seat (Issue other r) es = refl
asks_before seat (Finish other) es = refl
asks_before seat (Rise other) es = refl
asks_before seat (Ask other part) es = refl

same_asks : (seat : ℕ) (e : Event) (asks : List Set) → (seat_of e == seat) ≡ false → asks_next seat e asks ≡ asks
same_asks seat (Issue other r) asks differs = ap (λ b. cond b [] asks) differs
same_asks seat (Finish other) asks differs = refl
same_asks seat (Rise other) asks differs = refl
same_asks seat (Ask other part) asks differs = ap (λ b. cond b (part ∷ asks) asks) differs

-- its requests, with one more event before these and these asks
abbrev requests_next : ℕ → Event → List Set → List RequestNeeds → List RequestNeeds
requests_next seat (Issue other r) asks ns = cond (other == seat) (record { request = r; asks = asks } ∷ ns) ns
requests_next seat (Finish other) asks ns = ns
requests_next seat (Rise other) asks ns = ns
requests_next seat (Ask other part) asks ns = ns

requests_before : (seat : ℕ) (e : Event) (es : List Event) → requests_of seat (e ∷ es) ≡ requests_next seat e (asks_of seat es) (requests_of seat es)
requests_before seat (Issue other r) es = refl
requests_before seat (Finish other) es = refl
requests_before seat (Rise other) es = refl
requests_before seat (Ask other part) es = refl

same_requests : (seat : ℕ) (e : Event) (asks : List Set) (ns : List RequestNeeds) → (seat_of e == seat) ≡ false → requests_next seat e asks ns ≡ ns
same_requests seat (Issue other r) asks ns differs = ap (λ b. cond b (record { request = r; asks = asks } ∷ ns) ns) differs
same_requests seat (Finish other) asks ns differs = refl
same_requests seat (Rise other) asks ns differs = refl
same_requests seat (Ask other part) asks ns differs = refl

-- a seat's own entries say what it needs
own_asks : (seat : ℕ) (entries : List Entry) → asks_of seat (events_of entries) ≡ asks_of seat (events_of (entries_by maker seat entries))
own_asks seat [] = refl
own_asks seat (entry ∷ entries) =
    asks_before seat entry.event (events_of entries) ∙ ap (asks_next seat entry.event) (own_asks seat entries) ∙ at (maker entry == seat) refl
  where
    at : (b : Bool) → (maker entry == seat) ≡ b
        → asks_next seat entry.event (asks_of seat (events_of (entries_by maker seat entries))) ≡ asks_of seat (events_of (cond b (entry ∷ entries_by maker seat entries) (entries_by maker seat entries)))
    at true is = sym (asks_before seat entry.event (events_of (entries_by maker seat entries)))
    at false is = same_asks seat entry.event (asks_of seat (events_of (entries_by maker seat entries))) is

own_requests : (seat : ℕ) (entries : List Entry) → requests_of seat (events_of entries) ≡ requests_of seat (events_of (entries_by maker seat entries))
own_requests seat [] = refl
own_requests seat (entry ∷ entries) =
    requests_before seat entry.event (events_of entries)
    ∙ (λ i. requests_next seat entry.event (own_asks seat entries i) (own_requests seat entries i))
    ∙ at (maker entry == seat) refl
  where
    at : (b : Bool) → (maker entry == seat) ≡ b
        → requests_next seat entry.event (asks_of seat (events_of (entries_by maker seat entries))) (requests_of seat (events_of (entries_by maker seat entries)))
        ≡ requests_of seat (events_of (cond b (entry ∷ entries_by maker seat entries) (entries_by maker seat entries)))
    at true is = sym (requests_before seat entry.event (events_of (entries_by maker seat entries)))
    at false is = same_requests seat entry.event (asks_of seat (events_of (entries_by maker seat entries))) (requests_of seat (events_of (entries_by maker seat entries))) is

-- ---- the run of statements

run_asks : (n : ℕ) (deeds statements : List Statement) → asks_of n (map event_told (run_of n deeds statements)) ≡ asks_in statements
run_asks n deeds [] = refl
run_asks n deeds (statement.Begin r ∷ statements) = ap (λ b. cond b [] (asks_of n (map event_told (run_of n [] statements)))) (eq-eqb n n refl)
run_asks n deeds (statement.Edit place edit ∷ statements) = run_asks n (deeds_next deeds (statement.Edit place edit)) statements
run_asks n deeds (statement.Show place ∷ statements) = run_asks n (deeds_next deeds (statement.Show place)) statements
run_asks n deeds (statement.Ask part ∷ statements) =
    let asks = asks_of n (map event_told (run_of n deeds statements)) in
    ap (λ b. cond b (part ∷ asks) asks) (eq-eqb n n refl) ∙ ap (λ (parts : List Set). part ∷ parts) (run_asks n deeds statements)
run_asks n deeds (statement.Rise ∷ statements) = run_asks n [] statements
run_asks n deeds (statement.Finish ∷ statements) = run_asks n [] statements

run_requests : (n : ℕ) (deeds statements : List Statement) → requests_of n (map event_told (run_of n deeds statements)) ≡ requests_in statements
run_requests n deeds [] = refl
run_requests n deeds (statement.Begin r ∷ statements) =
    let es = map event_told (run_of n [] statements) in
    ap (λ b. cond b (record { request = r; asks = asks_of n es } ∷ requests_of n es) (requests_of n es)) (eq-eqb n n refl)
    ∙ (λ i. record { request = r; asks = run_asks n [] statements i } ∷ run_requests n [] statements i)
run_requests n deeds (statement.Edit place edit ∷ statements) = run_requests n (deeds_next deeds (statement.Edit place edit)) statements
run_requests n deeds (statement.Show place ∷ statements) = run_requests n (deeds_next deeds (statement.Show place)) statements
run_requests n deeds (statement.Ask part ∷ statements) = run_requests n deeds statements
run_requests n deeds (statement.Rise ∷ statements) = run_requests n [] statements
run_requests n deeds (statement.Finish ∷ statements) = run_requests n [] statements

-- by the run of its statements a seat needs what the statements need
needs_of_run : (seat : ℕ) (statements : List Statement) (entries : List Entry) → IsRunOf seat statements (entries_by maker seat entries)
    → requests_of seat (events_of entries) ≡ requests_in statements
needs_of_run seat statements entries run =
    own_requests seat entries
    ∙ ap (requests_of seat) (events_told (entries_by maker seat entries) ∙ ap (map event_told) run)
    ∙ run_requests seat [] statements

-- ---- the needs of all

-- what holds at each place of a list holds for the whole
each_place : {X Y : Type 0} (f : ℕ → Y) (g : X → Y) (from : ℕ) (xs : List X) → ((i j : ℕ) (x : X) → slice_get xs i ≡ Some x → from + i ≡ j → f j ≡ g x)
    → map f (range_with_len from (length xs)) ≡ map g xs
each_place f g from [] each = refl
each_place f g from (x ∷ xs) each =
    λ i. each zero from x refl (omega arith) i ∷ each_place f g (from + 1) xs (λ k j y is at. each (suc k) j y is (omega (arith, at))) i

-- *what the tasks need by the history of a run is what they need by the script*
pub same_needs : (p : ScriptFields) (r : Report) → length p.steps ≡ length p.tasks → r.head.resources ≡ p.resources → r.head.groups ≡ p.groups → r.head.tasks ≡ p.tasks
    → ((task : ℕ) (statements : List Statement) → slice_get p.steps task ≡ Some statements → IsRunOf task statements (entries_by maker task r.entries))
    → needs_in r.head r.entries ≡ needs_of p
same_needs p r paired resources groups tasks each =
    let es = events_of r.entries in
    let all : map (λ (task : ℕ). requests_of task es) (range_with_len 0 (length r.head.tasks)) ≡ map requests_in p.steps =
    ap (λ (n : ℕ). map (λ (task : ℕ). requests_of task es) (range_with_len 0 n)) (ap (λ (names : List (List ℕ)). length names) tasks ∙ sym paired)
    ∙ each_place (λ (task : ℕ). requests_of task es) requests_in 0 p.steps
    (λ i j statements is at.
    let same : i ≡ j = omega (arith, at) in
    subst (λ (task : ℕ). requests_of task es ≡ requests_in statements) same (needs_of_run i statements r.entries (each i statements is))) in
    λ i. record { groups = record { q = length (resources i); groups = groups i }; tasks = all i }

-- ---- what is printed

module _ (p : ScriptFields) (r : Report) (h : IsHeadline p r) where
  -- the needs of a history may be replaced by those of its script
  may_have : (w : WaitEnd) → MayHave (history_needs (length r.head.tasks) (events_of r.entries)) w.seat (request_of r w) w.which → MayHave (needs_of p).tasks w.seat (request_of r w) w.which
  may_have w may = subst (λ (needs : TaskNeeds). MayHave needs.tasks w.seat (request_of r w) w.which) h.needs may

  same_bound : (w : WaitEnd) → bound_in r.head r.entries w ≡ bound_of (needs_of p) (length p.tasks) w.seat (request_of r w) w.which
  unfolding bound_in
  same_bound w = λ i. bound_of (h.needs i) (h.cap i) w.seat (request_of r w) w.which

  -- *the bound printed beside a wait is counted beforehand*
  pub beforehand : AreCountedBeforehand p r
  unfolding ended_in
  beforehand earlier entry rest is =
      let o = opening_of r.head in
      let es = events_of earlier in
      let all : (es ++ entry.event ∷ []) ++ events_of rest ≡ events_of r.entries =
      append_assoc es (entry.event ∷ []) (events_of rest) ∙ sym (map-append (λ (e : Entry). e.event) earlier (entry ∷ rest)) ∙ ap events_of (sym is) in
      let whole : AreAccepted o ((es ++ entry.event ∷ []) ++ events_of rest) = subst (AreAccepted o) (sym all) (accepted_from r.head [] r.entries h.kept.lawful) in
      let behind : AreAccepted o (es ++ entry.event ∷ []) = (accepted_parts o (es ++ entry.event ∷ []) (events_of rest) whole).0 in
      all_from (IsCountedBeforehand p r) (ended_by o es entry.event)
      (λ (w : WaitEnd) there.
      let ended : IsLastEnded (read_groups r.head) (length r.head.tasks) r.head.cap (es ++ entry.event ∷ []) w =
      record { accepted = behind; before = es; last = entry.event; split = refl; ended = there } in
      let found = is_found (read_groups r.head) (length r.head.tasks) r.head.cap (es ++ entry.event ∷ []) (events_of rest) w whole ended in
      let may = may_have w (subst (λ (ds : List Event). MayHave (history_needs (length r.head.tasks) ds) w.seat (number_from ds w.stamp w.seat) w.which) all found.foreseen) in
      record {
        request = may;
        bound = same_bound w;
        line = row_is (needs_of p) (length p.tasks) p.tasks w.seat (request_of r w) w.which (subst (λ (names : List (List ℕ)). w.seat < length names) h.tasks found.seated) may;
      })
