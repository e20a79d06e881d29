-- Each step of a turn keeps the rule, and what its play says holds after it.
use Rattle.std.proofs.Common.{◌≡◌, ℕ, ◌+◌, ◌-◌, ◌%◌, ◌^◌, ◌<◌, ◌≤◌, Bool, true, false, cond, List, [], ◌∷◌, ◌++◌, length, get_or, set, refl, sym, ap, ◌∙◌, subst, inr, ⊎_elim, arith, Option, Some}
use Rattle.std.proofs.Math.Nat.{mod-add-mod}
use mathlib.Core.Logic.{dite}
use mathlib.Core.List.{append-nil}
use mathlib.Core.Option as maybe
use native.Mathlib.Decide.{ℕ_discrete, dec_le}
use lib.ListN.{get_elem?}
use lib.Seq.{set-get_or}
use Rattle.std.specs.Prelude.{All, map, unwrap_or}
use Rattle.std.proofs.lemmas.List.Elements.{All-nil, All-cons, All-head}
use Rattle.std.proofs.lemmas.Bool.{true≢false}
use Rattle.atomic_table.specs.Table.{State, Me, step, keeps, takes, gives, stepped, rest, put_back, Allows}
use Rattle.atomic_table.proofs.Lists.{set_again, one_turn}
use Rattle.rlock.specs.declared.view.View.{View}
use Rattle.rlock.specs.declared.view.Member.{Member}
use Rattle.rlock.specs.declared.view.Mode.{Mode}
use Rattle.rlock.specs.declared.view.Mode.TheVariants.{Idle, Waiting, Served, Putting}
use Rattle.rlock.specs.Known.{entries_by, Appends, KeepsOthers, new_entries}
use Rattle.rlock.specs.Views.{times, ticket_of, has_turn, state_out, numbers_of, drawers}
use Rattle.rlock.specs.Rule.{Tickets, HasServedTicket, IsHome, IsAway, Home, GateHolds}
use Rattle.rlock.specs.Steps.{drawing, serving, with_more, putting, resting, Holds, drew, looked, noted, returned}
use Rattle.rlock.proofs.Counting.{at_most_sum, some_counts, no_more_tickets, times_here}
use Rattle.rlock.proofs.Entries.{own_grow, Appends-prefix}
use Rattle.rlock.proofs.Parts.{each_set, numbers_kept, tickets_kept, tickets_drawn, tickets_served, no_shared_ticket, turn_given_up, prefixes_kept, prefixes_grown, own_kept, own_grown, lasts_kept, lasts_changed, home_kept, home_taken, is_away, home_told, home_returned}

module _ {S : Type 0} where
  abbrev pub ticket_in : Mode S → ℕ
  ticket_in Idle = 0
  ticket_in (Waiting t) = t
  ticket_in (Served t found) = t
  ticket_in (Putting t state) = t

module _ {S O E : Type 0} where
  -- what a pass has made and left changes none of the numbers
  with_more_numbers : (more : List E) (state : S) (ms : List (Member S O E)) → map (λ (m : Member S O E). m.number) (with_more more state ms) ≡ map (λ (m : Member S O E). m.number) ms
  with_more_numbers more state [] = refl
  with_more_numbers more state (m ∷ ms) = refl

module _ {S O E : Type 0} (opening : S → O) (entries : S → List E) (number : E → ℕ) (stays : ℕ → S → S → Type 0) (passes : ℕ) (o : O) where
  abbrev V : Type 0
  V = View S O E

  abbrev St : Type 0
  St = State (Option S) V

  abbrev M : Type 0
  M = Me (Option S) V

  abbrev Rule : St → Type 0
  Rule = GateHolds opening entries number stays passes o

  -- nothing changes
  unmoved : (s : St) (r : Rule s) (i id : ℕ) (v : V) → get_elem? s.views id ≡ maybe.some v → Rule record { words = set s.words i (get_or s.words i 0); homes = s.homes; views = set s.views id v }
  unmoved s r i id v at = subst (λ (ws : List ℕ). Rule record { words = ws; homes = s.homes; views = set s.views id v }) (sym (set-get_or s.words i 0))
      (subst (λ (vs : List V). Rule record { words = s.words; homes = s.homes; views = vs }) (sym (set_again s.views id v at)) r)

  pub draws : (slots id : ℕ) (me : M) (m : Member S O E) → me.0.mode ≡ Idle → me.0.members ≡ m ∷ [] → Allows Rule slots id me 0 (λ n. (n + 1) % 2 ^ 64) (drew (step slots 0 1 0 maybe.none) me)
  draws slots id me m idle alone s r deep at small = let v : V = me.0 in let w : V = drawing r.drawn v in let counted = r.tickets.counted in (
    w,
    keeps,
    tt,
    record {
      log = r.log;
      state = r.state;
      served = r.served;
      drawn = r.drawn + 1;
      numbers = numbers_kept passes s.views id v w at (λ n. refl) r.numbers;
      tickets = tickets_drawn r.served r.drawn s.words (set s.words 0 ((get_or s.words 0 0 + 1) % 2 ^ 64)) s.views id v w at (ap ticket_of idle) refl (omega (arith, ap length alone))
          (ap (λ (ws : List ℕ). set ws 0 ((get_or ws 0 0 + 1) % 2 ^ 64)) counted ∙ ap (λ (d : ℕ). d ∷ r.served % 2 ^ 64 ∷ []) (mod-add-mod r.drawn (2 ^ 64) 1)) r.tickets;
      turn = each_set (HasServedTicket r.served) s.views id w (λ turn. absurd (true≢false (sym turn))) (λ j u _. r.turn j u);
      prefixes = prefixes_kept r.log s.views id v w at (r.prefixes.seen id v at) (λ e. e) (r.prefixes.olds id v at) r.prefixes;
      own_entries = own_kept number passes r.log s.views id w (r.own_entries.made id v at) r.own_entries;
      lasts = lasts_kept stays r.state s.views id w (r.lasts id v at) r.lasts;
      home = home_kept opening entries o r.log r.state s.homes s.views id v w at (inr (ap has_turn idle, refl)) (λ turn. absurd (true≢false (sym turn))) (r.home.openings id v at) r.home;
    },
    (r.drawn, sym (ap (λ (ws : List ℕ). get_or ws 0 0) counted), refl),
  )

  -- no more tickets are out than there are passes, so the word determines which is served
  is_served : (s : St) (r : Rule s) (id t : ℕ) (v : V) → get_elem? s.views id ≡ maybe.some v → ticket_of v.mode ≡ t ∷ [] → r.served % 2 ^ 64 ≡ t % 2 ^ 64 → r.served ≡ t
  is_served s r id t v at ticket word = one_turn r.served t (2 ^ 64) low (omega (arith, r.numbers.few, r.tickets.ordered, crowd, high)) word
    where
      has : 1 ≤ drawers t s.views
      has = omega (arith, at_most_sum (λ (u : V). times t (ticket_of u.mode)) s.views id v at, ap (times t) ticket, times_here t [])

      low : r.served ≤ t
      low = dite (dec_le r.served t) (λ h. h) (λ h. absurd (omega (arith, has, r.tickets.spent t (omega arith))))

      high : t < r.drawn
      high = dite (dec_le r.drawn t) (λ h. absurd (omega (arith, has, r.tickets.later t h))) (λ h. omega arith)

      room : r.drawn ≤ r.served + (r.drawn - r.served)
      room = omega arith

      crowd : r.drawn - r.served ≤ passes
      crowd = no_more_tickets (λ (u : V). ticket_of u.mode) numbers_of r.served (r.drawn - r.served) passes s.views
          (λ j u there. omega (arith, r.tickets.of_passes j u there, length_numbers u))
          (λ k from to. r.tickets.out k from (omega (arith, r.tickets.ordered))) r.numbers.once r.numbers.no_other
        where
          length_numbers : (u : V) → length u.members ≤ length (numbers_of u)
          length_numbers u = omega (arith, lib.ListN.length-map u.members (λ (m : Member S O E). m.number))

  -- while a pass waits with the served ticket, the state is at home
  at_home : (s : St) (r : Rule s) (id : ℕ) (v : V) → get_elem? s.views id ≡ maybe.some v → ticket_of v.mode ≡ r.served ∷ [] → has_turn v.mode ≡ false → IsHome opening entries o r.log r.state s.homes s.views
  at_home s r id v at ticket none = ⊎_elim (λ (h : IsHome opening entries o r.log r.state s.homes s.views). h)
      (λ (a : IsAway r.log r.state s.homes s.views). let found = some_counts (λ (u : V). cond (has_turn u.mode) 1 0) s.views (omega (arith, a.one)) in
      let turn = counts_true (has_turn found.1.mode) found.3 in
      absurd (no_shared_ticket r.served r.drawn s.words s.views id found.0 r.served v found.1 r.tickets at found.2
      (λ e. true≢false (sym turn ∙ (ap (λ (u : V). has_turn u.mode) (maybe.some-injective found.1 v (sym found.2 ∙ (ap (get_elem? s.views) e ∙ at))) ∙ none)))
      ticket (r.turn found.0 found.1 found.2 turn)))
      r.home.place
    where
      counts_true : (b : Bool) → 0 < cond b 1 0 → b ≡ true
      counts_true true h = refl
      counts_true false h = absurd (omega arith)

  knows : (s : St) (r : Rule s) (id : ℕ) (v : V) → get_elem? s.views id ≡ maybe.some v → Holds number stays v o r.log r.state
  knows s r id v at = record { openings = r.home.openings id v at; seen = r.prefixes.seen id v at; olds = r.prefixes.olds id v at; made = r.own_entries.made id v at; lasts = r.lasts id v at }

  -- the ticket is served: the slot is taken
  looks_hit : (slots id : ℕ) (me : M) (t : ℕ) → me.0.mode ≡ Waiting t → (s : St) (r : Rule s) → get_elem? s.views id ≡ maybe.some me.0 → get_or s.words 1 0 ≡ t % 2 ^ 64
      → (w : V) × (a : _) × Rattle.atomic_table.specs.Table.Valid s.homes me.1 a × Rule (stepped s 1 (get_or s.words 1 0) id me.1 w a)
      × looked opening entries number stays (step slots 1 0 0 maybe.none) me (get_or s.words 1 0) (w, Rattle.atomic_table.specs.Table.carried_after me.1 a)
  looks_hit slots id me t waits s r at word = let v : V = me.0 in let ticket : ticket_of v.mode ≡ t ∷ [] = ap ticket_of waits in let idle : has_turn v.mode ≡ false = ap has_turn waits in
      let is : r.served ≡ t = is_served s r id t v at ticket (sym (ap (λ (ws : List ℕ). get_or ws 1 0) r.tickets.counted) ∙ word) in
      let home = at_home s r id v at (ticket ∙ ap (λ (k : ℕ). k ∷ []) (sym is)) idle in let w : V = serving t r.state (entries r.state) v in let views' : List V = set s.views id w in (
        w,
        takes 0 (Some r.state),
        ap (λ (hs : List (maybe.Option (Option S))). get_elem? hs 0) home.there,
        record {
          log = r.log;
          state = r.state;
          served = r.served;
          drawn = r.drawn;
          numbers = numbers_kept passes s.views id v w at (λ n. refl) r.numbers;
          tickets = subst (λ (ws : List ℕ). Tickets r.served r.drawn ws views') (sym (set-get_or s.words 1 0))
              (tickets_kept r.served r.drawn s.words s.views id v w at (sym ticket) (omega (arith, r.tickets.of_passes id v at, ap length ticket)) r.tickets);
          turn = each_set (HasServedTicket r.served) s.views id w (λ _. ap (λ (k : ℕ). k ∷ []) (sym is)) (λ j u _. r.turn j u);
          prefixes = prefixes_kept r.log s.views id v w at ([], append-nil (entries r.state) ∙ home.its_entries) (λ _. home.its_entries) (r.prefixes.olds id v at) r.prefixes;
          own_entries = own_kept number passes r.log s.views id w (r.own_entries.made id v at) r.own_entries;
          lasts = lasts_kept stays r.state s.views id w (r.lasts id v at) r.lasts;
          home = subst (λ (hs : List (maybe.Option (Option S))). Home opening entries o r.log r.state hs views') (sym (ap (λ (hs : List (maybe.Option (Option S))). set hs 0 maybe.none) home.there))
              (home_taken opening entries o r.log r.state s.homes s.views id v w at idle refl home.its_entries refl (r.home.openings id v at) r.home.openings home);
        },
        λ t' waits'. let same : t ≡ t' = ap ticket_in (sym waits ∙ waits') in (
          λ _. (r.state, (λ i. (serving (same i) r.state (entries r.state) v, (0, Some r.state) ∷ me.1)), subst (λ (z : O × List E). Holds number stays v z.0 z.1 r.state) (λ i. (sym home.its_opening i, sym home.its_entries i)) (knows s r id v at)),
          λ miss. absurd (miss (word ∙ ap (λ (k : ℕ). k % 2 ^ 64) same)),
        ),
      )

  pub looks : (slots id : ℕ) (me : M) (t : ℕ) → me.0.mode ≡ Waiting t → Allows Rule slots id me 1 (λ n. n) (looked opening entries number stays (step slots 1 0 0 maybe.none) me)
  looks slots id me t waits s r deep at small = dite (ℕ_discrete (get_or s.words 1 0) (t % 2 ^ 64)) (looks_hit slots id me t waits s r at)
      (λ other. (
        me.0,
        keeps,
        tt,
        unmoved s r 1 id me.0 at,
        λ t' waits'. let same : t ≡ t' = ap ticket_in (sym waits ∙ waits') in ((λ hit. absurd (other (hit ∙ ap (λ (k : ℕ). k % 2 ^ 64) (sym same)))), λ _. refl),
      ))

  pub notes : (stays_refl : (n : ℕ) (state : S) → stays n state state) (stays_trans : (n : ℕ) (a b c : S) → stays n a b → stays n b c → stays n a c) (slots id : ℕ) (me : M) (t : ℕ) (before : S) (m : Member S O E) (now : S) (told : Option S)
      → me.0.mode ≡ Served t before → me.0.members ≡ m ∷ [] → told ≡ Some now → Appends number m.number me.0.seen (entries now) → KeepsOthers stays m.number before now
      → Allows Rule slots id me 1 (λ n. (n + 0) % 2 ^ 64) (noted entries told (step slots 1 0 0 maybe.none) me)
  notes stays_refl stays_trans slots id me t before m now told serves alone tells more keep s r deep at small = let v : V = me.0 in let list = entries now in let w : V = putting t now list v in let turn : has_turn v.mode ≡ true = ap has_turn serves in
      let away = is_away opening entries o r.log r.state s.homes s.views id v at turn r.home in let (seen, out) = away.its_seen id v at turn in
      let more' : Appends number m.number r.log list = subst (λ (l : List E). Appends number m.number l list) seen more in
      let keep' : KeepsOthers stays m.number r.state now = subst (λ (z : S). KeepsOthers stays m.number z now) (ap (λ (x : Option S). unwrap_or x r.state) (sym (ap state_out serves) ∙ out)) keep in
      let added : List E = new_entries v.seen list in let ticket : ticket_of v.mode ≡ t ∷ [] = ap ticket_of serves in
      let changed : Member S O E = record m { mine = m.mine ++ added; last = now } in
      let is_now : w.members ≡ changed ∷ [] = ap (with_more added now) alone in
      let Made : Member S O E → Type 0 = λ k. entries_by number k.number list ≡ k.mine in let Opened : Member S O E → Type 0 = λ k. k.opening ≡ o in let Stayed : Member S O E → Type 0 = λ k. stays k.number k.last now in
      let was_made : entries_by number m.number r.log ≡ m.mine = All-head (λ (k : Member S O E). entries_by number k.number r.log ≡ k.mine) m [] (subst (All (λ (k : Member S O E). entries_by number k.number r.log ≡ k.mine)) alone (r.own_entries.made id v at)) in
      let was_opened : m.opening ≡ o = All-head Opened m [] (subst (All Opened) alone (r.home.openings id v at)) in
      let made : entries_by number m.number list ≡ m.mine ++ added = own_grow number m.number r.log list more' ∙ (λ i. was_made i ++ new_entries (sym seen i) list) in (
        w,
        keeps,
        tt,
        record {
          log = list;
          state = now;
          served = r.served;
          drawn = r.drawn;
          numbers = numbers_kept passes s.views id v w at (λ n. ap (times n) (with_more_numbers added now v.members)) r.numbers;
          tickets = subst (λ (ws : List ℕ). Tickets r.served r.drawn ws (set s.views id w)) (sym (same_words s r))
              (tickets_kept r.served r.drawn s.words s.views id v w at (sym ticket) (omega (arith, ap length is_now)) r.tickets);
          turn = each_set (HasServedTicket r.served) s.views id w (λ _. sym ticket ∙ r.turn id v at turn) (λ j u _. r.turn j u);
          prefixes = prefixes_grown r.log list s.views id v w at (Appends-prefix number m.number r.log list more') refl refl r.prefixes;
          own_entries = own_grown number passes r.log list s.views id m.number v w r.numbers at (has_number v.members alone) more'
              (subst (All Made) (sym is_now) (All-cons Made changed [] made (All-nil Made))) r.own_entries;
          lasts = lasts_changed stays stays_trans passes r.state now s.views id m.number v w r.numbers at (has_number v.members alone) keep'
              (subst (All Stayed) (sym is_now) (All-cons Stayed changed [] (stays_refl m.number now) (All-nil Stayed))) r.lasts;
          home = home_told opening entries o r.log list r.state now s.homes s.views id v w at turn refl refl refl
              (subst (All Opened) (sym is_now) (All-cons Opened changed [] was_opened (All-nil Opened))) r.home;
        },
        λ t' before' now' serves' tells'. let same : t ≡ t' = ap ticket_in (sym serves ∙ serves') in let same_state : now ≡ now' = ap (λ (x : Option S). unwrap_or x now) (sym tells ∙ tells') in
            λ i. (putting (same i) (same_state i) (entries (same_state i)) v, me.1),
      )
    where
      same_words : (s : St) (r : Rule s) → set s.words 1 ((get_or s.words 1 0 + 0) % 2 ^ 64) ≡ s.words
      same_words s r = ap (λ (ws : List ℕ). set ws 1 ((get_or ws 1 0 + 0) % 2 ^ 64)) r.tickets.counted
          ∙ (ap (λ (k : ℕ). r.drawn % 2 ^ 64 ∷ k ∷ []) (mod-add-mod r.served (2 ^ 64) 0 ∙ ap (λ (k : ℕ). k % 2 ^ 64) (omega arith)) ∙ sym r.tickets.counted)

      has_number : (ms : List (Member S O E)) → ms ≡ m ∷ [] → 0 < times m.number (map (λ (k : Member S O E). k.number) ms)
      has_number ms e = omega (arith, ap (λ (l : List (Member S O E)). times m.number (map (λ (k : Member S O E). k.number) l)) e, times_here m.number [])

  pub returns : (slots id : ℕ) (me : M) (t : ℕ) (m : Member S O E) (state : S) → me.0.mode ≡ Putting t state → me.0.members ≡ m ∷ [] → me.1 ≡ (0, Some state) ∷ [] → opening state ≡ m.opening → entries state ≡ me.0.seen
      → Allows Rule slots id me 1 (λ n. (n + 1) % 2 ^ 64) (returned (step slots 1 1 0 maybe.none) me)
  returns slots id me t m state puts alone holds its_opening its_entries s r deep at small = let v : V = me.0 in let w : V = resting v in let turn : has_turn v.mode ≡ true = ap has_turn puts in
      let away = is_away opening entries o r.log r.state s.homes s.views id v at turn r.home in let (seen, out) = away.its_seen id v at turn in
      let is : state ≡ r.state = ap (λ (x : Option S). unwrap_or x r.state) (sym (ap state_out puts) ∙ out) in
      let was_opened : m.opening ≡ o = All-head (λ (k : Member S O E). k.opening ≡ o) m [] (subst (All (λ (k : Member S O E). k.opening ≡ o)) alone (r.home.openings id v at)) in (
        w,
        gives,
        tt,
        record {
          log = r.log;
          state = r.state;
          served = r.served + 1;
          drawn = r.drawn;
          numbers = numbers_kept passes s.views id v w at (λ n. refl) r.numbers;
          tickets = tickets_served r.served r.drawn s.words (set s.words 1 ((get_or s.words 1 0 + 1) % 2 ^ 64)) s.views id v w at (r.turn id v at turn) refl
              (ap (λ (ws : List ℕ). set ws 1 ((get_or ws 1 0 + 1) % 2 ^ 64)) r.tickets.counted ∙ ap (λ (k : ℕ). r.drawn % 2 ^ 64 ∷ k ∷ []) (mod-add-mod r.served (2 ^ 64) 1)) r.tickets;
          turn = turn_given_up (r.served + 1) s.views id v w at away.one turn refl;
          prefixes = prefixes_kept r.log s.views id v w at (r.prefixes.seen id v at) (λ e. e) (r.prefixes.olds id v at) r.prefixes;
          own_entries = own_kept number passes r.log s.views id w (r.own_entries.made id v at) r.own_entries;
          lasts = lasts_kept stays r.state s.views id w (r.lasts id v at) r.lasts;
          home = home_returned opening entries o r.log r.state s.homes (put_back s.homes me.1) s.views id v w at turn refl
              (ap (put_back s.homes) holds ∙ (ap (λ (hs : List (maybe.Option (Option S))). set hs 0 (maybe.some (Some state))) away.gone ∙ ap (λ (z : S). maybe.some (Some z) ∷ []) is))
              (ap opening (sym is) ∙ (its_opening ∙ was_opened)) (ap entries (sym is) ∙ (its_entries ∙ seen)) (r.home.openings id v at) r.home;
        },
        refl,
      )
