-- Giving out a number and taking in a pass keep the rule; so does the first state. What the rule says once one pass has taken in all others.
use Rattle.std.proofs.Common.{◌≡◌, ℕ, zero, suc, ◌+◌, ◌-◌, ◌<◌, ◌≤◌, Bool, true, false, cond, List, [], ◌∷◌, length, set, refl, sym, ap, ◌∙◌, subst, inl, inr, ⊎_elim, arith, Option, Some, ltb, length-append}
use mathlib.Core.Logic.{dite}
use mathlib.Core.List.{IsPrefix, map-append}
use mathlib.Core.Option as maybe
use native.Mathlib.Decide.{ℕ_discrete, dec_le}
use lib.ListN.{get_elem?}
use Rattle.std.specs.Prelude.{All, IsSome, map, unwrap_or}
use Rattle.std.proofs.lemmas.List.Elements.{All-nil, All-cons, All-head, All-tail, All-append}
use Rattle.std.proofs.lemmas.Bool.{true≢false, cond_both, ltb-true, ltb-false}
use Rattle.atomic_table.specs.Table.{State, Splits, Joins, opening as first_state, Final, Seen}
use Rattle.atomic_table.proofs.Lists.{set_here, set_else}
use Rattle.rlock.specs.declared.view.View.{View}
use Rattle.rlock.specs.declared.view.Member.{Member}
use Rattle.rlock.specs.declared.view.Mode.{Mode}
use Rattle.rlock.specs.declared.view.Mode.TheVariants.{Idle}
use Rattle.rlock.specs.Known.{entries_by, numbers_from}
use Rattle.rlock.specs.Views.{times, ticket_of, has_turn, numbers_of, fresh, first_view}
use Rattle.rlock.specs.Rule.{Each, HasServedTicket, IsHome, IsAway, GateHolds}
use Rattle.rlock.specs.Steps.{giving, given, without_second, second_of, joined, spent, Holds}
use Rattle.rlock.proofs.Counting.{at_most_sum, some_counts, times-append, times-cons, times_here, times_else}
use Rattle.rlock.proofs.Entries.{IsPrefix-length, IsPrefix-whole}
use Rattle.rlock.proofs.Parts.{each_set, each_push, is_there, numbers_split, numbers_joined, no_shared_number, tickets_kept, tickets_new, prefixes_kept, prefixes_spent, prefixes_new, own_kept, own_new, lasts_kept, lasts_new, home_kept, home_new}

module _ {S O E : Type 0} (o : O) (state : S) where
  -- what holds of a pass that has had no turn, whatever its number, holds of such passes
  all_fresh : (P : Member S O E → Type 0) → ((n : ℕ) → P (fresh o state n)) → (ns : List ℕ) → All P (map (fresh o state) ns)
  all_fresh P each [] = All-nil P
  all_fresh P each (n ∷ ns) = All-cons P (fresh o state n) (map (fresh o state) ns) (each n) (all_fresh P each ns)

numbers_again : {S O : Type 0} (E : Type 0) (o : O) (state : S) (ns : List ℕ) → map (λ (m : Member S O E). m.number) (map (fresh {E = E} o state) ns) ≡ ns
numbers_again E o state [] = refl
numbers_again E o state (n ∷ ns) = ap (λ (l : List ℕ). n ∷ l) (numbers_again E o state ns)

module _ {S O E : Type 0} (opening : S → O) (entries : S → List E) (number : E → ℕ) (stays : ℕ → S → S → Type 0) (passes : ℕ) (o : O) where
  abbrev V : Type 0
  V = View S O E

  abbrev Rule : State (Option S) V → Type 0
  Rule = GateHolds opening entries number stays passes o

  -- an idle pass gives out its least number besides its own
  pub gives_out : (id : ℕ) (v : V) (m n : Member S O E) (ms : List (Member S O E)) → v.mode ≡ Idle → v.members ≡ m ∷ n ∷ ms → Splits Rule id v (giving v) (given v)
  gives_out id v m n ms idle has s r at = let w : V = giving v in let new : V = given v in let vs : List V = set s.views id w in
      let Made : Member S O E → Type 0 = λ k. entries_by number k.number r.log ≡ k.mine in let Opened : Member S O E → Type 0 = λ k. k.opening ≡ o in let Stayed : Member S O E → Type 0 = λ k. stays k.number k.last r.state in record {
        log = r.log;
        state = r.state;
        served = r.served;
        drawn = r.drawn;
        numbers = numbers_split passes s.views id v w new at (λ k. omega (
          arith,
          ap (λ (l : List (Member S O E)). times k (map (λ (x : Member S O E). x.number) l)) has,
          ap (λ (l : List (Member S O E)). times k (map (λ (x : Member S O E). x.number) l)) left,
          ap (λ (l : List (Member S O E)). times k (map (λ (x : Member S O E). x.number) l)) taken,
          times-cons k m.number (n.number ∷ map (λ (x : Member S O E). x.number) ms),
          times-cons k m.number (map (λ (x : Member S O E). x.number) ms),
          times-cons k n.number (map (λ (x : Member S O E). x.number) ms),
          times-cons k n.number [],
        )) r.numbers;
        tickets = tickets_new r.served r.drawn s.words vs new refl
            (tickets_kept r.served r.drawn s.words s.views id v w at refl (omega (arith, ap (λ (mode : Mode S). length (ticket_of mode)) idle)) r.tickets);
        turn = each_push (HasServedTicket r.served) vs new (each_set (HasServedTicket r.served) s.views id w (r.turn id v at) (λ j u _. r.turn j u)) (λ turn. absurd (true≢false (sym turn)));
        prefixes = prefixes_new r.log vs new (r.prefixes.seen id v at) refl (prefixes_kept r.log s.views id v w at (r.prefixes.seen id v at) (λ e. e) (r.prefixes.olds id v at) r.prefixes);
        own_entries = own_new number passes r.log vs new (second Made (r.own_entries.made id v at)) (own_kept number passes r.log s.views id w (first Made (r.own_entries.made id v at)) r.own_entries);
        lasts = lasts_new stays r.state vs new (second Stayed (r.lasts id v at)) (lasts_kept stays r.state s.views id w (first Stayed (r.lasts id v at)) r.lasts);
        home = home_new opening entries o r.log r.state s.homes vs new refl (second Opened (r.home.openings id v at))
            (home_kept opening entries o r.log r.state s.homes s.views id v w at (inl refl) (λ _. refl) (first Opened (r.home.openings id v at)) r.home);
      }
    where
      left : (giving v).members ≡ m ∷ ms
      left = ap without_second has

      taken : (given v).members ≡ n ∷ []
      taken = ap second_of has

      first : (P : Member S O E → Type 0) → All P v.members → All P (giving v).members
      first P all = let these = subst (All P) has all in subst (All P) (sym left) (All-cons P m ms (All-head P m (n ∷ ms) these) (All-tail P n ms (All-tail P m (n ∷ ms) these)))

      second : (P : Member S O E → Type 0) → All P v.members → All P (given v).members
      second P all = subst (All P) (sym taken) (All-cons P n [] (All-head P n ms (All-tail P m (n ∷ ms) (subst (All P) has all))) (All-nil P))

  -- the longer of two beginnings of a list is a beginning, and the whole list if one of them is
  longer_begins : (log xs ys : List E) → IsPrefix xs log → IsPrefix ys log → IsPrefix (cond (ltb (length xs) (length ys)) ys xs) log
  longer_begins log xs ys p q = cond_both (ltb (length xs) (length ys)) ys xs (λ (l : List E). IsPrefix l log) (λ _. q) (λ _. p)

  longer_left : (log xs ys : List E) → IsPrefix ys log → xs ≡ log → cond (ltb (length xs) (length ys)) ys xs ≡ log
  longer_left log xs ys q e = cond_both (ltb (length xs) (length ys)) ys xs (λ (l : List E). l ≡ log) (λ is. absurd (omega (arith, ltb-true (length xs) (length ys) is, IsPrefix-length ys log q, ap length e))) (λ _. e)

  longer_right : (log xs ys : List E) → IsPrefix xs log → ys ≡ log → cond (ltb (length xs) (length ys)) ys xs ≡ log
  longer_right log xs ys p e = cond_both (ltb (length xs) (length ys)) ys xs (λ (l : List E). l ≡ log) (λ _. e) (λ is. IsPrefix-whole xs log p (omega (arith, ltb-false (length xs) (length ys) is, ap length e)))

  -- an idle pass takes in another
  pub takes_in : (id : ℕ) (v : V) (other : ℕ) (w : V) → v.mode ≡ Idle → w.mode ≡ Idle → Joins Rule id v other w (joined v w) spent
  takes_in id v other w idle_v idle_w s r at apart there = let u : V = joined v w in let none : V = spent in let vs : List V = set s.views id u in
      let w_at : get_elem? s.views other ≡ maybe.some w = sym (set_else s.views id other u apart) ∙ there in let u_at : get_elem? vs id ≡ maybe.some u = set_here s.views id u (is_there s.views id v at) in
      let Made : Member S O E → Type 0 = λ k. entries_by number k.number r.log ≡ k.mine in let Opened : Member S O E → Type 0 = λ k. k.opening ≡ o in let Stayed : Member S O E → Type 0 = λ k. stays k.number k.last r.state in
      let Begins : List E → Type 0 = λ old. IsPrefix old r.log in let numbers = λ (ms : List (Member S O E)). map (λ (m : Member S O E). m.number) ms in record {
        log = r.log;
        state = r.state;
        served = r.served;
        drawn = r.drawn;
        numbers = numbers_joined passes s.views id other v w u none at there (λ n. omega (
          arith,
          ap (times n) (map-append (λ (m : Member S O E). m.number) v.members w.members),
          times-append n (numbers v.members) (numbers w.members),
        )) r.numbers;
        tickets = tickets_kept r.served r.drawn s.words vs other w none there (sym (ap ticket_of idle_w)) (omega arith)
            (tickets_kept r.served r.drawn s.words s.views id v u at refl (omega (arith, r.tickets.of_passes id v at, length-append v.members w.members)) r.tickets);
        turn = each_set (HasServedTicket r.served) vs other none (λ turn. absurd (true≢false (sym turn))) (λ j x _. each_set (HasServedTicket r.served) s.views id u (r.turn id v at) (λ k y _. r.turn k y) j x);
        prefixes = prefixes_spent r.log vs id other u w none u_at there (λ e. apart (sym e)) (longer_right r.log v.seen w.seen (r.prefixes.seen id v at)) refl refl
            (prefixes_kept r.log s.views id v u at (longer_begins r.log v.seen w.seen (r.prefixes.seen id v at) (r.prefixes.seen other w w_at)) (longer_left r.log v.seen w.seen (r.prefixes.seen other w w_at))
            (All-append Begins v.olds (v.seen ∷ w.seen ∷ w.olds) (r.prefixes.olds id v at)
            (All-cons Begins v.seen (w.seen ∷ w.olds) (r.prefixes.seen id v at) (All-cons Begins w.seen w.olds (r.prefixes.seen other w w_at) (r.prefixes.olds other w w_at)))) r.prefixes);
        own_entries = own_kept number passes r.log vs other none (All-nil Made)
            (own_kept number passes r.log s.views id u (All-append Made v.members w.members (r.own_entries.made id v at) (r.own_entries.made other w w_at)) r.own_entries);
        lasts = lasts_kept stays r.state vs other none (All-nil Stayed)
            (lasts_kept stays r.state s.views id u (All-append Stayed v.members w.members (r.lasts id v at) (r.lasts other w w_at)) r.lasts);
        home = home_kept opening entries o r.log r.state s.homes vs other w none there (inr (ap has_turn idle_w, refl)) (λ turn. absurd (true≢false (sym turn))) (All-nil Opened)
            (home_kept opening entries o r.log r.state s.homes s.views id v u at (inl refl) (λ turn. absurd (true≢false (sym turn ∙ ap has_turn idle_v)))
            (All-append Opened v.members w.members (r.home.openings id v at) (r.home.openings other w w_at)) r.home);
      }

  -- the first state: one pass has all numbers
  pub starts : (stays_refl : (n : ℕ) (state : S) → stays n state state) (state : S) → 0 < passes → passes < 256 → opening state ≡ o → entries state ≡ [] → Rule (first_state (0 ∷ 0 ∷ []) (Some state ∷ []) (first_view passes o state))
  starts stays_refl state some few its_opening none = let v : V = first_view passes o state in let all = all_fresh o state in record {
    log = [];
    state = state;
    served = 0;
    drawn = 0;
    numbers = record {
      few = few;
      once = λ n low. dite (ℕ_discrete n 0)
          (λ e. omega (arith, same n, ap (λ (k : ℕ). times k (0 ∷ numbers_from 1 (passes - 1))) e, times_here 0 (numbers_from 1 (passes - 1)), numbers_before 1 (passes - 1) 0 (omega arith)))
          (λ other. omega (arith, same n, times_else n 0 (numbers_from 1 (passes - 1)) (λ e. other (sym e)), numbers_within 1 (passes - 1) n (omega arith) (omega arith)));
      no_other = λ n high. omega (arith, same n, times_else n 0 (numbers_from 1 (passes - 1)) (λ e. omega arith), numbers_behind 1 (passes - 1) n (omega arith));
    };
    tickets = record { ordered = omega arith; counted = refl; out = λ t low high. absurd (omega arith); spent = λ t low. refl; later = λ t high. refl; of_passes = only (λ u. length (ticket_of u.mode) ≤ length u.members) v (omega arith) };
    turn = only (HasServedTicket 0) v (λ turn. absurd (true≢false (sym turn)));
    prefixes = record { seen = only (λ u. IsPrefix u.seen []) v ([], refl); longest = (0, v, refl, refl); olds = only (λ u. All (λ old. IsPrefix old []) u.olds) v (All-nil (λ old. IsPrefix old [])) };
    own_entries = record {
      made = only (λ u. All (λ (m : Member S O E). entries_by number m.number [] ≡ m.mine) u.members) v
          (all (λ m. entries_by number m.number [] ≡ m.mine) (λ n. refl) (0 ∷ numbers_from 1 (passes - 1)));
      known = All-nil (λ e. number e < passes);
    };
    lasts = only (λ u. All (λ (m : Member S O E). stays m.number m.last state) u.members) v (all (λ m. stays m.number m.last state) (λ n. stays_refl n state) (0 ∷ numbers_from 1 (passes - 1)));
    home = record {
      openings = only (λ u. All (λ (m : Member S O E). m.opening ≡ o) u.members) v (all (λ m. m.opening ≡ o) (λ n. refl) (0 ∷ numbers_from 1 (passes - 1)));
      place = inl (record { there = refl; its_opening = its_opening; its_entries = none; nobody = refl });
    };
  }
    where
      same : (n : ℕ) → times n (numbers_of {E = E} (first_view passes o state)) ≡ times n (0 ∷ numbers_from 1 (passes - 1))
      same n = ap (times n) (numbers_again E o state (0 ∷ numbers_from 1 (passes - 1)))

      only : (P : V → Type 0) (v : V) → P v → Each P (v ∷ [])
      only P v p = each_push P [] v (λ j u e. absurd (maybe.some-ne-none u (sym e))) p

      numbers_before : (first count n : ℕ) → n < first → times n (numbers_from first count) ≡ 0
      numbers_before first zero n low = refl
      numbers_before first (suc count) n low = omega (arith, times_else n first (numbers_from (first + 1) count) (λ e. omega arith), numbers_before (first + 1) count n (omega arith))

      numbers_behind : (first count n : ℕ) → first + count ≤ n → times n (numbers_from first count) ≡ 0
      numbers_behind first zero n high = refl
      numbers_behind first (suc count) n high = omega (arith, times_else n first (numbers_from (first + 1) count) (λ e. omega arith), numbers_behind (first + 1) count n (omega arith))

      numbers_within : (first count n : ℕ) → first ≤ n → n < first + count → times n (numbers_from first count) ≡ 1
      numbers_within first zero n low high = absurd (omega arith)
      numbers_within first (suc count) n low high = dite (ℕ_discrete n first)
          (λ e. omega (arith, ap (λ (k : ℕ). times n (k ∷ numbers_from (first + 1) count)) (sym e), times_here n (numbers_from (first + 1) count), numbers_before (first + 1) count n (omega arith)))
          (λ other. omega (arith, times_else n first (numbers_from (first + 1) count) (λ e. other (sym e)), numbers_within (first + 1) count n (omega arith) (omega arith)))

  -- a view that has all numbers is alone, so the state is at home when its pass rests
  pub ends : (id : ℕ) (v : V) (ws : List ℕ) (xs : List (Option S)) → v.mode ≡ Idle → ((n : ℕ) → n < passes → 0 < times n (numbers_of v)) → Final (Seen Rule id v) ws xs → (found : Option S) → get_elem? xs 0 ≡ maybe.some found
      → IsSome found × ((state : S) → found ≡ Some state → Holds number stays v (opening state) (entries state) state × All (λ e. number e < passes) (entries state))
  ends id v ws xs idle all (s, (r, at), words, long, values) found is = (
    subst IsSome (sym there) refl,
    λ state has. let same : r.state ≡ state = ap (λ (x : Option S). unwrap_or x r.state) (sym there ∙ has) in (
      subst (λ (z : O × List E × S). Holds number stays v z.0 z.1 z.2) (λ i. ((sym home.its_opening ∙ ap opening same) i, (sym home.its_entries ∙ ap entries same) i, same i))
          (record { openings = r.home.openings id v at; seen = r.prefixes.seen id v at; olds = r.prefixes.olds id v at; made = r.own_entries.made id v at; lasts = r.lasts id v at }),
      subst (All (λ e. number e < passes)) (sym home.its_entries ∙ ap entries same) r.own_entries.known,
    ),
  )
    where
      counts_true : (b : Bool) → 0 < cond b 1 0 → b ≡ true
      counts_true true h = refl
      counts_true false h = absurd (omega arith)

      some_number : (ms : List (Member S O E)) → 0 < length ms → (n : ℕ) × (0 < times n (map (λ (m : Member S O E). m.number) ms))
      some_number [] h = absurd (omega arith)
      some_number (m ∷ ms) h = (m.number, omega (arith, times_here m.number (map (λ (k : Member S O E). k.number) ms)))

      alone : (j : ℕ) (u : V) → get_elem? s.views j ≡ maybe.some u → has_turn u.mode ≡ true → ⊥
      alone j u there turn = let mine = some_number u.members (omega (arith, r.tickets.of_passes j u there, ap length (r.turn j u there turn))) in dite (ℕ_discrete j id)
          (λ e. true≢false (sym turn ∙ (ap (λ (z : V). has_turn z.mode) (maybe.some-injective u v (sym there ∙ (ap (get_elem? s.views) e ∙ at))) ∙ ap has_turn idle)))
          (λ apart. dite (dec_le passes mine.0)
          (λ high. omega (arith, at_most_sum (λ (z : V). times mine.0 (numbers_of z)) s.views j u there, r.numbers.no_other mine.0 high, mine.1))
          (λ low. omega (arith, no_shared_number passes s.views id j mine.0 v u r.numbers at there apart (all mine.0 (omega arith)), mine.1)))

      home : IsHome opening entries o r.log r.state s.homes s.views
      home = ⊎_elim (λ (h : IsHome opening entries o r.log r.state s.homes s.views). h)
          (λ (a : IsAway r.log r.state s.homes s.views). let found = some_counts (λ (u : V). cond (has_turn u.mode) 1 0) s.views (omega (arith, a.one)) in
          absurd (alone found.0 found.1 found.2 (counts_true (has_turn found.1.mode) found.3)))
          r.home.place

      there : found ≡ Some r.state
      there = maybe.some-injective found (Some r.state) (sym is ∙ values 0 (Some r.state) (ap (λ (hs : List (maybe.Option (Option S))). get_elem? hs 0) home.there))
