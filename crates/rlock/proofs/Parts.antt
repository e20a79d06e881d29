-- Each part of the rule, when one view changes and when a new one comes.
use Rattle.std.proofs.Common.{◌≡◌, ◌≢◌, ℕ, suc, ◌+◌, ◌%◌, ◌^◌, ◌<◌, ◌≤◌, ◌⊎◌, Bool, true, false, cond, eqb, List, [], ◌∷◌, ◌++◌, length, set, refl, sym, ap, ◌∙◌, subst, inl, inr, ⊎_elim, arith, Option, Some}
use mathlib.Core.Logic.{dite}
use mathlib.Core.List.{IsPrefix, append-nil}
use mathlib.Core.Option as maybe
use mathlib.Core.Option.{some, some-injective}
use native.Mathlib.Decide.{ℕ_discrete, dec_le}
use lib.ListN.{get_elem?}
use Rattle.std.specs.Prelude.{All, IsTrue}
use Rattle.std.proofs.lemmas.List.Sums.{sum_by_push}
use Rattle.std.proofs.lemmas.List.Elements.{All-nil, All-append, All-weaker}
use Rattle.std.proofs.lemmas.Bool.{true≢false}
use Rattle.atomic_table.proofs.Lists.{at_set, at_snoc, set_here, set_else, at_longer}
use Rattle.rlock.specs.declared.view.View.{View}
use Rattle.rlock.specs.declared.view.Member.{Member}
use Rattle.rlock.specs.Known.{entries_by, Appends, KeepsOthers}
use Rattle.rlock.specs.Views.{times, ticket_of, has_turn, state_out, numbers_of, drawers, turns_taken}
use Rattle.rlock.specs.Rule.{Each, Numbers, Tickets, HasServedTicket, Prefixes, OwnEntries, Lasts, HasSeen, IsHome, IsAway, Home}
use Rattle.rlock.proofs.Counting.{sum_set, at_most_sum, two_at_most_sum, times_here, times_else}
use Rattle.rlock.proofs.Entries.{IsPrefix-trans, apart_from, others_keep}

module _ {A : Type 0} where
  -- what an element of a list shows
  pub is_there : (vs : List A) (i : ℕ) (v : A) → get_elem? vs i ≡ some v → i < length vs
  is_there [] i v e = absurd (maybe.some-ne-none v (sym e))
  is_there (x ∷ xs) Rattle.std.proofs.Common.zero v e = omega arith
  is_there (x ∷ xs) (suc i) v e = let l = is_there xs i v e in omega arith

module _ {S O E : Type 0} where
  pub each_set : (P : View S O E → Type 0) (vs : List (View S O E)) (id : ℕ) (w : View S O E) → P w → ((j : ℕ) (u : View S O E) → j ≢ id → get_elem? vs j ≡ some u → P u) → Each P (set vs id w)
  each_set P vs id w here others j u at = ⊎_elim (λ (t : (j ≡ id) × (w ≡ u)). subst P t.1 here) (λ (t : (j ≢ id) × (get_elem? vs j ≡ some u)). others j u t.0 t.1) (at_set vs id j w u at)

  pub each_push : (P : View S O E → Type 0) (vs : List (View S O E)) (w : View S O E) → Each P vs → P w → Each P (vs ++ w ∷ [])
  each_push P vs w all here j u at = ⊎_elim (λ (e : get_elem? vs j ≡ some u). all j u e) (λ (e : w ≡ u). subst P e here) (at_snoc vs w u j at)

  abbrev times_in : ℕ → View S O E → ℕ
  times_in n v = times n (numbers_of v)

  abbrev tickets_in : ℕ → View S O E → ℕ
  tickets_in t v = times t (ticket_of v.mode)

  abbrev turns_in : View S O E → ℕ
  turns_in v = cond (has_turn v.mode) 1 0

  -- numbers: the view keeps its numbers
  pub numbers_kept : (passes : ℕ) (vs : List (View S O E)) (id : ℕ) (v w : View S O E) → get_elem? vs id ≡ some v → ((n : ℕ) → times_in n w ≡ times_in n v) → Numbers passes vs → Numbers passes (set vs id w)
  numbers_kept passes vs id v w at same r = record {
    few = r.few;
    once = λ n low. omega (arith, sum_set (times_in n) vs id v w at, same n, r.once n low);
    no_other = λ n high. omega (arith, sum_set (times_in n) vs id v w at, same n, r.no_other n high);
  }

  -- numbers: another view takes over some of the view's numbers
  pub numbers_split : (passes : ℕ) (vs : List (View S O E)) (id : ℕ) (v w new : View S O E) → get_elem? vs id ≡ some v → ((n : ℕ) → times_in n w + times_in n new ≡ times_in n v) → Numbers passes vs → Numbers passes (set vs id w ++ new ∷ [])
  numbers_split passes vs id v w new at same r = record {
    few = r.few;
    once = λ n low. omega (arith, sum_by_push (times_in n) (set vs id w) new, sum_set (times_in n) vs id v w at, same n, r.once n low);
    no_other = λ n high. omega (arith, sum_by_push (times_in n) (set vs id w) new, sum_set (times_in n) vs id v w at, same n, r.no_other n high);
  }

  -- numbers: one view takes over all numbers of another
  pub numbers_joined : (passes : ℕ) (vs : List (View S O E)) (id other : ℕ) (v w both none : View S O E) → get_elem? vs id ≡ some v → get_elem? (set vs id both) other ≡ some w
      → ((n : ℕ) → times_in n both + times_in n none ≡ times_in n v + times_in n w) → Numbers passes vs → Numbers passes (set (set vs id both) other none)
  numbers_joined passes vs id other v w both none at there same r = record {
    few = r.few;
    once = λ n low. omega (arith, sum_set (times_in n) (set vs id both) other w none there, sum_set (times_in n) vs id v both at, same n, r.once n low);
    no_other = λ n high. omega (arith, sum_set (times_in n) (set vs id both) other w none there, sum_set (times_in n) vs id v both at, same n, r.no_other n high);
  }

  -- two views share no number
  pub no_shared_number : (passes : ℕ) (vs : List (View S O E)) (id j n : ℕ) (v u : View S O E) → Numbers passes vs → get_elem? vs id ≡ some v → get_elem? vs j ≡ some u → j ≢ id → 0 < times_in n v → times_in n u ≡ 0
  no_shared_number passes vs id j n v u r at there apart has = dite (dec_le passes n)
      (λ high. omega (arith, at_most_sum (times_in n) vs j u there, r.no_other n high))
      (λ low. omega (arith, two_at_most_sum (times_in n) vs j id u v apart there at, r.once n (omega arith)))

  -- tickets: the view keeps its ticket, or has none as before
  pub tickets_kept : (served drawn : ℕ) (words : List ℕ) (vs : List (View S O E)) (id : ℕ) (v w : View S O E) → get_elem? vs id ≡ some v → ticket_of w.mode ≡ ticket_of v.mode → length (ticket_of w.mode) ≤ length w.members
      → Tickets served drawn words vs → Tickets served drawn words (set vs id w)
  tickets_kept served drawn words vs id v w at same enough r = let moved : (t : ℕ) → drawers t (set vs id w) ≡ drawers t vs = λ t. omega (arith, sum_set (tickets_in t) vs id v w at, ap (times t) same) in record {
    ordered = r.ordered;
    counted = r.counted;
    out = λ t low high. moved t ∙ r.out t low high;
    spent = λ t low. moved t ∙ r.spent t low;
    later = λ t high. moved t ∙ r.later t high;
    of_passes = each_set (λ u. length (ticket_of u.mode) ≤ length u.members) vs id w enough (λ j u _. r.of_passes j u);
  }

  -- tickets: a view without a ticket draws the next one
  pub tickets_drawn : (served drawn : ℕ) (words words' : List ℕ) (vs : List (View S O E)) (id : ℕ) (v w : View S O E) → get_elem? vs id ≡ some v → ticket_of v.mode ≡ [] → ticket_of w.mode ≡ drawn ∷ [] → 0 < length w.members
      → words' ≡ (drawn + 1) % 2 ^ 64 ∷ served % 2 ^ 64 ∷ [] → Tickets served drawn words vs → Tickets served (drawn + 1) words' (set vs id w)
  tickets_drawn served drawn words words' vs id v w at none one some_member now r = let old = λ (t : ℕ). ap (times t) none in let new = λ (t : ℕ). ap (times t) one in record {
    ordered = let o = r.ordered in omega arith;
    counted = now;
    out = λ t low high. dite (ℕ_discrete t drawn)
        (λ e. omega (arith, sum_set (tickets_in t) vs id v w at, old t, new t, times_same t drawn (sym e), r.later t (omega arith)))
        (λ other. omega (arith, sum_set (tickets_in t) vs id v w at, old t, new t, times_else t drawn [] (λ e. other (sym e)), r.out t low (omega arith)));
    spent = λ t low. let o = r.ordered in omega (arith, sum_set (tickets_in t) vs id v w at, old t, new t, times_else t drawn [] (λ e. omega arith), r.spent t low);
    later = λ t high. omega (arith, sum_set (tickets_in t) vs id v w at, old t, new t, times_else t drawn [] (λ e. omega arith), r.later t (omega arith));
    of_passes = each_set (λ u. length (ticket_of u.mode) ≤ length u.members) vs id w (omega (arith, ap length one)) (λ j u _. r.of_passes j u);
  }
    where
      times_same : (t x : ℕ) → x ≡ t → times t (x ∷ []) ≡ 1
      times_same t x e = ap (λ (y : ℕ). times t (y ∷ [])) e ∙ times_here t []

  -- tickets: the view whose ticket is served gives it up
  pub tickets_served : (served drawn : ℕ) (words words' : List ℕ) (vs : List (View S O E)) (id : ℕ) (v w : View S O E) → get_elem? vs id ≡ some v → ticket_of v.mode ≡ served ∷ [] → ticket_of w.mode ≡ []
      → words' ≡ drawn % 2 ^ 64 ∷ (served + 1) % 2 ^ 64 ∷ [] → Tickets served drawn words vs → Tickets (served + 1) drawn words' (set vs id w)
  tickets_served served drawn words words' vs id v w at one none now r = let old = λ (t : ℕ). ap (times t) one in let new = λ (t : ℕ). ap (times t) none in let o = r.ordered in
      let early : served < drawn = dite (dec_le drawn served) (λ h. absurd (omega (arith, r.later served (omega arith), at_most_sum (tickets_in served) vs id v at, old served, times_here served []))) (λ h. omega arith) in record {
        ordered = omega arith;
        counted = now;
        out = λ t low high. omega (arith, sum_set (tickets_in t) vs id v w at, old t, new t, times_else t served [] (λ e. omega arith), r.out t (omega arith) high);
        spent = λ t low. dite (ℕ_discrete t served)
            (λ e. omega (arith, sum_set (tickets_in t) vs id v w at, old t, new t, ap (λ (y : ℕ). times t (y ∷ [])) (sym e), times_here t [], r.out t (omega arith) (omega arith)))
            (λ other. omega (arith, sum_set (tickets_in t) vs id v w at, old t, new t, times_else t served [] (λ e. other (sym e)), r.spent t (omega arith)));
        later = λ t high. omega (arith, sum_set (tickets_in t) vs id v w at, old t, new t, times_else t served [] (λ e. omega arith), r.later t high);
        of_passes = each_set (λ u. length (ticket_of u.mode) ≤ length u.members) vs id w (omega (arith, ap length none)) (λ j u _. r.of_passes j u);
      }

  -- tickets: a new view without a ticket
  pub tickets_new : (served drawn : ℕ) (words : List ℕ) (vs : List (View S O E)) (new : View S O E) → ticket_of new.mode ≡ [] → Tickets served drawn words vs → Tickets served drawn words (vs ++ new ∷ [])
  tickets_new served drawn words vs new none r = let moved : (t : ℕ) → drawers t (vs ++ new ∷ []) ≡ drawers t vs = λ t. omega (arith, sum_by_push (tickets_in t) vs new, ap (times t) none) in record {
    ordered = r.ordered;
    counted = r.counted;
    out = λ t low high. moved t ∙ r.out t low high;
    spent = λ t low. moved t ∙ r.spent t low;
    later = λ t high. moved t ∙ r.later t high;
    of_passes = each_push (λ u. length (ticket_of u.mode) ≤ length u.members) vs new r.of_passes (omega (arith, ap length none));
  }

  -- two views do not share a ticket
  pub no_shared_ticket : (served drawn : ℕ) (words : List ℕ) (vs : List (View S O E)) (id j t : ℕ) (v u : View S O E) → Tickets served drawn words vs → get_elem? vs id ≡ some v → get_elem? vs j ≡ some u → j ≢ id
      → ticket_of v.mode ≡ t ∷ [] → ticket_of u.mode ≡ t ∷ [] → ⊥
  no_shared_ticket served drawn words vs id j t v u r at there apart a b = dite (dec_le drawn t)
      (λ high. omega (arith, at_most_sum (tickets_in t) vs j u there, ap (times t) b, times_here t [], r.later t high))
      (λ low. dite (dec_le served t)
      (λ from. omega (arith, two_at_most_sum (tickets_in t) vs j id u v apart there at, ap (times t) a, ap (times t) b, times_here t [], r.out t from (omega arith)))
      (λ below. omega (arith, at_most_sum (tickets_in t) vs j u there, ap (times t) b, times_here t [], r.spent t (omega arith))))

  -- turn: the one view that has the turn
  pub nobody_else : (vs : List (View S O E)) (id j : ℕ) (v u : View S O E) → turns_taken vs ≤ 1 → get_elem? vs id ≡ some v → get_elem? vs j ≡ some u → j ≢ id → has_turn v.mode ≡ true → has_turn u.mode ≡ true → ⊥
  nobody_else vs id j v u one at there apart a b = omega (arith, two_at_most_sum turns_in vs j id u v apart there at, ap {B = ℕ} (λ (t : Bool). cond t 1 0) a, ap {B = ℕ} (λ (t : Bool). cond t 1 0) b)

  -- turn: once its view has given it up, nobody has it
  pub turn_given_up : (served : ℕ) (vs : List (View S O E)) (id : ℕ) (v w : View S O E) → get_elem? vs id ≡ some v → turns_taken vs ≡ 1 → has_turn v.mode ≡ true → has_turn w.mode ≡ false → Each (HasServedTicket served) (set vs id w)
  turn_given_up served vs id v w at one mine none = each_set (HasServedTicket served) vs id w (λ turn. absurd (true≢false (sym turn ∙ none)))
      (λ j u apart there turn. absurd (nobody_else vs id j v u (omega arith) at there apart mine turn))

  turns_moved : (vs : List (View S O E)) (id : ℕ) (v w : View S O E) (a b : Bool) → get_elem? vs id ≡ some v → has_turn v.mode ≡ a → has_turn w.mode ≡ b → turns_taken (set vs id w) + cond a 1 0 ≡ turns_taken vs + cond b 1 0
  turns_moved vs id v w a b at was now = omega (arith, sum_set turns_in vs id v w at, ap {B = ℕ} (λ (t : Bool). cond t 1 0) was, ap {B = ℕ} (λ (t : Bool). cond t 1 0) now)

  -- prefixes: the kept list stays
  pub prefixes_kept : (log : List E) (vs : List (View S O E)) (id : ℕ) (v w : View S O E) → get_elem? vs id ≡ some v → IsPrefix w.seen log → (v.seen ≡ log → w.seen ≡ log) → All (λ old. IsPrefix old log) w.olds
      → Prefixes log vs → Prefixes log (set vs id w)
  prefixes_kept log vs id v w at begins as_long olds r = record {
    seen = each_set (λ u. IsPrefix u.seen log) vs id w begins (λ j u _. r.seen j u);
    longest = let (i, u, there, is) = r.longest in dite (ℕ_discrete i id)
        (λ e. (id, w, set_here vs id w (is_there vs id v at), as_long (ap (λ (z : View S O E). z.seen) (some-injective v u (sym at ∙ (ap (get_elem? vs) (sym e) ∙ there))) ∙ is)))
        (λ other. (i, u, set_else vs id i w other ∙ there, is));
    olds = each_set (λ u. All (λ old. IsPrefix old log) u.olds) vs id w olds (λ j u _. r.olds j u);
  }

  -- prefixes: the kept list grows, and the view has seen all of it
  pub prefixes_grown : (log list : List E) (vs : List (View S O E)) (id : ℕ) (v w : View S O E) → get_elem? vs id ≡ some v → IsPrefix log list → w.seen ≡ list → w.olds ≡ v.olds → Prefixes log vs → Prefixes list (set vs id w)
  prefixes_grown log list vs id v w at more is same r = let grow : (u : View S O E) → All (λ old. IsPrefix old log) u.olds → All (λ old. IsPrefix old list) u.olds = λ u all k d l. IsPrefix-trans _ log list (all k d l) more in record {
    seen = each_set (λ u. IsPrefix u.seen list) vs id w ([], append-nil w.seen ∙ is) (λ j u _ there. IsPrefix-trans u.seen log list (r.seen j u there) more);
    longest = (id, w, set_here vs id w (is_there vs id v at), is);
    olds = each_set (λ u. All (λ old. IsPrefix old list) u.olds) vs id w (subst (All (λ old. IsPrefix old list)) (sym same) (grow v (r.olds id v at))) (λ j u _ there. grow u (r.olds j u there));
  }

  -- prefixes: a view is spent, and another has seen its list
  pub prefixes_spent : (log : List E) (vs : List (View S O E)) (id other : ℕ) (v w none : View S O E) → get_elem? vs id ≡ some v → get_elem? vs other ≡ some w → id ≢ other → (w.seen ≡ log → v.seen ≡ log) → none.seen ≡ [] → none.olds ≡ []
      → Prefixes log vs → Prefixes log (set vs other none)
  prefixes_spent log vs id other v w none at there apart as_long empty no_olds r = record {
    seen = each_set (λ u. IsPrefix u.seen log) vs other none (log, ap (λ (l : List E). l ++ log) empty) (λ j u _. r.seen j u);
    longest = let (i, u, u_at, is) = r.longest in dite (ℕ_discrete i other)
        (λ e. (id, v, set_else vs other id none apart ∙ at, as_long (ap (λ (z : View S O E). z.seen) (some-injective w u (sym there ∙ (ap (get_elem? vs) (sym e) ∙ u_at))) ∙ is)))
        (λ elsewhere. (i, u, set_else vs other i none elsewhere ∙ u_at, is));
    olds = each_set (λ u. All (λ old. IsPrefix old log) u.olds) vs other none (subst (All (λ old. IsPrefix old log)) (sym no_olds) (All-nil (λ old. IsPrefix old log))) (λ j u _. r.olds j u);
  }

  -- prefixes: a new view
  pub prefixes_new : (log : List E) (vs : List (View S O E)) (new : View S O E) → IsPrefix new.seen log → new.olds ≡ [] → Prefixes log vs → Prefixes log (vs ++ new ∷ [])
  prefixes_new log vs new begins none r = record {
    seen = each_push (λ u. IsPrefix u.seen log) vs new r.seen begins;
    longest = let (i, u, there, is) = r.longest in (i, u, at_longer vs (new ∷ []) i u there, is);
    olds = each_push (λ u. All (λ old. IsPrefix old log) u.olds) vs new r.olds (subst (All (λ old. IsPrefix old log)) (sym none) (All-nil (λ old. IsPrefix old log)));
  }

  -- own entries: the kept list stays
  pub own_kept : (number : E → ℕ) (passes : ℕ) (log : List E) (vs : List (View S O E)) (id : ℕ) (w : View S O E) → All (λ (m : Member S O E). entries_by number m.number log ≡ m.mine) w.members
      → OwnEntries number passes log vs → OwnEntries number passes log (set vs id w)
  own_kept number passes log vs id w made r = record {
    made = each_set (λ u. All (λ (m : Member S O E). entries_by number m.number log ≡ m.mine) u.members) vs id w made (λ j u _. r.made j u);
    known = r.known;
  }

  pub own_new : (number : E → ℕ) (passes : ℕ) (log : List E) (vs : List (View S O E)) (new : View S O E) → All (λ (m : Member S O E). entries_by number m.number log ≡ m.mine) new.members
      → OwnEntries number passes log vs → OwnEntries number passes log (vs ++ new ∷ [])
  own_new number passes log vs new made r = record {
    made = each_push (λ u. All (λ (m : Member S O E). entries_by number m.number log ≡ m.mine) u.members) vs new r.made made;
    known = r.known;
  }

  -- own entries: the pass of the view, which has joined no other and has nothing to give out, adds entries
  pub own_grown : (number : E → ℕ) (passes : ℕ) (log list : List E) (vs : List (View S O E)) (id n : ℕ) (v w : View S O E) → Numbers passes vs → get_elem? vs id ≡ some v → 0 < times_in n v → Appends number n log list
      → All (λ (m : Member S O E). entries_by number m.number list ≡ m.mine) w.members → OwnEntries number passes log vs → OwnEntries number passes list (set vs id w)
  own_grown number passes log list vs id n v w once at has more made r = record {
    made = each_set (λ u. All (λ (m : Member S O E). entries_by number m.number list ≡ m.mine) u.members) vs id w made
        (λ j u apart there. let others = apart_from (λ (m : Member S O E). m.number) n u.members (no_shared_number passes vs id j n v u once at there apart has) in
        λ k d l. others_keep number n _ log list more (others k d l) ∙ r.made j u there k d l);
    known = subst (All (λ e. number e < passes)) (sym more.1) (All-append (λ e. number e < passes) log more.0 r.known (All-weaker (λ e. number e ≡ n) (λ e. number e < passes) (λ e is. omega (arith, number_below)) more.0 more.2));
  }
    where
      number_below : n < passes
      number_below = dite (dec_le passes n) (λ high. absurd (omega (arith, at_most_sum (times_in n) vs id v at, once.no_other n high))) (λ low. omega arith)

  module _ (stays : ℕ → S → S → Type 0) where
    abbrev LastStays : S → View S O E → Type 0
    LastStays state v = All (λ (m : Member S O E). stays m.number m.last state) v.members

    -- lasts: the state stays
    pub lasts_kept : (state : S) (vs : List (View S O E)) (id : ℕ) (w : View S O E) → LastStays state w → Lasts stays state vs → Lasts stays state (set vs id w)
    lasts_kept state vs id w stay r = each_set (LastStays state) vs id w stay (λ j u _. r j u)

    pub lasts_new : (state : S) (vs : List (View S O E)) (new : View S O E) → LastStays state new → Lasts stays state vs → Lasts stays state (vs ++ new ∷ [])
    lasts_new state vs new stay r = each_push (LastStays state) vs new r stay

    -- lasts: the pass of the view, which has joined no other and has nothing to give out, leaves another state
    pub lasts_changed : (stays_trans : (k : ℕ) (a b c : S) → stays k a b → stays k b c → stays k a c) (passes : ℕ) (state now : S) (vs : List (View S O E)) (id n : ℕ) (v w : View S O E) → Numbers passes vs → get_elem? vs id ≡ some v → 0 < times_in n v
        → KeepsOthers stays n state now → LastStays now w → Lasts stays state vs → Lasts stays now (set vs id w)
    lasts_changed stays_trans passes state now vs id n v w once at has keeps stay r = each_set (LastStays now) vs id w stay
        (λ j u apart there. let others = apart_from (λ (m : Member S O E). m.number) n u.members (no_shared_number passes vs id j n v u once at there apart has) in
        λ k d l. stays_trans _ _ state now (r j u there k d l) (keeps _ (others k d l)))

  module _ (opening : S → O) (entries : S → List E) (o : O) where
    abbrev Opened : View S O E → Type 0
    Opened v = All (λ (m : Member S O E). m.opening ≡ o) v.members

    abbrev Place : List E → S → List (maybe.Option (Option S)) → List (View S O E) → Type 0
    Place log state homes vs = Home opening entries o log state homes vs

    -- home: the view keeps the turn, or has none as before
    pub home_kept : (log : List E) (state : S) (homes : List (maybe.Option (Option S))) (vs : List (View S O E)) (id : ℕ) (v w : View S O E) → get_elem? vs id ≡ some v → w.mode ≡ v.mode ⊎ (has_turn v.mode ≡ false) × (has_turn w.mode ≡ false)
        → (IsTrue (has_turn w.mode) → w.seen ≡ v.seen) → Opened w → Place log state homes vs → Place log state homes (set vs id w)
    home_kept log state homes vs id v w at same seen opened r = record {
      openings = each_set Opened vs id w opened (λ j u _. r.openings j u);
      place = ⊎_elim (λ (h : IsHome opening entries o log state homes vs). inl (record { there = h.there; its_opening = h.its_opening; its_entries = h.its_entries; nobody = moved ∙ h.nobody }))
          (λ (a : IsAway log state homes vs). inr (record {
            gone = a.gone;
            one = moved ∙ a.one;
            its_seen = each_set (HasSeen log state) vs id w (λ turn. ⊎_elim
                (λ (e : w.mode ≡ v.mode). let old = a.its_seen id v at (sym (ap has_turn e) ∙ turn) in (seen turn ∙ old.0, ap state_out e ∙ old.1))
                (λ (none : (has_turn v.mode ≡ false) × (has_turn w.mode ≡ false)). absurd (true≢false (sym turn ∙ none.1)))
                same) (λ j u _. a.its_seen j u);
          }))
          r.place;
    }
      where
        same_turn : has_turn w.mode ≡ has_turn v.mode
        same_turn = ⊎_elim (λ (e : w.mode ≡ v.mode). ap has_turn e) (λ (none : (has_turn v.mode ≡ false) × (has_turn w.mode ≡ false)). none.1 ∙ sym none.0) same

        moved : turns_taken (set vs id w) ≡ turns_taken vs
        moved = omega (arith, turns_moved vs id v w (has_turn v.mode) (has_turn v.mode) at refl same_turn)

    -- home: the view takes the state
    pub home_taken : (log : List E) (state : S) (homes : List (maybe.Option (Option S))) (vs : List (View S O E)) (id : ℕ) (v w : View S O E) → get_elem? vs id ≡ some v → has_turn v.mode ≡ false → has_turn w.mode ≡ true
        → w.seen ≡ log → state_out w.mode ≡ Some state → Opened w → Each Opened vs → IsHome opening entries o log state homes vs → Place log state (maybe.none ∷ []) (set vs id w)
    home_taken log state homes vs id v w at none turn seen out opened all h = record {
      openings = each_set Opened vs id w opened (λ j u _. all j u);
      place = inr (record {
        gone = refl;
        one = omega (arith, turns_moved vs id v w false true at none turn, h.nobody);
        its_seen = each_set (HasSeen log state) vs id w (λ _. (seen, out))
            (λ j u _ there turn'. absurd (omega (arith, at_most_sum turns_in vs j u there, ap {B = ℕ} (λ (t : Bool). cond t 1 0) turn', h.nobody)));
      });
    }

    pub is_away : (log : List E) (state : S) (homes : List (maybe.Option (Option S))) (vs : List (View S O E)) (id : ℕ) (v : View S O E) → get_elem? vs id ≡ some v → has_turn v.mode ≡ true → Place log state homes vs → IsAway log state homes vs
    is_away log state homes vs id v at turn r = ⊎_elim (λ (h : IsHome opening entries o log state homes vs). absurd (omega (arith, at_most_sum turns_in vs id v at, ap {B = ℕ} (λ (t : Bool). cond t 1 0) turn, h.nobody))) (λ (a : IsAway log state homes vs). a) r.place

    -- home: the view that has the turn announces another state, with its list
    pub home_told : (log list : List E) (state now : S) (homes : List (maybe.Option (Option S))) (vs : List (View S O E)) (id : ℕ) (v w : View S O E) → get_elem? vs id ≡ some v → has_turn v.mode ≡ true → has_turn w.mode ≡ true
        → w.seen ≡ list → state_out w.mode ≡ Some now → Opened w → Place log state homes vs → Place list now homes (set vs id w)
    home_told log list state now homes vs id v w at had has seen out opened r = let a = is_away log state homes vs id v at had r in record {
      openings = each_set Opened vs id w opened (λ j u _. r.openings j u);
      place = inr (record {
        gone = a.gone;
        one = omega (arith, turns_moved vs id v w true true at had has, a.one);
        its_seen = each_set (HasSeen list now) vs id w (λ _. (seen, out)) (λ j u apart there turn. absurd (nobody_else vs id j v u (omega (arith, a.one)) at there apart had turn));
      });
    }

    -- home: the view that has the turn gives the state back
    pub home_returned : (log : List E) (state : S) (homes homes' : List (maybe.Option (Option S))) (vs : List (View S O E)) (id : ℕ) (v w : View S O E) → get_elem? vs id ≡ some v → has_turn v.mode ≡ true → has_turn w.mode ≡ false
        → homes' ≡ maybe.some (Some state) ∷ [] → opening state ≡ o → entries state ≡ log → Opened w → Place log state homes vs → Place log state homes' (set vs id w)
    home_returned log state homes homes' vs id v w at had none there its_opening its_entries opened r = let a = is_away log state homes vs id v at had r in record {
      openings = each_set Opened vs id w opened (λ j u _. r.openings j u);
      place = inl (record { there = there; its_opening = its_opening; its_entries = its_entries; nobody = omega (arith, turns_moved vs id v w true false at had none, a.one) });
    }

    -- home: a new view without a turn
    pub home_new : (log : List E) (state : S) (homes : List (maybe.Option (Option S))) (vs : List (View S O E)) (new : View S O E) → has_turn new.mode ≡ false → Opened new → Place log state homes vs → Place log state homes (vs ++ new ∷ [])
    home_new log state homes vs new none opened r = let moved : turns_taken (vs ++ new ∷ []) ≡ turns_taken vs = omega (arith, sum_by_push turns_in vs new, ap {B = ℕ} (λ (t : Bool). cond t 1 0) none) in record {
      openings = each_push Opened vs new r.openings opened;
      place = ⊎_elim (λ (h : IsHome opening entries o log state homes vs). inl (record { there = h.there; its_opening = h.its_opening; its_entries = h.its_entries; nobody = moved ∙ h.nobody }))
          (λ (a : IsAway log state homes vs). inr (record {
            gone = a.gone;
            one = moved ∙ a.one;
            its_seen = each_push (HasSeen log state) vs new a.its_seen (λ turn. absurd (true≢false (sym turn ∙ none)));
          }))
          r.place;
    }
