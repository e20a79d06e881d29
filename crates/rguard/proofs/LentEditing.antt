-- A section with one more act, and a section that may end.
use Rattle.std.proofs.Common.{◌≡◌, ℕ, suc, ◌+◌, ◌==◌, ◌||◌, Bool, true, false, cond, IsTrue, List, [], ◌∷◌, ◌++◌, fold, Some, None, refl, sym, ap, subst, ◌∙◌, inl, inr, append-nil, arith}
use Rattle.std.specs.Prelude.{slice_get, slice_set}
use Rattle.std.specs.FinSet.{contains}
use Rattle.std.specs.List.{AllByRecursion}
use Rattle.std.proofs.lemmas.Bool.{true≢false, eqb-true, eq-eqb, or_cases, or_parts, or_left, or_right}
use Rattle.std.proofs.lemmas.List.{map-append}
use Rattle.std.proofs.lemmas.List.Sums.{fold-append}
use Rattle.rclaim.specs.declared.event.Event.TheVariants as events
use Rattle.rmodel.proofs.ListFacts.{Among, all_append, all_from, all_at, contrary, false_from}
use Rattle.rvalue.specs.declared.act.Act.{Act}
use Rattle.rvalue.specs.declared.act.Act.TheVariants.{Edited, Shown}
use Rattle.rvalue.specs.Acts.{place_of, edits_in, value_within, IsAnsweredAfter}
use Rattle.rvalue.specs.Histories.{value_of}
use Rattle.rvalue.specs.Lawful.{is_held, stands_with}
use Rattle.rvalue.proofs.InTurnLemmas.{AllInTurn-longer}
use Rattle.rvalue.proofs.ValueLemmas.{edits_in-append}
use Rattle.rstate.specs.Histories.{Beginning, reads_of, writes_of}
use Rattle.rstate.specs.Laws.{is_held_by}
use Rattle.rstate.specs.Lent.{Once, has, places, at_place, index_of, replaced, lent_value}
use Rattle.rstate.proofs.homes.Lending.{has_append, once_append}
use Rattle.rstate.proofs.homes.Lists.{same_item}
use Rattle.rstate.proofs.homes.Moved.{place_among}
use Rattle.rguard.specs.declared.kind.GuardKind.{GuardKind}
use Rattle.rguard.specs.declared.kind.GuardKind.TheVariants.{Read, Write, Rise, Nest}
use Rattle.rguard.specs.LentSections.{SectionFields, lock_seen, held_at, AreShows, IsAs, may_edit, value_seen, value_edited, ActsAreRight, HoldsFrom, EndsFrom}
use Rattle.rguard.specs.Copies.{copied, with_copy}
use Rattle.rguard.proofs.Lending.{lent_same, place_there, place_none}
use Rattle.rguard.proofs.LentReading.{lent_there}

-- shows edit nothing
pub edits_of_shows : {E : Type 0} (acts : List (Act E)) (l : ℕ) → AreShows acts → edits_in acts l ≡ []
edits_of_shows [] l shows = refl
edits_of_shows (Edited place edit done ∷ acts) l shows = absurd (true≢false (sym shows.0))
edits_of_shows (Shown place number ∷ acts) l shows = edits_of_shows acts l shows.1

edits_shown : {E : Type 0} (acts : List (Act E)) (place shown l : ℕ) → edits_in (acts ++ Shown place shown ∷ []) l ≡ edits_in acts l
edits_shown {E} acts place shown l = edits_in-append acts (Shown place shown ∷ []) l ∙ append-nil (edits_in acts l)

module _ {V E : Type 0} (after : V → E → V) (taken : V → E → Bool) (number : V → ℕ) (b : Beginning V) (s : SectionFields V E) where
  -- a section that only shows may end
  pub ends_of_shows : (kind : GuardKind) → HoldsFrom after taken number kind b s → AreShows s.acts → EndsFrom after taken number b s
  ends_of_shows kind h shows = record {
    knows = h.knows;
    holding = h.holding;
    right = h.right;
    taken_is = h.has_lent.taken;
    lent = lent_same b.seats (held_at b s.seat) b.values (value_seen after s.seat) (value_seen after s.seat) (value_seen after s.seat) (value_edited after s) s.lent
        (λ l reads v listed. refl) (λ l writes v listed. ap (fold after (value_seen after s.seat l v)) (edits_of_shows s.acts l shows)) h.has_lent.lent;
  }

  -- a section may end without its acts
  pub ends_bare : (kind : GuardKind) (own : List (ℕ × V)) (acts : List (Act E)) → acts ≡ [] → HoldsFrom after taken number kind b s → EndsFrom after taken number b (record { site = s.site; seat = s.seat; lent = s.lent; own = own; acts = acts })
  ends_bare kind own acts none h =
      subst (λ (xs : List (Act E)). EndsFrom after taken number b (record { site = s.site; seat = s.seat; lent = s.lent; own = own; acts = xs })) (sym none) (record {
        knows = h.knows;
        holding = h.holding;
        right = record { held = tt; answers = λ openings are. tt };
        taken_is = h.has_lent.taken;
        lent = h.has_lent.lent;
      })

  -- one more act is right
  pub right_more : (act : Act E) (opening : V) → ActsAreRight after taken number b s.seat.seen s.seat.number s.acts → slice_get b.values (place_of act) ≡ Some opening
      → IsTrue (is_held (reads_of (lock_seen b s.seat) s.seat.number) (writes_of (lock_seen b s.seat) s.seat.number) act)
      → IsAnsweredAfter after taken number (λ l. value_seen after s.seat l opening) s.acts act → ActsAreRight after taken number b s.seat.seen s.seat.number (s.acts ++ act ∷ [])
  right_more act opening right listed held answered = record {
    held = all_append (λ act. IsTrue (is_held (reads_of (lock_seen b s.seat) s.seat.number) (writes_of (lock_seen b s.seat) s.seat.number) act)) s.acts (act ∷ []) right.held (held, tt);
    answers = λ openings are. (AllInTurn-longer (IsAnsweredAfter after taken number (λ l. value_of after (openings l) s.seat.seen l)) s.acts act).1 (right.answers openings are, answered_at act (openings (place_of act)) (are (place_of act) opening listed) answered);
  }
    where
      answered_at : (act : Act E) (v : V) → v ≡ opening → IsAnsweredAfter after taken number (λ l. value_seen after s.seat l opening) s.acts act → IsAnsweredAfter after taken number (λ l. value_of after v s.seat.seen l) s.acts act
      answered_at act v is answered = subst (λ (x : V). IsAnsweredAfter after taken number (λ l. value_of after x s.seat.seen l) s.acts act) (sym is) answered

  -- one more show
  pub shown_more : (kind : GuardKind) (place shown : ℕ) (opening : V) → HoldsFrom after taken number kind b s → slice_get b.values place ≡ Some opening → is_held_by (lock_seen b s.seat) s.seat.number place ≡ true
      → shown ≡ number (value_edited after s place opening) → HoldsFrom after taken number kind b (record { site = s.site; seat = s.seat; lent = s.lent; own = s.own; acts = s.acts ++ Shown place shown ∷ [] })
  shown_more kind place shown opening h listed held is = record {
    knows = h.knows;
    holding = h.holding;
    right = right_more (Shown place shown) opening h.right listed held is;
    has_lent = record {
      taken = h.has_lent.taken;
      lent = h.has_lent.lent;
      copies = record {
        once = h.has_lent.copies.once;
        written = h.has_lent.copies.written;
        are = all_from (λ copy. (opening : V) → slice_get b.values copy.0 ≡ Some opening → copy.1 ≡ value_within after (value_seen after s.seat copy.0 opening) (s.acts ++ Shown place shown ∷ []) copy.0) s.own (λ copy there opening listed.
            all_at (λ copy. (opening : V) → slice_get b.values copy.0 ≡ Some opening → copy.1 ≡ value_edited after s copy.0 opening) s.own copy h.has_lent.copies.are there opening listed
            ∙ ap (fold after (value_seen after s.seat copy.0 opening)) (sym (edits_shown s.acts place shown copy.0)));
        unedited = λ l none. edits_shown s.acts place shown l ∙ h.has_lent.copies.unedited l none;
      };
    };
    as_kind = as_kind kind h.as_kind;
  }
    where
      as_kind : (kind : GuardKind) → IsAs kind b s → IsAs kind b (record { site = s.site; seat = s.seat; lent = s.lent; own = s.own; acts = s.acts ++ Shown place shown ∷ [] })
      as_kind Read was = all_append (λ act. IsTrue (stands_with (events.Rise 0) act)) s.acts (Shown place shown ∷ []) was (refl, tt)
      as_kind Write was = tt
      as_kind Rise was = (all_append (λ act. IsTrue (stands_with (events.Rise 0) act)) s.acts (Shown place shown ∷ []) was.0 (refl, tt), was.1)
      as_kind Nest was = was

-- ---- edits

-- an edit of another resource does not edit this one
edits_else : {E : Type 0} (acts : List (Act E)) (place : ℕ) (edit : E) (done : Bool) (l : ℕ) → (place == l) ≡ false → edits_in (acts ++ Edited place edit done ∷ []) l ≡ edits_in acts l
edits_else {E} acts place edit done l differ =
    edits_in-append acts (Edited place edit done ∷ []) l ∙ ap (λ (c : Bool). edits_in acts l ++ (cond c (edit ∷ []) [] ++ [])) differ ∙ append-nil (edits_in acts l)

edits_here : {E : Type 0} (acts : List (Act E)) (place : ℕ) (edit : E) (done : Bool) → edits_in (acts ++ Edited place edit done ∷ []) place ≡ edits_in acts place ++ edit ∷ []
edits_here {E} acts place edit done =
    edits_in-append acts (Edited place edit done ∷ []) place ∙ ap (λ (c : Bool). edits_in acts place ++ (cond c (edit ∷ []) [] ++ [])) (eq-eqb place place refl)

plus_one : (n : ℕ) → n + 1 ≡ suc n
plus_one n = omega arith

pub turned : (m n : ℕ) → (n == m) ≡ false → (m == n) ≡ false
turned m n differ = false_from (m == n) (λ h. contrary (n == m) (eq-eqb n m (sym (eqb-true m n h))) differ)

module _ {X : Type 0} where
  -- one item replaced by another of the same number
  pub places_replaced : (loans : List (ℕ × X)) (l : ℕ) (x : X) → places (replaced loans l x) ≡ places loans
  places_replaced [] l x = refl
  places_replaced (loan ∷ loans) l x = at (loan.0 == l) refl (places_replaced loans l x)
    where
      at : (c : Bool) → (loan.0 == l) ≡ c → places (replaced loans l x) ≡ places loans → places (slice_set (loan ∷ loans) (cond c 0 (index_of loans l + 1)) (l, x)) ≡ loan.0 ∷ places loans
      at true is rest = ap (λ n. n ∷ places loans) (sym (eqb-true loan.0 l is))
      at false is rest = ap (λ n. places (slice_set (loan ∷ loans) n (l, x))) (plus_one (index_of loans l)) ∙ ap (λ ns. loan.0 ∷ ns) rest

  -- what holds of the replacing item, and of the items of other numbers, holds of all
  pub all_replaced : (P : ℕ × X → Type 0) (loans : List (ℕ × X)) (l : ℕ) (x : X) → Once (places loans) → P (l, x) → AllByRecursion (λ loan. (loan.0 == l) ≡ false → P loan) loans → AllByRecursion P (replaced loans l x)
  all_replaced P [] l x once new others = tt
  all_replaced P (loan ∷ loans) l x once new others = at (loan.0 == l) refl (all_replaced P loans l x once.1 new others.1)
    where
      at : (c : Bool) → (loan.0 == l) ≡ c → AllByRecursion P (replaced loans l x) → AllByRecursion P (slice_set (loan ∷ loans) (cond c 0 (index_of loans l + 1)) (l, x))
      at true is rest = (new, all_from P loans (λ y there. all_at (λ loan. (loan.0 == l) ≡ false → P loan) loans y others.1 there (not_again y there)))
        where
          not_again : (y : ℕ × X) → Among y loans → (y.0 == l) ≡ false
          not_again y there = false_from (y.0 == l) (λ h. contrary (has loan.0 (places loans)) (subst (λ k. has k (places loans) ≡ true) (eqb-true y.0 l h ∙ sym (eqb-true loan.0 l is)) (place_among y loans there)) once.0)
      at false is rest = subst (λ n. AllByRecursion P (slice_set (loan ∷ loans) n (l, x))) (sym (plus_one (index_of loans l))) (others.0 is, rest)

module _ {V E : Type 0} (after : V → E → V) (taken : V → E → Bool) (number : V → ℕ) (kind : GuardKind) (b : Beginning V) (s : SectionFields V E) (h : HoldsFrom after taken number kind b s)
    (l : ℕ) (opening : V) (listed : slice_get b.values l ≡ Some opening) (held : contains (writes_of (lock_seen b s.seat) s.seat.number) l ≡ true) where
  -- the copies with one of this resource among them
  record HasCopy (own : List (ℕ × V)) : Type 0 where
    once : Once (places own)
    written : (m : ℕ) → has m (places own) ≡ true → contains (held_at b s.seat).writes m ≡ true
    are : AllByRecursion (λ copy. (v : V) → slice_get b.values copy.0 ≡ Some v → copy.1 ≡ value_edited after s copy.0 v) own
    there : has l (places own) ≡ true
    kept : (m : ℕ) → has m (places own) ≡ false → has m (places s.own) ≡ false

  has_copy : HasCopy (with_copy s.own s.lent l)
  has_copy = by_own (has l (places s.own)) refl
    where
      by_own : (c : Bool) → has l (places s.own) ≡ c → HasCopy (with_copy s.own s.lent l)
      by_own true there = subst HasCopy (sym (ap (λ o. copied s.own l o (lent_value s.lent l)) (place_there b.values (value_edited after s) s.own l opening h.has_lent.copies.are there listed))) (record {
        once = h.has_lent.copies.once;
        written = h.has_lent.copies.written;
        are = h.has_lent.copies.are;
        there = there;
        kept = λ m none. none;
      })
      by_own false new =
          subst HasCopy (sym (ap (λ o. copied s.own l o (lent_value s.lent l)) (place_none s.own l new) ∙ ap (copied s.own l None) (lent_there after taken number b s l opening listed (held_at b s.seat) s.lent h.has_lent.lent (inr held)))) (record {
            once = subst Once (sym with_new) (once_append (places s.own) (l ∷ []) h.has_lent.copies.once (refl, tt) (λ m is. subst (λ k. has k (places s.own) ≡ false) (one_of m is) new));
            written = λ m there. elim (or_cases (has m (places s.own)) (has m (l ∷ [])) (sym (has_parts m) ∙ there)) [
              | inl old ↦ h.has_lent.copies.written m old
              | inr is ↦ subst (λ k. contains (held_at b s.seat).writes k ≡ true) (one_of m is) held
            ];
            are = all_append (λ copy. (v : V) → slice_get b.values copy.0 ≡ Some v → copy.1 ≡ value_edited after s copy.0 v) s.own ((l, value_seen after s.seat l opening) ∷ []) h.has_lent.copies.are (
              (λ v is.
                  ap (value_seen after s.seat l) (same_item opening v (sym listed ∙ is)) ∙ ap (fold after (value_seen after s.seat l v)) (sym (h.has_lent.copies.unedited l new))),
              tt,
            );
            there = has_parts l ∙ or_right (has l (places s.own)) (has l (l ∷ [])) (or_left (l == l) false (eq-eqb l l refl));
            kept = λ m none. (or_parts (has m (places s.own)) (has m (l ∷ [])) (sym (has_parts m) ∙ none)).0;
          })
        where
          with_new : places (s.own ++ (l, value_seen after s.seat l opening) ∷ []) ≡ places s.own ++ l ∷ []
          with_new = map-append (λ (loan : ℕ × V). loan.0) s.own ((l, value_seen after s.seat l opening) ∷ [])

          has_parts : (m : ℕ) → has m (places (s.own ++ (l, value_seen after s.seat l opening) ∷ [])) ≡ (has m (places s.own) || has m (l ∷ []))
          has_parts m = ap (has m) with_new ∙ has_append m (places s.own) (l ∷ [])

          one_of : (m : ℕ) → has m (l ∷ []) ≡ true → l ≡ m
          one_of m is = eqb-true l m (or_one (l == m) is)
            where
              or_one : (c : Bool) → (c || false) ≡ true → c ≡ true
              or_one true h = refl
              or_one false h = h

  -- the copy of the resource
  pub copy_there : at_place (with_copy s.own s.lent l) l ≡ Some (value_edited after s l opening)
  copy_there = place_there b.values (value_edited after s) (with_copy s.own s.lent l) l opening has_copy.are has_copy.there listed

  -- after the edit
  pub edited : (edit : E) (done : Bool) (own : List (ℕ × V)) → may_edit kind ≡ true → own ≡ replaced (with_copy s.own s.lent l) l (after (value_edited after s l opening) edit) → done ≡ taken (value_edited after s l opening) edit
      → HoldsFrom after taken number kind b (record { site = s.site; seat = s.seat; lent = s.lent; own = own; acts = s.acts ++ Edited l edit done ∷ [] })
  edited edit done own may own_is answered =
      subst (λ (xs : List (ℕ × V)). HoldsFrom after taken number kind b (record { site = s.site; seat = s.seat; lent = s.lent; own = xs; acts = s.acts ++ Edited l edit done ∷ [] })) (sym own_is) (record {
        knows = h.knows;
        holding = h.holding;
        right = right_more after taken number b s (Edited l edit done) opening h.right listed held answered;
        has_lent = record {
          taken = h.has_lent.taken;
          lent = h.has_lent.lent;
          copies = record {
            once = subst Once (sym same_places) has_copy.once;
            written = λ m there. has_copy.written m (ap (has m) (sym same_places) ∙ there);
            are = all_replaced (λ copy. (v : V) → slice_get b.values copy.0 ≡ Some v → copy.1 ≡ value_within after (value_seen after s.seat copy.0 v) (s.acts ++ Edited l edit done ∷ []) copy.0)
                (with_copy s.own s.lent l) l (after (value_edited after s l opening) edit) has_copy.once
                (λ v is. ap (λ x. after (value_edited after s l x) edit) (same_item opening v (sym listed ∙ is))
                ∙ sym (ap (fold after (value_seen after s.seat l v)) (edits_here s.acts l edit done) ∙ fold-append after (value_seen after s.seat l v) (edits_in s.acts l) (edit ∷ [])))
                (all_from (λ copy. (copy.0 == l) ≡ false → (v : V) → slice_get b.values copy.0 ≡ Some v → copy.1 ≡ value_within after (value_seen after s.seat copy.0 v) (s.acts ++ Edited l edit done ∷ []) copy.0) (with_copy s.own s.lent l)
                (λ copy there differ v is.
                all_at (λ copy. (v : V) → slice_get b.values copy.0 ≡ Some v → copy.1 ≡ value_edited after s copy.0 v) (with_copy s.own s.lent l) copy has_copy.are there v is
                ∙ ap (fold after (value_seen after s.seat copy.0 v)) (sym (edits_else s.acts l edit done copy.0 (turned l copy.0 differ)))));
            unedited = λ m none.
                let out : has m (places (with_copy s.own s.lent l)) ≡ false = ap (has m) (sym same_places) ∙ none in
                edits_else s.acts l edit done m (false_from (l == m) (λ is. contrary (has m (places (with_copy s.own s.lent l))) (subst (λ k. has k (places (with_copy s.own s.lent l)) ≡ true) (eqb-true l m is) has_copy.there) out))
                ∙ h.has_lent.copies.unedited m (has_copy.kept m out);
          };
        };
        as_kind = as_kind kind may h.as_kind;
      })
    where
      same_places : places (replaced (with_copy s.own s.lent l) l (after (value_edited after s l opening) edit)) ≡ places (with_copy s.own s.lent l)
      same_places = places_replaced (with_copy s.own s.lent l) l (after (value_edited after s l opening) edit)

      as_kind : (kind : GuardKind) → may_edit kind ≡ true → IsAs kind b s → IsAs kind b (record { site = s.site; seat = s.seat; lent = s.lent; own = replaced (with_copy s.own s.lent l) l (after (value_edited after s l opening) edit); acts = s.acts ++ Edited l edit done ∷ [] })
      as_kind Read may was = absurd (true≢false (sym may))
      as_kind Write may was = tt
      as_kind Rise may was = absurd (true≢false (sym may))
      as_kind Nest may was = was
