-- The shares that a section makes of what it has edited.
use Rattle.std.proofs.Common.{◌≡◌, ℕ, ◌+◌, ◌<◌, ◌==◌, ◌||◌, Bool, true, false, cond, List, [], ◌∷◌, fold, Some, refl, sym, ap, subst, ◌∙◌, arith}
use Rattle.std.specs.Prelude.{slice_get, is_some}
use Rattle.std.specs.List.{AllByRecursion}
use Rattle.std.proofs.lemmas.Bool.{true≢false, eq-eqb, or_left, or_right, or_from}
use Rattle.rmodel.proofs.ListFacts.{all_from, all_at}
use Rattle.rstate.specs.Histories.{Beginning}
use Rattle.rstate.specs.Lent.{Once, has, places, at_place, replaced}
use Rattle.rstate.specs.Shares.{ShareFields, whole}
use Rattle.rguard.specs.declared.kind.GuardKind.{GuardKind}
use Rattle.rguard.specs.Copies.{shares_of, with_shares, CanReplace}
use Rattle.rguard.specs.LentSections.{SectionFields, value_seen, value_edited, HoldsFrom, EndsFrom}
use Rattle.rguard.proofs.LentEditing.{places_replaced, all_replaced, turned}

module _ {X : Type 0} where
  some_at : (loans : List (ℕ × X)) (l : ℕ) → has l (places loans) ≡ true → is_some (at_place loans l) ≡ true
  some_at [] l there = absurd (true≢false (sym there))
  some_at (loan ∷ loans) l there = at (loan.0 == l) refl (some_at loans l)
    where
      at : (c : Bool) → (loan.0 == l) ≡ c → (has l (places loans) ≡ true → is_some (at_place loans l) ≡ true) → is_some (cond c (Some loan.1) (at_place loans l)) ≡ true
      at true is rest = refl
      at false is rest = rest (ap (λ (c : Bool). c || has l (places loans)) (sym is) ∙ there)

module _ {V : Type 0} (n : ℕ) (P : ℕ → ShareFields V → Type 0) where
  -- what is lent may be replaced if each copy is of a resource that is lent
  pub can_replace : (writes : List (ℕ × ShareFields V)) (own : List (ℕ × V)) → ((m : ℕ) → has m (places own) ≡ true → has m (places writes) ≡ true) → CanReplace writes (shares_of n own)
  can_replace writes [] there = tt
  can_replace writes (copy ∷ own) there = (
    some_at writes copy.0 (there copy.0 (or_left (copy.0 == copy.0) (has copy.0 (places own)) (eq-eqb copy.0 copy.0 refl))),
    can_replace (replaced writes copy.0 (whole n copy.1)) own (λ m is. ap (has m) (places_replaced writes copy.0 (whole n copy.1)) ∙ there m (or_right (copy.0 == m) (has m (places own)) is)),
  )

  pub places_shared : (writes : List (ℕ × ShareFields V)) (own : List (ℕ × V)) → places (with_shares writes (shares_of n own)) ≡ places writes
  places_shared writes [] = refl
  places_shared writes (copy ∷ own) = places_shared (replaced writes copy.0 (whole n copy.1)) own ∙ places_replaced writes copy.0 (whole n copy.1)

  -- and then all is as it should be
  pub all_shared : (writes : List (ℕ × ShareFields V)) (own : List (ℕ × V)) → Once (places writes) → AllByRecursion (λ copy. P copy.0 (whole n copy.1)) own
      → AllByRecursion (λ loan. has loan.0 (places own) ≡ false → P loan.0 loan.1) writes → AllByRecursion (λ loan. P loan.0 loan.1) (with_shares writes (shares_of n own))
  all_shared writes [] once copies others = all_from (λ loan. P loan.0 loan.1) writes (λ loan there. all_at (λ loan. has loan.0 [] ≡ false → P loan.0 loan.1) writes loan others there refl)
  all_shared writes (copy ∷ own) once copies others =
      all_shared (replaced writes copy.0 (whole n copy.1)) own (subst Once (sym (places_replaced writes copy.0 (whole n copy.1))) once) copies.1
      (all_replaced (λ loan. has loan.0 (places own) ≡ false → P loan.0 loan.1) writes copy.0 (whole n copy.1) once (λ none. copies.0)
      (all_from (λ loan. (loan.0 == copy.0) ≡ false → has loan.0 (places own) ≡ false → P loan.0 loan.1) writes (λ loan there differ none.
      all_at (λ loan. has loan.0 (places (copy ∷ own)) ≡ false → P loan.0 loan.1) writes loan others there (or_from (copy.0 == loan.0) (has loan.0 (places own)) (turned copy.0 loan.0 differ) none))))

-- the section may end with these shares
module _ {V E : Type 0} (after : V → E → V) (taken : V → E → Bool) (number : V → ℕ) (kind : GuardKind) (b : Beginning V) (s : SectionFields V E) (h : HoldsFrom after taken number kind b s) (n : ℕ) (n_is : n ≡ b.seats + 1) where
  copies_lent : (m : ℕ) → has m (places s.own) ≡ true → has m (places s.lent.writes) ≡ true
  copies_lent m there = h.has_lent.lent.writes_has m ∙ h.has_lent.copies.written m there

  pub may_replace : CanReplace s.lent.writes (shares_of n s.own)
  may_replace = can_replace n (λ m shares. Unit {0}) s.lent.writes s.own copies_lent

  abbrev Edited : ℕ → ShareFields V → Type 0
  Edited m shares = (v : V) → slice_get b.values m ≡ Some v → shares ≡ whole (b.seats + 1) (value_edited after s m v)

  pub ends_shared : (writes : List (ℕ × ShareFields V)) → writes ≡ with_shares s.lent.writes (shares_of n s.own)
      → EndsFrom after taken number b (record { site = s.site; seat = s.seat; lent = record s.lent { writes = writes }; own = s.own; acts = s.acts })
  ends_shared writes writes_is =
      subst (λ (ws : List (ℕ × ShareFields V)). EndsFrom after taken number b (record { site = s.site; seat = s.seat; lent = record s.lent { writes = ws }; own = s.own; acts = s.acts })) (sym writes_is) (record {
        knows = h.knows;
        holding = h.holding;
        right = h.right;
        taken_is = h.has_lent.taken;
        lent = record {
          reads_once = h.has_lent.lent.reads_once;
          reads_has = h.has_lent.lent.reads_has;
          reads_are = h.has_lent.lent.reads_are;
          writes_once = subst Once (sym same) h.has_lent.lent.writes_once;
          writes_has = λ m. ap (has m) same ∙ h.has_lent.lent.writes_has m;
          writes_are = all_shared n Edited s.lent.writes s.own h.has_lent.lent.writes_once
              (all_from (λ copy. Edited copy.0 (whole n copy.1)) s.own (λ copy there v listed. (λ i. whole (n_is i) (all_at (λ copy. (v : V) → slice_get b.values copy.0 ≡ Some v → copy.1 ≡ value_edited after s copy.0 v) s.own copy h.has_lent.copies.are there v listed i))))
              (all_from (λ loan. has loan.0 (places s.own) ≡ false → Edited loan.0 loan.1) s.lent.writes (λ loan there none v listed.
              all_at (λ loan. (v : V) → slice_get b.values loan.0 ≡ Some v → loan.1 ≡ whole (b.seats + 1) (value_seen after s.seat loan.0 v)) s.lent.writes loan h.has_lent.lent.writes_are there v listed
              ∙ ap (λ es. whole (b.seats + 1) (fold after (value_seen after s.seat loan.0 v) es)) (sym (h.has_lent.copies.unedited loan.0 none))));
        };
      })
    where
      same : places (with_shares s.lent.writes (shares_of n s.own)) ≡ places s.lent.writes
      same = places_shared n (λ m shares. Unit {0}) s.lent.writes s.own
