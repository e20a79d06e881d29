-- The value of a resource that a section holds.
use Rattle.std.proofs.Common.{◌≡◌, ℕ, ◌+◌, ◌<◌, Bool, true, false, List, length, fold, replicate, Some, refl, sym, ap, subst, ◌∙◌, inl, inr, ◌⊎◌, arith}
use Rattle.std.specs.Prelude.{slice_get}
use Rattle.std.specs.FinSet.{contains}
use Rattle.std.specs.Option.{option_map}
use Rattle.std.proofs.lemmas.Bool.{or_cases}
use Rattle.std.proofs.lemmas.List.{length-replicate}
use Rattle.rmodel.specs.declared.granted.Granted.{Granted}
use Rattle.rmodel.specs.Holds.{nothing, holds_of, is_within}
use Rattle.rmodel.proofs.ListFacts.{contrary}
use Rattle.rmodel.proofs.reaching.HeldBySeat.{nothing_within}
use Rattle.rvalue.specs.Entries.{EntryFields}
use Rattle.rstate.specs.Contents.{IsKept}
use Rattle.rstate.specs.Histories.{Beginning, lock_after, IsLawfulFrom}
use Rattle.rstate.specs.Laws.{is_held_by}
use Rattle.rstate.specs.Lent.{LentFields, IsLent, has, places, at_place, value_from, lent_value}
use Rattle.rstate.specs.Shares.{whole}
use Rattle.rstate.proofs.homes.Lists.{get_there, get_replicate}
use Rattle.rstate.proofs.homes.Taking.{MayTake}
use Rattle.rstate.proofs.keeping.Taking.{may_take}
use Rattle.rguard.specs.declared.kind.GuardKind.{GuardKind}
use Rattle.rguard.specs.Copies.{own_or, value_among}
use Rattle.rguard.specs.LentSections.{SectionFields, lock_seen, held_at, value_seen, value_edited, HasLent, HoldsFrom}
use Rattle.rguard.proofs.Lending.{place_there, place_none}

length_replicate : {X : Type 0} (n : ℕ) (x : X) → length (replicate n x) ≡ n
length_replicate n x = length-replicate n x

module _ {V E : Type 0} (after : V → E → V) (taken : V → E → Bool) (number : V → ℕ) (b : Beginning V) where
  -- a seat holds only resources that exist
  pub held_listed : (entries : List (EntryFields E)) (n l : ℕ) → IsLawfulFrom after taken number b entries → n < b.seats → length b.values ≡ b.groups.q → is_held_by (lock_after b entries) n l ≡ true → l < length b.values
  held_listed entries n l lawful there values held =
      elim (or_cases (contains (holds_of (lock_after b entries).claims n).reads l) (contains (holds_of (lock_after b entries).claims n).writes l) held) [
        | inl reads ↦ may.reads_below l reads
        | inr writes ↦ may.writes_below l writes
      ]
    where
      at_n : (g : Granted) × (slice_get (replicate b.seats nothing) n ≡ Some g)
      at_n = get_there (replicate b.seats nothing) n (subst (λ m. n < m) (sym (length_replicate b.seats nothing)) there)

      kept : IsKept after taken number (lock_after b entries) (length (lock_after b entries).claims) (record { beginning = b; entries = entries; taken = replicate b.seats nothing })
      kept = record {
        machine_is = refl;
        lawful = lawful;
        taken_is = record {
          each_seat = length_replicate b.seats nothing;
          within = λ m g at_m. subst (λ (h : Granted). is_within h (holds_of (lock_after b entries).claims m) ≡ true) (sym (get_replicate b.seats m nothing g at_m)) (nothing_within (holds_of (lock_after b entries).claims m));
        };
        room = omega arith;
        values = values;
      }

      may : MayTake (replicate b.seats nothing) n at_n.0 (holds_of (lock_after b entries).claims n) (length b.values)
      may = may_take after taken number (lock_after b entries) (length (lock_after b entries).claims) (record { beginning = b; entries = entries; taken = replicate b.seats nothing }) kept n at_n.0 at_n.1

  module _ (s : SectionFields V E) (l : ℕ) (opening : V) (listed : slice_get b.values l ≡ Some opening) where
    -- the value that is lent
    pub lent_there : (g : Granted) (lent : LentFields V) → IsLent b.seats g b.values (value_seen after s.seat) (value_seen after s.seat) lent → (contains g.reads l ≡ true) ⊎ (contains g.writes l ≡ true) → lent_value lent l ≡ Some (value_seen after s.seat l opening)
    lent_there g lent is held = by_reads (contains g.reads l) refl held
      where
        by_reads : (c : Bool) → contains g.reads l ≡ c → (contains g.reads l ≡ true) ⊎ (contains g.writes l ≡ true) → lent_value lent l ≡ Some (value_seen after s.seat l opening)
        by_reads true reads held = ap (λ o. value_from o (at_place lent.writes l)) (place_there b.values (value_seen after s.seat) lent.reads l opening is.reads_are (is.reads_has l ∙ reads) listed)
        by_reads false unread held =
            ap (λ o. value_from o (at_place lent.writes l)) (place_none lent.reads l (is.reads_has l ∙ unread))
            ∙ ap (option_map (λ shares. shares.value)) (place_there b.values (λ m v. whole (b.seats + 1) (value_seen after s.seat m v)) lent.writes l opening is.writes_are (is.writes_has l ∙ writes held) listed)
          where
            writes : (contains g.reads l ≡ true) ⊎ (contains g.writes l ≡ true) → contains g.writes l ≡ true
            writes (inl h) = contrary (contains g.reads l) h unread
            writes (inr h) = h

    -- the value in the section: its own copy, or what is lent
    pub value_in : (g : Granted) → HasLent after b g s → (contains g.reads l ≡ true) ⊎ (contains g.writes l ≡ true) → value_among s.own s.lent l ≡ Some (value_edited after s l opening)
    value_in g lends held = by_own (has l (places s.own)) refl
      where
        by_own : (c : Bool) → has l (places s.own) ≡ c → value_among s.own s.lent l ≡ Some (value_edited after s l opening)
        by_own true there = ap (λ o. own_or o (lent_value s.lent l)) (place_there b.values (value_edited after s) s.own l opening lends.copies.are there listed)
        by_own false none =
            ap (λ o. own_or o (lent_value s.lent l)) (place_none s.own l none)
            ∙ lent_there g s.lent lends.lent held
            ∙ ap (λ es. Some (fold after (value_seen after s.seat l opening) es)) (sym (lends.copies.unedited l none))

  -- what a guard has of a resource that it holds
  pub value_held : (kind : GuardKind) (s : SectionFields V E) (l : ℕ) → HoldsFrom after taken number kind b s → is_held_by (lock_seen b s.seat) s.seat.number l ≡ true
      → (opening : V) × (slice_get b.values l ≡ Some opening) × (value_among s.own s.lent l ≡ Some (value_edited after s l opening))
  value_held kind s l h held =
      let there = get_there b.values l (held_listed s.seat.seen s.seat.number l h.knows.lawful h.knows.there h.knows.values held) in
      (there.0, there.1, value_in s l there.0 there.1 (held_at b s.seat) h.has_lent (or_cases (contains (held_at b s.seat).reads l) (contains (held_at b s.seat).writes l) held))
