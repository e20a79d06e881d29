-- An ask that waits: its claim is entitled, and a satisfied claim that reads what it asks to write holds it up.
use Rattle.std.proofs.Common.{◌≡◌, true, false, not, ◌&&◌, cond, List, [], ◌∷◌, map, refl, sym, ap, subst, ◌∙◌, inl, inr}
use Rattle.std.proofs.lemmas.Bool.{or_cases, or_parts, and_parts}
use Rattle.std.specs.FinSet.{empty, union, intersection, is_subset}
use Rattle.rset.specs.Sets.{Set, meets}
use Rattle.rset.proofs.SetLemmas.{within_transitive, union_within, apart_within_right, intersection_within_left, meets_empty_left}
use Rattle.rclaim.specs.declared.claim.Claim.{Claim}
use Rattle.rmodel.specs.declared.claimed.Claimed.{Claimed}
use Rattle.rmodel.specs.Claims.{conflicts_on, touches, share_place, is_active, is_satisfied, is_nested}
use Rattle.rmodel.specs.Reached.{IsReached}
use Rattle.rmodel.specs.State.{LockState}
use Rattle.rmodel.specs.Steps.{is_kept_from, gets_asked, with_asked, given}
use Rattle.rmodel.specs.WellFormed.{IsClaim}
use Rattle.rmodel.proofs.ListFacts.{Among, contrary, false_from, all_at, passing}
use Rattle.rmodel.proofs.settling.Behind.{so_from}
use Rattle.rmodel.proofs.settling.EarlyGrants.{conflict_by_part}
use Rattle.rmodel.proofs.settling.Keeping.{conflict_shares}
use Rattle.rmodel.proofs.settling.OneSettlement.{both_cases}
use Rattle.rcover_laws.specs.Waits.{AskWaits}
use Rattle.rcover_laws.proofs.states.AtRest.{Sat, IsEntitled, HoldsUp, IsHeld, claim_is, parts_of, aside, holds_it_up}

-- what a map leaves as it is, it leaves element by element
fixed : {X : Type 0} (f : X → X) (xs : List X) → map f xs ≡ xs → (x : X) → Among x xs → f x ≡ x
fixed f [] same x there = absurd there
fixed f (y ∷ ys) same x (inl is) = ap f is ∙ ap (head_or y) same ∙ sym is
  where
    head_or : {X : Type 0} → X → List X → X
    head_or d [] = d
    head_or d (z ∷ zs) = z
fixed f (y ∷ ys) same x (inr later) = fixed f ys (ap tail same) x later
  where
    tail : {X : Type 0} → List X → List X
    tail [] = []
    tail (z ∷ zs) = zs

module _ (s : LockState) (reached : IsReached s) (c : Claim) (part : Set) (w : AskWaits c part s.claims) where
  nested : is_nested w.at.claim.kind ≡ true
  nested = ap (λ d. is_nested d.kind) w.is ∙ w.nested

  pub ask_entitled : IsEntitled c s.claims
  ask_entitled = record {
    at = w.at;
    among = w.among;
    is = w.is;
    write = ap (λ d. d.write_half) (sym w.is) ∙ (parts_of s reached w.at w.among).writes nested;
    active = both_cases (is_active w.at) (λ a. a) (λ waits. absurd (w.holds_some ((parts_of s reached w.at w.among).waits waits)));
    unsatisfied = false_from (is_satisfied w.at) (λ sat. w.some (sym w.asks ∙ all_at (λ x. is_satisfied x ≡ true → x.asked ≡ empty) s.claims w.at reached.answered w.among sat));
  }

  -- the part lies within what it reads and writes
  part_within : is_subset part (union c.reads c.writes) ≡ true
  part_within = (λ i. is_subset (sym w.asks i) (union (sym w.is i).reads (sym w.is i).writes)) ∙ (parts_of s reached w.at w.among).asked

  not_given : gets_asked s.claims w.at ≡ false
  unfolding given
  not_given = false_from (gets_asked s.claims w.at) (λ gets.
      let same = fixed (with_asked s.claims) s.claims reached.at_rest w.at w.among in
      w.some (sym w.asks ∙ sym (ap (λ (x : Claimed). x.asked) same) ∙ ap (λ b. (cond b (record w.at { asked = empty; granted = union w.at.granted w.at.asked }) w.at).asked) gets))

  kept_from : is_kept_from s.claims c part ≡ true
  unfolding ask_entitled
  kept_from =
      let none = or_parts (is_satisfied w.at) (is_active w.at && not (is_kept_from s.claims w.at.claim w.at.asked)) not_given in
      (λ i. is_kept_from s.claims (sym w.is i) (sym w.asks i))
      ∙ so_from (is_kept_from s.claims w.at.claim w.at.asked) (ap (λ a. a && not (is_kept_from s.claims w.at.claim w.at.asked)) (sym ask_entitled.active) ∙ none.1)

  pub ask_held : IsHeld (λ d. conflicts_on d c part ≡ true) c s.claims
  ask_held =
      let d = passing (λ v. is_satisfied v && conflicts_on v.claim c part) s.claims kept_from in
      let parts = and_parts (is_satisfied d.0) (conflicts_on d.0.claim c part) d.2 in
      let sat : Sat d.0.claim s.claims = record { at = d.0; among = d.1; is = refl; satisfied = parts.0 } in
      record {
        by = d.0.claim;
        right = parts.1;
        holds_up = holds_it_up s reached c d.0.claim ask_entitled sat (conflict_by_part d.0.claim c part part_within parts.1);
        sat = sat;
      }

  -- a satisfied claim writes nothing of the part
  none_written : (d : Claim) → Sat d s.claims → conflicts_on d c part ≡ true → meets d.writes part ≡ false
  none_written d sat on =
      both_cases d.write_half by_write
      (λ r. ap (λ u. meets u part) (ap (λ x. x.writes) (sym sat.is) ∙ (claim_is s reached sat.at sat.among).read_only (ap (λ x. x.write_half) sat.is ∙ r)) ∙ meets_empty_left part)
    where
      by_write : d.write_half ≡ true → meets d.writes part ≡ false
      by_write wd =
          let ent = ask_entitled in
          let is_d : IsClaim d = subst IsClaim sat.is (claim_is s reached sat.at sat.among) in
          let is_c : IsClaim c = subst IsClaim ent.is (claim_is s reached ent.at ent.among) in
          let share = conflict_shares d c is_d is_c wd ent.write (conflict_by_part d c part part_within on) in
          let h = aside s reached ent.at sat.at ent.among sat.among (ap (λ x. x.write_half) ent.is ∙ ent.write) (ap (λ x. x.write_half) sat.is ∙ wd) ent.active ent.unsatisfied sat.satisfied
          ((λ i. share_place (sat.is i) (ent.is i)) ∙ share) in
          let none : meets d.writes c.places ≡ false = (λ i. meets (sym sat.is i).writes (sym ent.is i).places) ∙ h.1 in
          apart_within_right d.writes part c.places
          (within_transitive part (union c.reads c.writes) c.places part_within (union_within c.reads c.writes c.places (is_c.reads_placed ent.write) (is_c.writes_placed ent.write))) none

  -- so it reads some of what the asker asks to write
  pub reads_asked : (d : Claim) → Sat d s.claims → conflicts_on d c part ≡ true → meets d.reads (intersection part c.writes) ≡ true
  reads_asked d sat on =
      let none = none_written d sat on in
      elim (or_cases (meets d.writes part) (touches d (intersection part c.writes)) on) [
        | inl h ↦ contrary (meets d.writes part) h none
        | inr t ↦ elim (or_cases (meets d.reads (intersection part c.writes)) (meets d.writes (intersection part c.writes)) t) [
          | inl r ↦ r
          | inr h ↦ contrary (meets d.writes (intersection part c.writes)) h (apart_within_right d.writes (intersection part c.writes) part (intersection_within_left part c.writes) none)
        ]
      ]

  -- a satisfied claim that conflicts on the part holds the asker up
  pub asks_hold_up : (d : Claim) → Sat d s.claims → conflicts_on d c part ≡ true → HoldsUp c d
  asks_hold_up d sat on = holds_it_up s reached c d ask_entitled sat (conflict_by_part d c part part_within on)
