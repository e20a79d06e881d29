-- The seats that have a write, from event to event.
use Rattle.std.proofs.Common.{◌≡◌, ◌==◌, true, false, not, ◌&&◌, refl, sym, ap, ◌∙◌}
use Rattle.std.proofs.lemmas.Bool.{and_parts, and_from, eqb-true}
use Rattle.std.specs.List.{list_any}
use Rattle.std.specs.FinSet.{contains}
use Rattle.rset.specs.Sets.{Set}
use Rattle.rset.proofs.SetMembers.{same_test}
use Rattle.rclaim.specs.declared.claim.Claim.{Claim}
use Rattle.rclaim.specs.declared.event.Event.{Event}
use Rattle.rclaim.specs.declared.event.Event.TheVariants.{Issue, Finish}
use Rattle.rclaim.specs.declared.event.Event.TheVariants as event
use Rattle.rmodel.specs.declared.claimed.Claimed.{Claimed}
use Rattle.rmodel.specs.Reached.{IsReached}
use Rattle.rmodel.specs.State.{LockState}
use Rattle.rmodel.specs.Steps.{next, Comes}
use Rattle.rmodel.specs.WellFormed.{Among}
use Rattle.rmodel.proofs.ListFacts.{contrary, false_from, any_among, none_among, passing}
use Rattle.rmodel.proofs.settling.Keeping.{not_false}
use Rattle.rcover.specs.Lines.{takes_seat}
use Rattle.rcover.specs.Past.{is_issue}
use Rattle.rcover.specs.Shares.{is_write_of, HaveWrites, AreLeft}
use Rattle.rcover.proofs.SeatFacts.{eq_turned}
use Rattle.rcover.proofs.ending.Lost.{stands}
use Rattle.rcover.proofs.told.Stood.{before}
use Rattle.rcover.proofs.told.Waiting.{none_left}

module _ (s : LockState) (e : Event) (reached : IsReached s) (comes : Comes s e) (old : is_issue e ≡ false) where
  -- after the event, no claim of a seat whose claims it takes away is there
  left_none : (e : Event) → Comes s e → (x : Claimed) → Among x (next s e).claims → takes_seat e x.claim.seat ≡ true → ⊥
  left_none (Issue t r) comes x there takes = contrary false takes refl
  left_none (Finish t) comes x there takes =
      contrary (x.claim.seat == t) (eq_turned x.claim.seat t ∙ takes) (none_among (λ y. y.claim.seat == t) (next s (Finish t)).claims x (none_left s t reached comes) there)
  left_none (event.Rise t) comes x there takes = contrary false takes refl
  left_none (event.Ask t part) comes x there takes = contrary false takes refl

  -- after it the same seats have a write, except the seat whose write it takes away
  pub writers_next : (writers writers' : Set) → HaveWrites writers s.claims → AreLeft e writers writers' → HaveWrites writers' (next s e).claims
  writers_next writers writers' have left seat = same_test (contains writers' seat) (list_any (is_write_of seat) (next s e).claims) stay was
    where
      stay : contains writers' seat ≡ true → list_any (is_write_of seat) (next s e).claims ≡ true
      stay on =
          let parts = and_parts (contains writers seat) (not (takes_seat e seat)) (sym (left seat) ∙ on) in
          let x = passing (is_write_of seat) s.claims (sym (have seat) ∙ parts.0) in
          let own = and_parts (x.0.claim.seat == seat) x.0.claim.write_half x.2 in
          let y = stands s e reached comes old x.0 x.1 own.1 (ap (takes_seat e) (eqb-true x.0.claim.seat seat own.0) ∙ not_false (takes_seat e seat) parts.1) in
          any_among (is_write_of seat) (next s e).claims y.at y.among (ap (λ (d : Claim). (d.seat == seat) && d.write_half) y.is ∙ x.2)

      was : list_any (is_write_of seat) (next s e).claims ≡ true → contains writers' seat ≡ true
      was on =
          let x = passing (is_write_of seat) (next s e).claims on in
          let own = and_parts (x.0.claim.seat == seat) x.0.claim.write_half x.2 in
          let y = before s e reached comes old x.0 x.1 in
          let stayed = false_from (takes_seat e seat) (λ takes. left_none e comes x.0 x.1 (ap (takes_seat e) (eqb-true x.0.claim.seat seat own.0) ∙ takes)) in
          left seat
          ∙ and_from (contains writers seat) (not (takes_seat e seat))
          (have seat ∙ any_among (is_write_of seat) s.claims y.0 y.1 (ap (λ (d : Claim). (d.seat == seat) && d.write_half) (sym y.2.claim) ∙ x.2)) (ap not stayed)
