-- An act is right by the test exactly where it is right in a lawful history.
use Rattle.std.proofs.Common.{◌≡◌, Bool, true, false, ◌&&◌, List, [], ◌∷◌, ◌++◌, refl, sym, ap, subst, ◌∙◌, append_assoc, IsTrue, true≢false}
use Rattle.std.proofs.lemmas.List.{append-nil}
use Rattle.std.specs.List.{AllByRecursion}
use Rattle.std.proofs.lemmas.Bool.{and_parts, and_from, eqb-true, eq-eqb}
use Rattle.rclaim.specs.Events.{seat_of}
use Rattle.rmodel.specs.Steps.{Comes}
use Rattle.rvalue.specs.Acts.{place_of, value_within, IsAnsweredAt, IsAnsweredAfter}
use Rattle.rvalue.specs.Histories.{value_of}
use Rattle.rvalue.specs.InTurn.{AllInTurn}
use Rattle.rvalue.specs.Lawful.{stands_with, is_held}
use Rattle.rvalue.specs.Ledgers.{opening_ledger, is_taken, value_after}
use Rattle.rvalue.specs.declared.act.Act.{Act}
use Rattle.rvalue.specs.declared.act.Act.TheVariants.{Edited, Shown}
use Rattle.rvalue.specs.declared.ledger.Edit.{Edit}
use Rattle.rvalue.specs.declared.ledger.Ledger.{Ledger}
use Rattle.rvalue.proofs.InTurnLemmas.{AllInTurn-longer}
use Rattle.rtrace_form.specs.Heads.{Head}
use Rattle.rtrace_form.specs.Reports.{Entry, lock_after, ledger_after, reads_of, writes_of, IsRightEntry}
use Rattle.rtrace_form.specs.SoFar.{with_act}
use Rattle.rtrace_form.specs.Faults.{same_answer, is_answered}

pub all-push : {X : Type 0} (P : X → Type 0) (xs : List X) (x : X) → AllByRecursion P xs → P x → AllByRecursion P (xs ++ x ∷ [])
all-push P [] x all one = (one, tt)
all-push P (y ∷ xs) x all one = (all.0, all-push P xs x all.1 one)

-- ---- answers

same_is : (a b : Bool) → same_answer a b ≡ true → a ≡ b
same_is true b h = sym h
same_is false true h = absurd (true≢false (sym h))
same_is false false h = refl

is_same : (a : Bool) → same_answer a a ≡ true
is_same true = refl
is_same false = refl

answered_at : (ledger : Ledger) (act : Act Edit) → is_answered ledger act ≡ true → IsAnsweredAt is_taken (λ (l : Ledger). l.balance) ledger act
answered_at ledger (Edited place edit done) h = same_is done (is_taken ledger edit) h
answered_at ledger (Shown place number) h = eqb-true number ledger.balance h

at_answered : (ledger : Ledger) (act : Act Edit) → IsAnsweredAt is_taken (λ (l : Ledger). l.balance) ledger act → is_answered ledger act ≡ true
at_answered ledger (Edited place edit done) h = ap (λ b. same_answer b (is_taken ledger edit)) h ∙ is_same (is_taken ledger edit)
at_answered ledger (Shown place number) h = eq-eqb number ledger.balance h

-- ---- the test of an act, with the parts of the state that it looks at

abbrev pub is_right : Head → List Entry → Entry → Act Edit → Bool
is_right head earlier entry act =
    stands_with entry.event act
    && is_held (reads_of (lock_after head earlier) (seat_of entry.event)) (writes_of (lock_after head earlier) (seat_of entry.event)) act
    && is_answered (value_within value_after (ledger_after earlier (place_of act)) entry.acts (place_of act)) act

module _ (head : Head) (earlier : List Entry) (entry : Entry) (act : Act Edit) where
  -- an entry with one more act that is right is right
  pub right-push : is_right head earlier entry act ≡ true → IsRightEntry head earlier entry → IsRightEntry head earlier (with_act act entry)
  right-push h right =
      let first = and_parts (stands_with entry.event act && is_held (reads_of (lock_after head earlier) (seat_of entry.event)) (writes_of (lock_after head earlier) (seat_of entry.event)) act) _ h in
      let both = and_parts (stands_with entry.event act) _ first.0 in
      record {
        comes = right.comes;
        stand = all-push _ entry.acts act right.stand both.0;
        held = all-push _ entry.acts act right.held both.1;
        answers = λ openings told.
            (AllInTurn-longer (IsAnsweredAfter value_after is_taken (λ (l : Ledger). l.balance) (λ l. value_of value_after (openings l) earlier l)) entry.acts act).1 (
              right.answers openings told,
              subst (λ (o : Ledger). IsAnsweredAt is_taken (λ (l : Ledger). l.balance) (value_within value_after (value_of value_after o earlier (place_of act)) entry.acts (place_of act)) act)
                  (sym (told (place_of act) opening_ledger refl))
                  (answered_at (value_within value_after (ledger_after earlier (place_of act)) entry.acts (place_of act)) act first.1),
            );
      }

all_at : {X : Type 0} (P : X → Type 0) (xs : List X) (y : X) (ys : List X) → AllByRecursion P (xs ++ y ∷ ys) → P y
all_at P [] y ys all = all.0
all_at P (x ∷ xs) y ys all = all_at P xs y ys all.1

in_turn_at : {X : Type 0} (Fits : List X → X → Type 0) (earlier xs : List X) (y : X) (ys : List X) → AllInTurn Fits earlier (xs ++ y ∷ ys) → Fits (earlier ++ xs) y
in_turn_at Fits earlier [] y ys all = subst (λ before. Fits before y) (sym (append-nil earlier)) all.0
in_turn_at Fits earlier (x ∷ xs) y ys all = subst (λ before. Fits before y) (append_assoc earlier (x ∷ []) xs) (in_turn_at Fits (earlier ++ x ∷ []) xs y ys all.1)

-- each act of a right entry is right after those before it
pub right_at : (head : Head) (earlier : List Entry) (entry : Entry) (before after : List (Act Edit)) (act : Act Edit) → IsRightEntry head earlier entry → entry.acts ≡ before ++ act ∷ after
    → is_right head earlier (record { event = entry.event; acts = before }) act ≡ true
right_at head earlier entry before after act right are =
    let stand = all_at (λ a. IsTrue (stands_with entry.event a)) before act after (subst (λ (acts : List (Act Edit)). AllByRecursion (λ a. IsTrue (stands_with entry.event a)) acts) are right.stand) in
    let reads = reads_of (lock_after head earlier) (seat_of entry.event) in
    let writes = writes_of (lock_after head earlier) (seat_of entry.event) in
    let held = all_at (λ a. IsTrue (is_held reads writes a)) before act after (subst (λ (acts : List (Act Edit)). AllByRecursion (λ a. IsTrue (is_held reads writes a)) acts) are right.held) in
    let Answers = IsAnsweredAfter value_after is_taken (λ (l : Ledger). l.balance) (λ l. ledger_after earlier l) in
    let answered = in_turn_at Answers [] before act after (subst (λ (acts : List (Act Edit)). AllInTurn Answers [] acts) are (right.answers (λ l. opening_ledger) (λ l value is. sym is))) in
    and_from _ _ (and_from _ _ stand held) (at_answered (value_within value_after (ledger_after earlier (place_of act)) before (place_of act)) act answered)

pub right_stands : (head : Head) (earlier : List Entry) (entry : Entry) (before after : List (Act Edit)) (act : Act Edit) → IsRightEntry head earlier entry → entry.acts ≡ before ++ act ∷ after
    → stands_with entry.event act ≡ true
right_stands head earlier entry before after act right are =
    all_at (λ a. IsTrue (stands_with entry.event a)) before act after (subst (λ (acts : List (Act Edit)). AllByRecursion (λ a. IsTrue (stands_with entry.event a)) acts) are right.stand)

-- an entry without an act is right where its event is accepted
pub right-bare : (head : Head) (earlier : List Entry) (entry : Entry) → entry.acts ≡ [] → Comes (lock_after head earlier) entry.event → IsRightEntry head earlier entry
right-bare head earlier entry none comes = record {
  comes = comes;
  stand = subst (λ (acts : List (Act Edit)). AllByRecursion (λ act. IsTrue (stands_with entry.event act)) acts) (sym none) tt;
  held = subst (λ (acts : List (Act Edit)). AllByRecursion (λ act. IsTrue (is_held (reads_of (lock_after head earlier) (seat_of entry.event)) (writes_of (lock_after head earlier) (seat_of entry.event)) act)) acts) (sym none) tt;
  answers = λ openings told. subst (λ (acts : List (Act Edit)). AllInTurn (IsAnsweredAfter value_after is_taken (λ (l : Ledger). l.balance) (λ l. value_of value_after (openings l) earlier l)) [] acts) (sym none) tt;
}
