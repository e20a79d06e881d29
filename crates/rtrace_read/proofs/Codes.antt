-- What is wrong with a line, from the tests that decide it.
use Rattle.std.proofs.Common.{◌≡◌, ℕ, ◌≤◌, Bool, true, false, not, ◌&&◌, ◌||◌, ◌==◌, cond, nat_le, List, [], ◌∷◌, drop, Option, Some, None, refl, sym, ap, ◌∙◌, arith, true≢false}
use Rattle.std.specs.Prelude.{option_map}
use Rattle.std.proofs.lemmas.Bool.{le-leb, le-ltb, leb-true, and_parts}
use Rattle.rclaim.specs.declared.event.Event.{Event}
use Rattle.rclaim.specs.declared.event.Event.TheVariants as event
use Rattle.rvalue.specs.declared.act.Act.{Act}
use Rattle.rvalue.specs.declared.act.Act.TheVariants.{Edited, Shown}
use Rattle.rvalue.specs.declared.ledger.Edit.{Edit}
use Rattle.rvalue.specs.declared.ledger.Edit.TheVariants as edit
use Rattle.rclaim.specs.declared.changes.StatusChange.{StatusChange}
use Rattle.rmodel.specs.Claims.{satisfied_by}
use Rattle.rvalue.specs.declared.ledger.Ledger.{Ledger}
use Rattle.rtrace_form.specs.Heads.{is_nil}
use Rattle.rtrace_form.specs.Reports.{status_line}
use Rattle.rtrace_form.specs.Lines.{Line, Happens, Does, BecomesEntitled, BecomesSatisfied, Grants, Waits, Leaves, Ends, word_of}
use Rattle.rtrace_form.specs.Events.{refusal_in}
use Rattle.rtrace_form.specs.Walks.{when, first_of}
use Rattle.rtrace_form.specs.SoFar.{SoFar, stands, lock_in, ledgers_due, at_changes, with_line}
use Rattle.rtrace_form.specs.Faults.{line_code, may_follow, is_change, is_change_due, is_first, is_right_in}
use Rattle.rtrace_form.specs.declared.fault.Code.{Code}
use Rattle.rtrace_form.specs.declared.fault.Code.TheVariants.{BadField, BadOrder, Refused, WrongChange, WrongShow, WrongLedger}
use Rattle.rtrace_form.specs.declared.fault.Refusal.{Refusal}
use Rattle.rtrace_form.proofs.facts.Choices.{some_none}

-- ---- a line that is neither a change nor an act: it is badly declared, a change is due, it may follow, it is one ledger too many, it is refused, and it is a wrong ledger

abbrev pub plain_causes : Bool → Bool → Bool → Bool → Option Refusal → Bool → List (Option Code)
plain_causes bad due follows more refusal wrong =
    when bad BadField
    ∷ when ((not follows || more) && not due) BadOrder
    ∷ option_map Refused refusal
    ∷ when (due && true) WrongChange
    ∷ when false WrongShow
    ∷ when wrong WrongLedger
    ∷ []

-- what is wrong with its place
abbrev pub place_by : Bool → Bool → Option Code
place_by due follows = cond due (Some WrongChange) (cond follows None (Some BadOrder))

pub bad_code : (due follows more wrong : Bool) (refusal : Option Refusal) → first_of (plain_causes true due follows more refusal wrong) ≡ Some BadField
bad_code due follows more wrong refusal = refl

pub place_code_is : (due follows more wrong : Bool) (refusal : Option Refusal) (code : Code) → (due ≡ true → refusal ≡ None) → place_by due follows ≡ Some code
    → first_of (plain_causes false due follows more refusal wrong) ≡ Some code
place_code_is true true true wrong refusal code none is = ap (λ o. first_of (option_map Refused o ∷ Some WrongChange ∷ [])) (none refl) ∙ is
place_code_is true true false wrong refusal code none is = ap (λ o. first_of (option_map Refused o ∷ Some WrongChange ∷ [])) (none refl) ∙ is
place_code_is true false true wrong refusal code none is = ap (λ o. first_of (option_map Refused o ∷ Some WrongChange ∷ [])) (none refl) ∙ is
place_code_is true false false wrong refusal code none is = ap (λ o. first_of (option_map Refused o ∷ Some WrongChange ∷ [])) (none refl) ∙ is
place_code_is false true more wrong refusal code none is = absurd (some_none is)
place_code_is false false more wrong refusal code none is = is

pub placed : (due follows : Bool) → place_by due follows ≡ None → (due ≡ false) × (follows ≡ true)
placed true follows h = absurd (some_none (sym h))
placed false true h = (refl, refl)
placed false false h = absurd (some_none (sym h))

pub more_code : (due follows wrong : Bool) (refusal : Option Refusal) → place_by due follows ≡ None → first_of (plain_causes false due follows true refusal wrong) ≡ Some BadOrder
more_code due follows wrong refusal h = let at = placed due follows h in rw (at.0, at.1) refl

pub refused_code : (due follows wrong : Bool) (refusal : Refusal) → place_by due follows ≡ None → first_of (plain_causes false due follows false (Some refusal) wrong) ≡ Some (Refused refusal)
refused_code due follows wrong refusal h = let at = placed due follows h in rw (at.0, at.1) refl

pub ledger_code : (due follows : Bool) → place_by due follows ≡ None → first_of (plain_causes false due follows false None true) ≡ Some WrongLedger
ledger_code due follows h = let at = placed due follows h in rw (at.0, at.1) refl

pub no_plain_code : (due follows : Bool) → place_by due follows ≡ None → first_of (plain_causes false due follows false None false) ≡ None
no_plain_code due follows h = let at = placed due follows h in rw (at.0, at.1) refl

pub between : (least n most : ℕ) → least ≤ n → n ≤ most → (nat_le least n && nat_le n most) ≡ true
between least n most low high = λ i. le-leb least n low i && le-leb n most high i

pub not_between : (least n most : ℕ) → (least ≤ n → n ≤ most → ⊥) → (nat_le least n && nat_le n most) ≡ false
not_between least n most h = at (nat_le least n) (nat_le n most) (λ e. leb-true least n e) (λ e. leb-true n most e) h
  where
    at : {P Q : Type 0} (a b : Bool) → (a ≡ true → P) → (b ≡ true → Q) → (P → Q → ⊥) → (a && b) ≡ false
    at true true p q h = absurd (h (p refl) (q refl))
    at true false p q h = refl
    at false b p q h = refl

pub follows_both : (least n most : ℕ) → (nat_le least n && nat_le n most) ≡ true → (least ≤ n) × (n ≤ most)
follows_both least n most h = let both = and_parts (nat_le least n) (nat_le n most) h in (leb-true least n both.0, leb-true n most both.1)

-- ---- events

pub event_follows : (n : ℕ) (e : Event) → may_follow n (stands (word_of (Happens e))) ≡ (nat_le 4 n && nat_le n 7)
event_follows n (event.Issue seat r) = refl
event_follows n (event.Finish seat) = refl
event_follows n (event.Rise seat) = refl
event_follows n (event.Ask seat part) = refl

-- ---- changes

change_causes : (follows due first : Bool) → List (Option Code)
change_causes follows due first =
    when false BadField
    ∷ when ((not follows || false) && not due) BadOrder
    ∷ option_map Refused None
    ∷ when (not (due && first)) WrongChange
    ∷ when false WrongShow
    ∷ when false WrongLedger
    ∷ []

change_is : (whole : Bool) (s : SoFar) (line : Line) → is_change line ≡ true → line_code whole s line ≡ first_of (change_causes (nat_le 0 s.last && nat_le s.last 8) (is_change_due s) (is_first s.due line))
unfolding line_code change_causes
change_is whole s (BecomesEntitled seat half) h = refl
change_is whole s (BecomesSatisfied seat half) h = refl
change_is whole s (Grants seat set) h = refl
change_is whole s (Waits seat which cover bound) h = refl
change_is whole s _ h = absurd (true≢false (sym h))

-- nothing is due after the end
end_idle : (s : SoFar) → s.last ≡ 9 → is_change_due s ≡ false
end_idle s nine = ap (λ b. b && not (is_nil s.due)) (le-ltb s.last 8 (omega (arith, nine)))

pub change_behind_end : (whole : Bool) (s : SoFar) (line : Line) → is_change line ≡ true → s.last ≡ 9 → line_code whole s line ≡ Some BadOrder
unfolding change_causes
change_behind_end whole s line h nine =
    change_is whole s line h ∙ (λ i. first_of (change_causes (nat_le 0 (nine i) && nat_le (nine i) 8) (end_idle s nine i) (is_first s.due line)))

follows_all : (n : ℕ) → n ≤ 8 → (nat_le 0 n && nat_le n 8) ≡ true
follows_all n h = λ i. le-leb 0 n (omega arith) i && le-leb n 8 h i

pub change_wrong : (whole : Bool) (s : SoFar) (line : Line) → is_change line ≡ true → s.last ≤ 8 → (is_change_due s && is_first s.due line) ≡ false → line_code whole s line ≡ Some WrongChange
unfolding change_causes
change_wrong whole s line h low wrong = change_is whole s line h ∙ at (nat_le 0 s.last && nat_le s.last 8) (is_change_due s) (is_first s.due line) (follows_all s.last low) wrong
  where
    at : (f d x : Bool) → f ≡ true → (d && x) ≡ false → first_of (change_causes f d x) ≡ Some WrongChange
    at true true true p e = absurd (true≢false e)
    at true true false p e = refl
    at true false x p e = refl
    at false d x p e = absurd (true≢false (sym p))

pub change_right : (whole : Bool) (s : SoFar) (line : Line) → is_change line ≡ true → s.last ≤ 8 → (is_change_due s && is_first s.due line) ≡ true → line_code whole s line ≡ None
unfolding change_causes
change_right whole s line h low right = change_is whole s line h ∙ at (nat_le 0 s.last && nat_le s.last 8) (is_change_due s) (is_first s.due line) (follows_all s.last low) right
  where
    at : (f d x : Bool) → f ≡ true → (d && x) ≡ true → first_of (change_causes f d x) ≡ None
    at true true true p e = refl
    at true true false p e = absurd (true≢false (sym e))
    at true false x p e = absurd (true≢false (sym e))
    at false d x p e = absurd (true≢false (sym p))

pub status_changes : (c : StatusChange) → is_change (status_line c) ≡ true
status_changes c = at (satisfied_by c.status)
  where
    at : (b : Bool) → is_change (cond b (BecomesSatisfied c.seat c.write_half) (BecomesEntitled c.seat c.write_half)) ≡ true
    at true = refl
    at false = refl

pub with_change : (whole : Bool) (s : SoFar) (line : Line) → is_change line ≡ true → with_line whole s line ≡ record s { last = at_changes; due = drop 1 s.due }
with_change whole s (BecomesEntitled seat half) h = refl
with_change whole s (BecomesSatisfied seat half) h = refl
with_change whole s (Grants seat set) h = refl
with_change whole s (Waits seat which cover bound) h = refl
with_change whole s _ h = absurd (true≢false (sym h))

-- ---- acts

act_causes : (follows due here right : Bool) → List (Option Code)
act_causes follows due here right =
    when false BadField
    ∷ when ((not follows || false) && not due) BadOrder
    ∷ option_map Refused None
    ∷ when (due && not here) WrongChange
    ∷ when (not right) WrongShow
    ∷ when false WrongLedger
    ∷ []

act_is : (whole : Bool) (s : SoFar) (act : Act Edit) → line_code whole s (Does act) ≡ first_of (act_causes (nat_le 6 s.last && nat_le s.last 6) (is_change_due s) (s.last == 6) (is_right_in s s.latest act))
unfolding line_code act_causes
act_is whole s (Shown place number) = refl
act_is whole s (Edited place (edit.Add n) done) = refl
act_is whole s (Edited place (edit.Take n) done) = refl
act_is whole s (Edited place (edit.Set n) done) = refl

-- an act that is not in its place
pub act_misplaced : (whole : Bool) (s : SoFar) (act : Act Edit) (due : Bool) → (s.last == 6) ≡ false → (nat_le 6 s.last && nat_le s.last 6) ≡ false → is_change_due s ≡ due
    → line_code whole s (Does act) ≡ Some (cond due WrongChange BadOrder)
unfolding act_causes
act_misplaced whole s act due here follows is = act_is whole s act ∙ at (nat_le 6 s.last && nat_le s.last 6) (is_change_due s) (s.last == 6) (is_right_in s s.latest act) due follows here is
  where
    at : (f d h r due : Bool) → f ≡ false → h ≡ false → d ≡ due → first_of (act_causes f d h r) ≡ Some (cond due WrongChange BadOrder)
    at false true false r true p q is = refl
    at false false false r false p q is = refl
    at false true false r false p q is = absurd (true≢false is)
    at false false false r true p q is = absurd (true≢false (sym is))
    at true d h r due p q is = absurd (true≢false p)
    at false d true r due p q is = absurd (true≢false q)

pub act_judged : (whole : Bool) (s : SoFar) (act : Act Edit) (right : Bool) → s.last ≡ 6 → is_right_in s s.latest act ≡ right → line_code whole s (Does act) ≡ cond right None (Some WrongShow)
unfolding act_causes
act_judged whole s act right six is = act_is whole s act ∙ (λ i. first_of (act_causes (nat_le 6 (six i) && nat_le (six i) 6) (is_change_due s) (six i == 6) (is i))) ∙ at (is_change_due s) right
  where
    at : (d r : Bool) → first_of (act_causes true d true r) ≡ cond r None (Some WrongShow)
    at true true = refl
    at true false = refl
    at false true = refl
    at false false = refl

-- ---- ledgers and the end

pub leaves_is : (whole : Bool) (s : SoFar) (place : ℕ) (ledger : Ledger)
    → line_code whole s (Leaves place ledger)
    ≡ first_of (plain_causes false (is_change_due s) (nat_le 4 s.last && nat_le s.last 8) (is_nil (ledgers_due whole s)) None (not (is_first (ledgers_due whole s) (Leaves place ledger))))
unfolding line_code
leaves_is whole s place ledger = refl

pub ends_is : (whole : Bool) (s : SoFar)
    → line_code whole s Ends ≡ first_of (plain_causes false (is_change_due s) (nat_le 4 s.last && nat_le s.last 8) false None (not (is_nil (ledgers_due whole s))))
unfolding line_code
ends_is whole s = refl

-- ---- events

pub event_is : (whole : Bool) (s : SoFar) (e : Event)
    → line_code whole s (Happens e) ≡ first_of (plain_causes false (is_change_due s) (nat_le 4 s.last && nat_le s.last 7) false (cond (is_change_due s) None (refusal_in (lock_in s) e)) false)
unfolding line_code
event_is whole s e = ap (λ f. first_of (plain_causes false (is_change_due s) f false (cond (is_change_due s) None (refusal_in (lock_in s) e)) false)) (event_follows s.last e)
