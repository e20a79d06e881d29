-- A line in which nothing is wrong: each cause by itself does not hold.
use Rattle.std.proofs.Common.{◌≡◌, Bool, false, [], ◌∷◌, Option, Some, None, refl, sym}
use Rattle.std.specs.Prelude.{option_map}
use Rattle.rtrace_form.specs.Lines.{Line}
use Rattle.rtrace_form.specs.SoFar.{SoFar}
use Rattle.rtrace_form.specs.Walks.{when, first_of}
use Rattle.rtrace_form.specs.Faults.{is_badly_declared, is_out_of_place, refused, is_wrong_change, is_wrong_act, is_wrong_ledger, line_code}
use Rattle.rtrace_form.specs.declared.fault.Code.TheVariants.{BadField, BadOrder, Refused, WrongChange, WrongShow, WrongLedger}
use Rattle.rtrace_form.specs.declared.fault.Refusal.{Refusal}
use Rattle.rtrace_form.proofs.facts.Choices.{some_none}
use Rattle.rtrace_form.proofs.facts.Walks.{when_not, or_none}

pub record IsFine (whole : Bool) (s : SoFar) (line : Line) : Type 0 where
  pub declared : is_badly_declared s line ≡ false
  pub placed : is_out_of_place whole s line ≡ false
  pub accepted : refused s line ≡ None
  pub change : is_wrong_change s line ≡ false
  pub act : is_wrong_act s line ≡ false
  pub ledger : is_wrong_ledger whole s line ≡ false

map_none : (o : Option Refusal) → option_map Refused o ≡ None → o ≡ None
map_none None h = refl
map_none (Some x) h = absurd (some_none (sym h))

pub fine_without_code : (whole : Bool) (s : SoFar) (line : Line) → line_code whole s line ≡ None → IsFine whole s line
unfolding line_code
fine_without_code whole s line h =
    let a = or_none (when (is_badly_declared s line) BadField) _ h in
    let b = or_none (when (is_out_of_place whole s line) BadOrder) _ a.1 in
    let c = or_none (option_map Refused (refused s line)) _ b.1 in
    let d = or_none (when (is_wrong_change s line) WrongChange) _ c.1 in
    let e = or_none (when (is_wrong_act s line) WrongShow) _ d.1 in
    let f = or_none (when (is_wrong_ledger whole s line) WrongLedger) _ e.1 in
    record {
      declared = when_not (is_badly_declared s line) BadField a.0;
      placed = when_not (is_out_of_place whole s line) BadOrder b.0;
      accepted = map_none (refused s line) c.0;
      change = when_not (is_wrong_change s line) WrongChange d.0;
      act = when_not (is_wrong_act s line) WrongShow e.0;
      ledger = when_not (is_wrong_ledger whole s line) WrongLedger f.0;
    }

none_of : (a b d e f : Bool) (c : Option Refusal) → a ≡ false → b ≡ false → c ≡ None → d ≡ false → e ≡ false → f ≡ false
    → first_of (when a BadField ∷ when b BadOrder ∷ option_map Refused c ∷ when d WrongChange ∷ when e WrongShow ∷ when f WrongLedger ∷ []) ≡ None
none_of a b d e f c p q r t u v = rw (p, q, r, t, u, v) refl

pub no_code_of_fine : (whole : Bool) (s : SoFar) (line : Line) → IsFine whole s line → line_code whole s line ≡ None
unfolding line_code
no_code_of_fine whole s line h = none_of _ _ _ _ _ _ h.declared h.placed h.accepted h.change h.act h.ledger
