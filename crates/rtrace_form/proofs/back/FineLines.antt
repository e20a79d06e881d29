-- Lines in which nothing is wrong.
use Rattle.std.proofs.Common.{◌≡◌, ◌≤◌, Bool, true, false, not, cond, ◌&&◌, ◌||◌, List, [], None, refl, ap, ◌∙◌, nat_lt}
use Rattle.std.proofs.lemmas.Bool.{le-leb, and_from}
use Rattle.rtrace_form.specs.Heads.{is_nil}
use Rattle.rtrace_form.specs.Lines.{Line, word_of}
use Rattle.rtrace_form.specs.SoFar.{SoFar, stands, at_ledgers}
use Rattle.rtrace_form.specs.Faults.{is_change, is_change_due, is_act_here, is_first, is_badly_declared, is_out_of_place, is_ledger_more, may_follow, refused, is_wrong_act, is_wrong_ledger}
use Rattle.rtrace_form.proofs.facts.Fine.{IsFine}

pub and_false : (b : Bool) → (b && false) ≡ false
and_false true = refl
and_false false = refl

pub quiet : (s : SoFar) → s.due ≡ [] → is_change_due s ≡ false
quiet s none = ap (λ (due : List Line). nat_lt s.last at_ledgers && not (is_nil due)) none ∙ and_false (nat_lt s.last at_ledgers)

not_wrong : (c d f a : Bool) → c ≡ false → d ≡ false → cond c (not (d && f)) (d && not a) ≡ false
not_wrong true d f a p q = ap (λ b. cond b (not (d && f)) (d && not a)) p ∙ ap (λ b. b && not a) q
not_wrong false d f a p q = ap (λ b. b && not a) q

in_order : (m l d : Bool) → m ≡ true → l ≡ false → ((not m || l) && not d) ≡ false
in_order m l d p q = rw (p, q) refl

pub follows : (whole : Bool) (s : SoFar) (line : Line) → (stands (word_of line)).least ≤ s.last → s.last ≤ (stands (word_of line)).most → is_ledger_more whole s line ≡ false → is_out_of_place whole s line ≡ false
follows whole s line low high more =
    in_order (may_follow s.last (stands (word_of line))) (is_ledger_more whole s line) (is_change_due s)
    (and_from _ _ (le-leb (stands (word_of line)).least s.last low) (le-leb s.last (stands (word_of line)).most high)) more

-- a line that is no change, in its place where none is due
pub plain_fine : (whole : Bool) (s : SoFar) (line : Line) → s.due ≡ [] → is_change line ≡ false
    → (stands (word_of line)).least ≤ s.last → s.last ≤ (stands (word_of line)).most → is_ledger_more whole s line ≡ false
    → is_badly_declared s line ≡ false → refused s line ≡ None → is_wrong_act s line ≡ false → is_wrong_ledger whole s line ≡ false → IsFine whole s line
plain_fine whole s line none plain low high more declared accepted act ledger = record {
  declared = declared;
  placed = follows whole s line low high more;
  accepted = accepted;
  change = not_wrong (is_change line) (is_change_due s) (is_first s.due line) (is_act_here s line) plain (quiet s none);
  act = act;
  ledger = ledger;
}
