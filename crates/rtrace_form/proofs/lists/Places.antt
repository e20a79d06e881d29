-- What the tests of places say of a line in which nothing is wrong.
use Rattle.std.proofs.Common.{◌≡◌, ℕ, ◌≤◌, ◌<◌, Bool, true, false, not, cond, ◌&&◌, ◌||◌, ◌⊎◌, List, [], ◌∷◌, ◌++◌, refl, sym, ap, ◌∙◌, nat_le, nat_lt, inl, inr, arith, true≢false}
use Rattle.std.proofs.lemmas.Bool.{and_parts, leb-true, lt-ltb, leb-false}
use Rattle.rtrace_form.specs.Heads.{is_nil}
use Rattle.rtrace_form.specs.Lines.{Line, word_of}
use Rattle.rtrace_form.specs.SoFar.{SoFar, Stand, stands, at_ledgers}
use Rattle.rtrace_form.specs.Faults.{is_change, is_change_due, is_act_here, is_ledger_more, may_follow, is_first}
use Rattle.rtrace_form.proofs.facts.Fine.{IsFine}

in_place : (a m d : Bool) → ((not a || m) && not d) ≡ false → d ≡ false → (a ≡ true) × (m ≡ false)
in_place true true d h e = absurd (true≢false (sym (ap not e) ∙ h))
in_place true false d h e = (refl, refl)
in_place false m d h e = absurd (true≢false (sym (ap not e) ∙ h))

not_due : (d a : Bool) → (d && not a) ≡ false → a ≡ false → d ≡ false
not_due true a h e = absurd (true≢false (sym (ap not e) ∙ h))
not_due false a h e = refl

nil_is : {X : Type 0} (xs : List X) → not (is_nil xs) ≡ false → xs ≡ []
nil_is [] h = refl
nil_is (x ∷ xs) h = absurd (true≢false h)

pub is_empty : {X : Type 0} (xs : List X) → is_nil xs ≡ true → xs ≡ []
is_empty xs h = nil_is xs (ap not h)

pub is_filled : {X : Type 0} (xs : List X) (x : X) → is_nil (xs ++ x ∷ []) ≡ false
is_filled [] x = refl
is_filled (y ∷ xs) x = refl

plain_case : (c d f a : Bool) → cond c (not (d && f)) (d && not a) ≡ false → c ≡ false → (d && not a) ≡ false
plain_case true d f a h e = absurd (true≢false e)
plain_case false d f a h e = h

second_false : (a b : Bool) → (a && b) ≡ false → a ≡ true → b ≡ false
second_false true b h e = h
second_false false b h e = absurd (true≢false (sym e))

-- where the last line is among these
pub record IsBetween (s : SoFar) (stand : Stand) : Type 0 where
  pub low : stand.least ≤ s.last
  pub high : s.last ≤ stand.most

-- no change is due
pub no_change : (s : SoFar) → is_change_due s ≡ false → s.last < 8 → s.due ≡ []
no_change s none early = nil_is s.due (second_false (nat_lt s.last at_ledgers) (not (is_nil s.due)) none (lt-ltb s.last 8 early))

module _ (whole : Bool) (s : SoFar) (line : Line) (fine : IsFine whole s line) where
  -- a line that is neither a change nor an act, in its place, comes where no change is due
  pub none_due : is_change line ≡ false → is_act_here s line ≡ false → is_change_due s ≡ false
  none_due plain idle = not_due (is_change_due s) (is_act_here s line) (plain_case (is_change line) (is_change_due s) (is_first s.due line) (is_act_here s line) fine.change plain) idle

  pub placed : is_change_due s ≡ false → IsBetween s (stands (word_of line)) × (is_ledger_more whole s line ≡ false)
  placed none =
      let parts = in_place (may_follow s.last (stands (word_of line))) (is_ledger_more whole s line) (is_change_due s) fine.placed none in
      let both = and_parts (nat_le (stands (word_of line)).least s.last) (nat_le s.last (stands (word_of line)).most) parts.0 in
      (record { low = leb-true (stands (word_of line)).least s.last both.0; high = leb-true s.last (stands (word_of line)).most both.1 }, parts.1)

-- a number is at most five, or six and more
pub up_to_five : (n : ℕ) → (n ≤ 5) ⊎ (6 ≤ n)
up_to_five n = at (nat_le n 5) refl
  where
    at : (b : Bool) → nat_le n 5 ≡ b → (n ≤ 5) ⊎ (6 ≤ n)
    at true e = inl (leb-true n 5 e)
    at false e = let more = leb-false n 5 e in inr (omega arith)
