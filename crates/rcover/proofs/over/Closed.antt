-- What is over of a write wait, by the heads of the write at two moments.
use Rattle.std.proofs.Common.{◌≡◌, Bool, true, false, not, ◌&&◌, cond, List, [], ◌∷◌, ◌++◌, refl, ap, ◌∙◌}
use Rattle.rclaim.specs.declared.claim.Claim.{Claim}
use Rattle.rcover_laws.specs.Lists.{reads_against, with_option}
use Rattle.rcover_laws.specs.Moments.{Moment, is_claim}
use Rattle.rcover_laws.specs.Sections.{Sections}
use Rattle.rcover_laws.proofs.runs.Moments.{is_itself}
use Rattle.rcover.specs.declared.lines.Head.{Head}
use Rattle.rcover.specs.Last.{first_at}
use Rattle.rcover.specs.Lines.{head_of}
use Rattle.rcover.specs.Shown.{closed_by}
use Rattle.rcover.specs.Tracked.{keeper_at, read_closed_if, gone_on}

-- sections with these claims
abbrev pub made_of : List Claim → List Claim → Sections
made_of reads writes = record { reads = reads; writes = writes }

either : (b : Bool) (r : List Claim) → cond b r r ≡ r
either true r = refl
either false r = refl

module _ (h g : Head) (a : Sections) (m : Moment) where
  abbrev with_read : List Claim
  with_read = with_option a.reads (first_at (reads_against h.claim) m)

  abbrev with_least : List Claim
  with_least = a.writes ++ h.claim ∷ []

  abbrev on : Bool
  on = is_claim h.claim g.claim && not g.holds

  abbrev one : Bool
  one = is_claim h.claim g.claim

  -- of a least claim that was satisfied
  pub held_closed : h.holds ≡ true → closed_by h a m g ≡ made_of a.reads (cond (is_claim h.claim g.claim) a.writes (a.writes ++ h.claim ∷ []))
  held_closed held = (λ i. made_of (cond on a.reads (cond (held i) a.reads with_read)) (cond one a.writes (cond (held i) with_least a.writes))) ∙ ap (λ r. made_of r (cond one a.writes with_least)) (either on a.reads)

  -- of a least claim whose period goes on
  pub going_closed : h.holds ≡ false → (is_claim h.claim g.claim && not g.holds) ≡ true → closed_by h a m g ≡ a
  going_closed open_still goes = (λ i. made_of (cond (goes i) a.reads (cond h.holds a.reads with_read)) (cond one a.writes (cond (open_still i) with_least a.writes))) ∙ ap (made_of a.reads) (either one a.writes)

  -- of a least claim whose period is over
  pub over_closed : h.holds ≡ false → (is_claim h.claim g.claim && not g.holds) ≡ false → closed_by h a m g ≡ made_of (with_option a.reads (first_at (reads_against h.claim) m)) a.writes
  over_closed open_still over = (λ i. made_of (cond (over i) a.reads (cond (open_still i) a.reads with_read)) (cond one a.writes (cond (open_still i) with_least a.writes))) ∙ ap (made_of with_read) (either one a.writes)

-- of a least claim that came to be satisfied
pub risen_closed : (h g : Head) (a : Sections) (m : Moment) → h ≡ record { claim = g.claim; holds = false } → g.holds ≡ true → closed_by h a m g ≡ made_of (with_option a.reads (first_at (reads_against g.claim) m)) a.writes
risen_closed h g a m was holds =
    ap (λ (k : Head). closed_by k a m g) was
    ∙ over_closed (let k : Head = record { claim = g.claim; holds = false } in k) g a m refl (at (is_claim g.claim g.claim) g.holds holds)
  where
    at : (b d : Bool) → d ≡ true → (b && not d) ≡ false
    at true d is = ap not is
    at false d is = refl

-- if the head is the same, nothing is over
pub same_closed : (h g : Head) (a : Sections) (m : Moment) → g ≡ h → closed_by h a m g ≡ a
same_closed h g a m same = ap (λ (k : Head). closed_by h a m k) same ∙ at h.holds (is_claim h.claim h.claim) (is_itself h.claim)
  where
    at : (b d : Bool) → d ≡ true → made_of (cond (d && not b) a.reads (cond b a.reads (with_option a.reads (first_at (reads_against h.claim) m)))) (cond d a.writes (cond b (a.writes ++ h.claim ∷ []) a.writes)) ≡ a
    at true d is = λ i. made_of (cond (is i && false) a.reads a.reads) (cond (is i) a.writes (a.writes ++ h.claim ∷ []))
    at false d is = λ i. made_of (cond (is i && true) a.reads (with_option a.reads (first_at (reads_against h.claim) m))) (cond (is i) a.writes a.writes)

-- what goes on of a write is what is over by its heads
pub write_gone_on : (m n : Moment) (c : Claim) (a : Sections) → c.write_half ≡ true → gone_on c a m n ≡ closed_by (head_of m c) a m (head_of n c)
write_gone_on m n c a write = ap (λ b. cond b (closed_by (head_of m c) a m (head_of n c)) (read_closed_if (keeper_at c m) a m n)) write
