-- A text whose gaps are filled, one after another.
use Rattle.std.proofs.Common.{◌≡◌, ℕ, ◌+◌, ◌-◌, ◌≤◌, ◌<◌, Option, List, [], ◌∷◌, ◌++◌, take, drop, length, get_or, Some, None, sym, ap, subst, ◌∙◌, arith, append_assoc}
use Rattle.std.specs.Prelude.{slice_get}
use Rattle.std.proofs.lemmas.List.{append-nil, take_more, drop_more, length-take-le, take-append-drop, take-append-le, drop-take}
use Rattle.std.proofs.lemmas.Option.{get_or_from_slice_get}
use Rattle.std.proofs.Math.Seq.{take-length}
use Rattle.rbound.specs.Bounds.{Numbers}
use Rattle.rtrace_write.specs.Waits.{bound_text}
use Rattle.rtrace_write.specs.Gaps.{solid, with_gaps, AreRising, filled}
use Rattle.rtrace_write.proofs.Gaps.{rising_le, gaps-append, gaps-push, gaps_are, filled-solid, filled-whole, filled-append}

-- a part of a text, as a range takes it
pub part_is : (from to : ℕ) (bytes : List ℕ) → from ≤ to → take (to - from) (drop from bytes) ≡ drop from (take to bytes)
part_is from to bytes le = sym (drop-take from (to - from) bytes) ∙ ap (λ n. drop from (take n bytes)) (omega (arith, le))

-- and the last part
pub rest_is : (from : ℕ) (bytes : List ℕ) → from ≤ length bytes → take (length bytes - from) (drop from bytes) ≡ drop from bytes
rest_is from bytes le = part_is from (length bytes) bytes le ∙ ap (λ (xs : List ℕ). drop from xs) (take-length bytes)

module _ (bounds : List Numbers) (gaps bytes : List ℕ) where
  -- so many gaps were filled, up to this place of the text
  pub record IsFilled (i at : ℕ) (sofar : List ℕ) : Type 0 where
    pub before : AreRising 0 (take i gaps) at
    pub behind : AreRising at (drop i gaps) (length bytes)
    pub text : sofar ≡ filled (take i bounds) (with_gaps 0 (take i gaps) (take at bytes))

  pub none_filled : AreRising 0 gaps (length bytes) → IsFilled 0 0 []
  none_filled rising = record { before = omega arith; behind = rising; text = λ i. [] }

  -- what is after a part of the text, up to a later place
  part : (at to : ℕ) → at ≤ to → to ≤ length bytes → take to bytes ≡ take at bytes ++ drop at (take to bytes)
  part at to le within =
      let same : take at (take to bytes) ≡ take at bytes =
      sym (take-append-le at (take to bytes) (drop to bytes) (omega (arith, le, length-take-le to bytes within))) ∙ ap (λ (xs : List ℕ). take at xs) (take-append-drop to bytes) in
      sym (take-append-drop at (take to bytes)) ∙ ap (λ (xs : List ℕ). xs ++ drop at (take to bytes)) same

  -- the bounds and the gaps so far are as many
  as_many : (i at : ℕ) → length bounds ≡ length gaps → i ≤ length gaps → length (take i gaps) ≡ length (take i bounds)
  as_many i at each le = length-take-le i gaps le ∙ sym (length-take-le i bounds (omega (arith, each, le)))

  module _ (each : length bounds ≡ length gaps) (i at : ℕ) (sofar : List ℕ) (so : IsFilled i at sofar) where
    abbrev text : List (Option ℕ)
    text = with_gaps 0 (take i gaps) (take at bytes)

    -- the next gap is after what was filled, and within the text
    pub next_gap : i < length gaps → AreRising at (get_or gaps i 0 ∷ drop (i + 1) gaps) (length bytes)
    next_gap within = subst (λ (places : List ℕ). AreRising at places (length bytes)) (drop_more gaps i 0 within) so.behind

    pub gap_within : i < length gaps → (at ≤ get_or gaps i 0) × (get_or gaps i 0 ≤ length bytes)
    gap_within within = ((next_gap within).0, rising_le (get_or gaps i 0) (drop (i + 1) gaps) (length bytes) (next_gap within).1)

    pub end_within : at ≤ length bytes
    end_within = rising_le at (drop i gaps) (length bytes) so.behind

    -- one more gap
    pub fill_more : (b : Numbers) (now : List ℕ) → i < length gaps → slice_get bounds i ≡ Some b
        → now ≡ sofar ++ (drop at (take (get_or gaps i 0) bytes) ++ bound_text b) → IsFilled (i + 1) (get_or gaps i 0) now
    fill_more b now within bound grown =
        let gap = get_or gaps i 0 in
        let le = (gap_within within).0 in
        let inside = (gap_within within).1 in
        let piece = drop at (take gap bytes) in
        let front : length (take at bytes) ≡ at = length-take-le at bytes end_within in
        let long : length (take gap bytes) ≡ gap = length-take-le gap bytes inside in
        let places : take (i + 1) gaps ≡ take i gaps ++ gap ∷ [] = take_more gaps i 0 within in
        let some : take (i + 1) bounds ≡ take i bounds ++ b ∷ [] =
        take_more bounds i b (omega (arith, each, within)) ∙ ap (λ (x : Numbers). take i bounds ++ x ∷ []) (get_or_from_slice_get bounds i b b bound) in
        let rising : AreRising 0 (take i gaps) (length (take at bytes)) = subst (λ n. AreRising 0 (take i gaps) n) (sym front) so.before in
        let laid : with_gaps 0 (take (i + 1) gaps) (take gap bytes) ≡ text ++ (solid piece ++ None ∷ []) =
        ap (λ (ps : List ℕ). with_gaps 0 ps (take gap bytes)) (places ∙ ap (λ n. take i gaps ++ n ∷ []) (sym long))
        ∙ gaps-push 0 (take i gaps) (take gap bytes)
        ∙ ap (λ (bs : List ℕ). with_gaps 0 (take i gaps) bs ++ None ∷ []) (part at gap le inside)
        ∙ ap (λ (t : List (Option ℕ)). t ++ None ∷ []) (gaps-append 0 (take i gaps) (take at bytes) piece rising)
        ∙ append_assoc text (solid piece) (None ∷ []) in
        let many = gaps_are 0 (take i gaps) (take at bytes) ∙ as_many i at each (omega (arith, within)) in
        record {
          before = subst (λ (ps : List ℕ). AreRising 0 ps gap) (sym places) (rising_push_to 0 (take i gaps) at gap le so.before);
          behind = (next_gap within).1;
          text = grown
              ∙ ap (λ (t : List ℕ). t ++ (piece ++ bound_text b)) so.text
              ∙ ap (λ (t : List ℕ). filled (take i bounds) text ++ (piece ++ t)) (sym (append-nil (bound_text b)))
              ∙ ap (λ (t : List ℕ). filled (take i bounds) text ++ t) (sym (filled-solid (b ∷ []) piece (None ∷ [])))
              ∙ sym (filled-append (take i bounds) (b ∷ []) text (solid piece ++ None ∷ []) many)
              ∙ (λ k. filled (sym some k) (sym laid k));
        }
      where
        rising_push_to : (from : ℕ) (places : List ℕ) (end to : ℕ) → end ≤ to → AreRising from places end → AreRising from (places ++ to ∷ []) to
        rising_push_to from [] end to le rising = (omega (arith, le, rising), omega arith)
        rising_push_to from (place ∷ places) end to le rising = (rising.0, rising_push_to place places end to le rising.1)

    -- all gaps, and what is after the last
    pub fill_end : (now : List ℕ) → i ≡ length gaps → now ≡ sofar ++ drop at bytes → now ≡ filled bounds (with_gaps 0 gaps bytes)
    fill_end now all grown =
        let front : length (take at bytes) ≡ at = length-take-le at bytes end_within in
        let rising : AreRising 0 (take i gaps) (length (take at bytes)) = subst (λ n. AreRising 0 (take i gaps) n) (sym front) so.before in
        let places : take i gaps ≡ gaps = ap (λ n. take n gaps) all ∙ take-length gaps in
        let some : take i bounds ≡ bounds = ap (λ n. take n bounds) (all ∙ sym each) ∙ take-length bounds in
        let many = gaps_are 0 (take i gaps) (take at bytes) ∙ as_many i at each (omega (arith, all)) in
        grown
        ∙ ap (λ (t : List ℕ). t ++ drop at bytes) so.text
        ∙ ap (λ (t : List ℕ). filled (take i bounds) text ++ t) (sym (filled-whole [] (drop at bytes)))
        ∙ sym (filled-append (take i bounds) [] text (solid (drop at bytes)) many)
        ∙ (λ k. filled (append-nil (take i bounds) k) (sym (gaps-append 0 (take i gaps) (take at bytes) (drop at bytes) rising) k))
        ∙ (λ k. filled (some k) (with_gaps 0 (places k) (take-append-drop at bytes k)))
