-- What is cut and then cut again is cut.
use Rattle.std.proofs.Common.{◌≡◌, ℕ, zero, suc, ◌<◌, List, [], ◌∷◌, length, inl, inr, sym, ap, subst, ◌∙◌}
use Rattle.rtrace_form.specs.Records.{Row}
use Rattle.rshort.specs.Cut.{IsCutTimes, IsCut, AreCut, IsCutRow, AreCutRows}

times_again : (n : ℕ) (field mid cut : List ℕ) → IsCut field mid → IsCutTimes n mid cut → IsCut field cut
times_again zero field mid cut first second = subst (λ (xs : List ℕ). IsCut field xs) second first
times_again (suc n) field mid cut first second = let more = times_again n field mid second.0 first second.1 in (suc more.0, (second.0, more.1, second.2))

cut_again : (row mid cut : Row) → AreCut row mid → AreCut mid cut → AreCut row cut
cut_again [] mid cut first second = subst (λ (r : Row). AreCut r cut) first second
cut_again (x ∷ row) mid cut first second =
    let more : AreCut (first.0 ∷ first.1) cut = subst (λ (r : Row). AreCut r cut) first.2 second in
    (more.0, more.1, more.2, times_again more.3.0 x first.0 more.0 first.3 more.3.1, cut_again row first.1 more.1 first.4 more.4)

as_many : (row cut : Row) → AreCut row cut → length row ≡ length cut
as_many [] cut are = sym (ap (λ (r : Row). length r) are)
as_many (x ∷ row) cut are = ap suc (as_many row are.1 are.4) ∙ sym (ap (λ (r : Row). length r) are.2)

row_again : (row mid cut : Row) → IsCutRow row mid → IsCutRow mid cut → IsCutRow row cut
row_again row mid cut (inl first) (inl second) = inl (cut_again row mid cut first second)
row_again row mid cut (inl first) (inr many) = inr (subst (λ n. 9 < n) (sym (as_many row mid first)) many.0, many.1)
row_again row mid cut (inr many) (inl second) = inr (many.0, subst (λ n. 9 < n) (as_many mid cut second) many.1)
row_again row mid cut (inr many) (inr more) = inr (many.0, more.1)

pub rows_again : (rows mid cut : List Row) → AreCutRows rows mid → AreCutRows mid cut → AreCutRows rows cut
rows_again [] mid cut first second = subst (λ (rs : List Row). AreCutRows rs cut) first second
rows_again (row ∷ rows) mid cut first second =
    let more : AreCutRows (first.0 ∷ first.1) cut = subst (λ (rs : List Row). AreCutRows rs cut) first.2 second in
    (more.0, more.1, more.2, row_again row first.0 more.0 first.3 more.3, rows_again rows first.1 more.1 first.4 more.4)
