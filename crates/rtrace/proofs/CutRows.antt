-- Cut records, taken apart and joined.
use Rattle.std.proofs.Common.{◌≡◌, suc, ◌^◌, ◌<◌, List, [], ◌∷◌, ◌++◌, length, inl, refl, sym, ap, subst, ◌∙◌}
use Rattle.rtrace_form.specs.Records.{Row}
use Rattle.rshort.specs.Cut.{AreCutRows, IsCutRow}
use Rattle.rshort.proofs.Texts.{are_themselves}

pub none_some : {row : Row} {rows : List Row} → ◌≡◌ {A = List Row} (row ∷ rows) [] → ⊥
none_some e = cc

-- after the same records
pub rows_joined : (first rows cut : List Row) → AreCutRows rows cut → AreCutRows (first ++ rows) (first ++ cut)
rows_joined [] rows cut are = are
rows_joined (row ∷ first) rows cut are = (row, first ++ cut, refl, inl (are_themselves row), rows_joined first rows cut are)

pub as_many : (rows cut : List Row) → AreCutRows rows cut → length rows ≡ length cut
as_many [] cut are = sym (ap (λ (rs : List Row). length rs) are)
as_many (row ∷ rows) cut are = ap suc (as_many rows are.1 are.4) ∙ sym (ap (λ (rs : List Row). length rs) are.2)

pub few_more : (rows cut : List Row) → AreCutRows rows cut → length cut < 2 ^ 62 → length rows < 2 ^ 62
few_more rows cut are few = subst (λ n. n < 2 ^ 62) (sym (as_many rows cut are)) few

-- the records of which these parts were cut
pub record IsSplit (first second rows : List Row) : Type 0 where
  pub front : List Row
  pub back : List Row
  pub both : rows ≡ front ++ back
  pub front_cut : AreCutRows front first
  pub back_cut : AreCutRows back second
  pub many : length front ≡ length first

split_more : (x : Row) (first second : List Row) (row : Row) (rows : List Row) → IsCutRow row x → IsSplit first second rows → IsSplit (x ∷ first) second (row ∷ rows)
split_more x first second row rows is s = record {
  front = row ∷ s.front;
  back = s.back;
  both = ap (λ (rs : List Row). row ∷ rs) s.both;
  front_cut = (x, first, refl, is, s.front_cut);
  back_cut = s.back_cut;
  many = ap suc s.many;
}

-- the first of some records, and those after it
first_of : Row → List Row → Row
first_of x [] = x
first_of x (row ∷ rows) = row

rest_of : List Row → List Row
rest_of [] = []
rest_of (row ∷ rows) = rows

pub rows_split : (first second rows : List Row) → AreCutRows rows (first ++ second) → IsSplit first second rows
unfolding first_of rest_of
rows_split [] second rows are = record { front = []; back = rows; both = refl; front_cut = refl; back_cut = are; many = refl }
rows_split (x ∷ first) second [] are = absurd (none_some are)
rows_split (x ∷ first) second (row ∷ rows) are =
    split_more x first second row rows (subst (IsCutRow row) (sym (ap (first_of x) are.2)) are.3) (rows_split first second rows (subst (AreCutRows rows) (sym (ap rest_of are.2)) are.4))
