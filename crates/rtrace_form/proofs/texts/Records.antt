-- Each text has one list of records.
use Rattle.std.proofs.Common.{◌≡◌, ℕ, zero, suc, ◌-◌, ◌≤◌, true, false, cond, List, [], ◌∷◌, ◌++◌, length, Option, Some, None, refl, sym, ap, subst, ◌∙◌, arith}
use Rattle.std.proofs.lemmas.Bool.{false≢true}
use Rattle.std.specs.Prelude.{unwrap_or, is_none}
use Rattle.csv.specs.Machine.{Read, next_record, ends_at_end, is_end, step, fields_after, field_after}
use Rattle.csv.specs.Reading.{AreRecords, Reached}
use Rattle.csv.specs.declared.parser.Config.{Config}
use Rattle.csv.specs.declared.parser.State.{State}
use Rattle.rtrace_form.specs.Records.{Row}
use Rattle.csv.specs.declared.parser.State.TheVariants as st

some_is : {X : Type 0} {x y : X} → Some x ≡ Some y → x ≡ y
some_is {x = x} e = ap (λ o. unwrap_or o x) e

some_none : {X : Type 0} {x : X} → ◌≡◌ {A = Option X} (Some x) None → ⊥
some_none e = false≢true (ap is_none e)

-- a record that was read took a byte, where there was one
shorter : (cfg : Config) (s : State) (fields : Row) (field xs : List ℕ) (p : Read) → next_record cfg s fields field xs ≡ Some p → length p.2 ≤ length xs - 1
unfolding next_record
shorter cfg s fields field [] p e =
    elim (ends_at_end s) as (λ b. cond b (Some (fields ++ (field ∷ []), st.StartRecord, [])) None ≡ Some p → length p.2 ≤ 0) [
      | true ↦ λ e. let is : [] ≡ p.2 = ap (λ (q : Read). q.2) (some_is e) in let size = ap length is in omega arith
      | false ↦ λ e. absurd (some_none (sym e))
    ] e
shorter cfg s fields field (c ∷ rest) p e =
    elim (is_end (step cfg s c).1) as (λ b. cond b (Some (fields_after (step cfg s c).1 fields field, (step cfg s c).0, rest)) (next_record cfg (step cfg s c).0 (fields_after (step cfg s c).1 fields field) (field_after (step cfg s c).1 c field) rest) ≡ Some p → length p.2 ≤ length (c ∷ rest) - 1) [
      | true ↦ λ e. let is : rest ≡ p.2 = ap (λ (q : Read). q.2) (some_is e) in let size = ap length is in omega arith
      | false ↦ λ e. let less = shorter cfg (step cfg s c).0 _ _ rest p e in omega arith
    ] e

-- at the end of a text one more record may end, and then none
last_state : (cfg : Config) (s : State) (p : Read) → next_record cfg s [] [] [] ≡ Some p → next_record cfg p.1 [] [] p.2 ≡ None
unfolding next_record
last_state cfg s p e =
    elim (ends_at_end s) as (λ b. cond b (Some ([] ++ ([] ∷ []), st.StartRecord, [])) None ≡ Some p → next_record cfg p.1 [] [] p.2 ≡ None) [
      | true ↦ λ e. ap (λ (q : Read). next_record cfg q.1 [] [] q.2) (sym (some_is e))
      | false ↦ λ e. absurd (some_none (sym e))
    ] e

-- the records after one that was read
more_rows : (cfg : Config) (s : State) (xs : List ℕ) (p : Read) → next_record cfg s [] [] xs ≡ Some p → (rows : List Row) × AreRecords cfg p.1 p.2 rows → (rows : List Row) × AreRecords cfg s xs rows
unfolding Reached
more_rows cfg s xs p e later = (p.0 ∷ later.0, (later.1.0, later.1.1, (p, e, refl, later.1.2), later.1.3))

no_row : (cfg : Config) (s : State) (xs : List ℕ) → next_record cfg s [] [] xs ≡ None → (rows : List Row) × AreRecords cfg s xs rows
unfolding Reached
no_row cfg s xs e = ([], (s, xs, (refl, refl), e))

no_bytes : (xs : List ℕ) → length xs ≤ 0 → xs ≡ []
no_bytes [] h = refl
no_bytes (x ∷ xs) h = absurd (omega arith)

rows_within : (n : ℕ) (cfg : Config) (s : State) (xs : List ℕ) → length xs ≤ n → (rows : List Row) × AreRecords cfg s xs rows
rows_within zero cfg s xs fits =
    elim (next_record cfg s [] [] xs) as (λ o. next_record cfg s [] [] xs ≡ o → (rows : List Row) × AreRecords cfg s xs rows) [
      | None ↦ λ e. no_row cfg s xs e
      | Some p ↦ λ e. more_rows cfg s xs p e (no_row cfg p.1 p.2 (last_state cfg s p (ap (next_record cfg s [] []) (sym (no_bytes xs fits)) ∙ e)))
    ] refl
rows_within (suc n) cfg s xs fits =
    elim (next_record cfg s [] [] xs) as (λ o. next_record cfg s [] [] xs ≡ o → (rows : List Row) × AreRecords cfg s xs rows) [
      | None ↦ λ e. no_row cfg s xs e
      | Some p ↦ λ e. let less = shorter cfg s [] [] xs p e in more_rows cfg s xs p e (rows_within n cfg p.1 p.2 (omega arith))
    ] refl

-- the records of a text from a state
pub rows_exist : (cfg : Config) (s : State) (xs : List ℕ) → (rows : List Row) × AreRecords cfg s xs rows
rows_exist cfg s xs = rows_within (length xs) cfg s xs (omega arith)

-- there is one list of them
pub rows_unique : (cfg : Config) (s : State) (xs : List ℕ) (rows more : List Row) → AreRecords cfg s xs rows → AreRecords cfg s xs more → rows ≡ more
unfolding Reached
rows_unique cfg s xs [] [] a b = refl
rows_unique cfg s xs [] (r ∷ more) a b = absurd (some_none (sym b.2.1 ∙ (λ i. next_record cfg (a.2.0 i) [] [] (a.2.1 i)) ∙ a.3))
rows_unique cfg s xs (r ∷ rows) [] a b = absurd (some_none (sym a.2.1 ∙ (λ i. next_record cfg (b.2.0 i) [] [] (b.2.1 i)) ∙ b.3))
rows_unique cfg s xs (r ∷ rows) (q ∷ more) a b =
    let same : a.2.0 ≡ b.2.0 = some_is (sym a.2.1 ∙ b.2.1) in
    let head : r ≡ q = a.2.2 ∙ ap (λ (p : Read). p.0) same ∙ sym b.2.2 in
    let tail : rows ≡ more = rows_unique cfg a.2.0.1 a.2.0.2 rows more (a.0, a.1, a.2.3, a.3)
    (subst (λ (p : Read). AreRecords cfg p.1 p.2 more) (sym same) (b.0, b.1, b.2.3, b.3)) in
    (λ i. head i ∷ tail i)

-- records that were read, one that comes next, and all that follow
pub rows_around : (cfg : Config) (s t : State) (xs ys : List ℕ) (before : List Row) (p : Read) → Reached cfg s xs before t ys → next_record cfg t [] [] ys ≡ Some p
    → (rest : List Row) × AreRecords cfg s xs (before ++ p.0 ∷ rest)
unfolding Reached
rows_around cfg s t xs ys [] p reached next =
    let later = rows_exist cfg p.1 p.2 in
    let at : next_record cfg s [] [] xs ≡ Some p = (λ i. next_record cfg (reached.0 i) [] [] (reached.1 i)) ∙ next in
    (later.0, (later.1.0, later.1.1, (p, at, refl, later.1.2), later.1.3))
rows_around cfg s t xs ys (r ∷ before) p reached next =
    let later = rows_around cfg reached.0.1 t reached.0.2 ys before p reached.3 next in
    (later.0, (later.1.0, later.1.1, (reached.0, reached.1, reached.2, later.1.2), later.1.3))
