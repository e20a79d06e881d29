-- A text may be cut before the end of a line that stands outside quotation marks: its records are those of both parts.
use Rattle.std.proofs.Common.{◌≡◌, ℕ, ◌==◌, Bool, true, false, ◌||◌, cond, List, [], ◌∷◌, ◌++◌, Option, Some, None, ◌⊎◌, inl, inr, refl, sym, ap, subst, ◌∙◌}
use Rattle.csv.specs.Machine.{Read, next_record, is_end, step, start_record, start_field, in_field, fields_after, field_after}
use Rattle.csv.specs.Reading.{AreRecords, Reached, default_config}
use Rattle.csv.specs.declared.parser.Action.{Action}
use Rattle.csv.specs.declared.parser.Action.TheVariants as act
use Rattle.csv.specs.declared.parser.State.{State}
use Rattle.csv.specs.declared.parser.State.TheVariants as st
use Rattle.rtrace_form.specs.Records.{Row}
use Rattle.rtrace_form.proofs.facts.Choices.{some_none}
use Rattle.rshort.specs.Closed.{state_after, IsOutside}

-- between two records
abbrev IsBetween : State → Type 0
IsBetween st.StartRecord = Unit {0}
IsBetween st.AfterCr = Unit {0}
IsBetween _ = ⊥

-- where a reader may stand: between two records nothing is at hand
abbrev Fits : State → Row → List ℕ → Type 0
Fits st.StartRecord row field = (row ≡ []) × (field ≡ [])
Fits st.AfterCr row field = (row ≡ []) × (field ≡ [])
Fits st.StartField row field = Unit {0}
Fits st.InField row field = Unit {0}
Fits st.InQuoted row field = Unit {0}
Fits st.AfterQuote row field = Unit {0}
Fits _ row field = ⊥

-- what a byte leads to
abbrev Leads : ℕ → Row → List ℕ → State × Action → Type 0
Leads c row field q = cond (is_end q.1) (IsBetween q.0) (Fits q.0 (fields_after q.1 row field) (field_after q.1 c field))

in_leads : (row : Row) (field : List ℕ) (c : ℕ) → Leads c row field (in_field default_config c)
in_leads row field c =
    elim (c == 44) as (λ t. Leads c row field (cond t (st.StartField, act.EndField) (cond ((c == 13) || (c == 10)) (cond (c == 13) st.AfterCr st.StartRecord, act.EndRecord) (st.InField, act.Copy)))) [
      | true ↦ tt
      | false ↦ elim (c == 13) as (λ t. Leads c row field (cond (t || (c == 10)) (cond t st.AfterCr st.StartRecord, act.EndRecord) (st.InField, act.Copy))) [
        | true ↦ tt
        | false ↦ elim (c == 10) as (λ t. Leads c row field (cond t (st.StartRecord, act.EndRecord) (st.InField, act.Copy))) [
          | true ↦ tt
          | false ↦ tt
        ]
      ]
    ]

start_leads : (row : Row) (field : List ℕ) (c : ℕ) → Leads c row field (start_field default_config c)
start_leads row field c = elim (c == 34) as (λ t. Leads c row field (cond t (st.InQuoted, act.Skip) (in_field default_config c))) [
  | true ↦ tt
  | false ↦ in_leads row field c
]

record_leads : (row : Row) (field : List ℕ) (c : ℕ) → (row ≡ []) × (field ≡ []) → Leads c row field (start_record default_config c)
record_leads row field c none = elim ((c == 13) || (c == 10)) as (λ t. Leads c row field (cond t (st.StartRecord, act.Skip) (start_field default_config c))) [
  | true ↦ none
  | false ↦ start_leads row field c
]

leads : (s : State) (row : Row) (field : List ℕ) (c : ℕ) → Fits s row field → Leads c row field (step default_config s c)
leads st.StartRecord row field c fits = record_leads row field c fits
leads st.StartField row field c fits = start_leads row field c
leads st.InField row field c fits = in_leads row field c
leads st.InQuoted row field c fits = elim (c == 34) as (λ t. Leads c row field (cond t (st.AfterQuote, act.Skip) (st.InQuoted, act.Copy))) [
  | true ↦ tt
  | false ↦ tt
]
leads st.AfterQuote row field c fits = elim (c == 34) as (λ t. Leads c row field (cond t (st.InQuoted, act.Copy) (in_field default_config c))) [
  | true ↦ tt
  | false ↦ in_leads row field c
]
leads st.AfterCr row field c fits = elim (c == 10) as (λ t. Leads c row field (cond t (st.StartRecord, act.Skip) (start_record default_config c))) [
  | true ↦ fits
  | false ↦ record_leads row field c fits
]
leads st.InEscape row field c fits = absurd fits
leads st.InComment row field c fits = absurd fits

-- between two records the same is read
either_end : (c : ℕ) (t : Bool) → cond (t || true) (st.StartRecord, act.Skip) (start_field default_config c) ≡ (st.StartRecord, act.Skip)
either_end c true = refl
either_end c false = refl

cr_by : (c : ℕ) (b : Bool) → (c == 10) ≡ b → cond (c == 10) (st.StartRecord, act.Skip) (start_record default_config c) ≡ start_record default_config c
cr_by c false h = ap (λ (t : Bool). cond t (st.StartRecord, act.Skip) (start_record default_config c)) h
cr_by c true h =
    ap (λ (t : Bool). cond t (st.StartRecord, act.Skip) (start_record default_config c)) h
    ∙ sym (ap (λ (t : Bool). cond ((c == 13) || t) (st.StartRecord, act.Skip) (start_field default_config c)) h ∙ either_end c (c == 13))

cr_step : (c : ℕ) → step default_config st.AfterCr c ≡ step default_config st.StartRecord c
cr_step c = cr_by c (c == 10) refl

between_same : (s : State) (ys : List ℕ) → IsBetween s → next_record default_config s [] [] ys ≡ next_record default_config st.StartRecord [] [] ys
unfolding next_record
between_same st.StartRecord ys at = refl
between_same st.AfterCr [] at = refl
between_same st.AfterCr (c ∷ ys) at =
    ap (λ (q : State × Action). cond (is_end q.1) (Some (fields_after q.1 [] [], q.0, ys)) (next_record default_config q.0 (fields_after q.1 [] []) (field_after q.1 c []) ys)) (cr_step c)
between_same st.StartField ys at = absurd at
between_same st.InField ys at = absurd at
between_same st.InQuoted ys at = absurd at
between_same st.AfterQuote ys at = absurd at
between_same st.InEscape ys at = absurd at
between_same st.InComment ys at = absurd at

-- the end of a line, and where it leads after a record
record IsLineEnd (e : ℕ) (t : State) : Type 0 where
  skips : step default_config st.StartRecord e ≡ (st.StartRecord, act.Skip)
  skips_cr : step default_config st.AfterCr e ≡ (st.StartRecord, act.Skip)
  start : step default_config st.StartField e ≡ (t, act.EndRecord)
  bare : step default_config st.InField e ≡ (t, act.EndRecord)
  quoted : step default_config st.AfterQuote e ≡ (t, act.EndRecord)
  between : IsBetween t

module _ (e : ℕ) (t : State) (line : IsLineEnd e t) (ys : List ℕ) where
  -- what is read of a text alone, and of the same with the end of a line and `ys` after it
  abbrev Ends : Option Read → Option Read → Type 0
  Ends None more = more ≡ next_record default_config st.StartRecord [] [] ys
  Ends (Some r) more =
      ((more ≡ Some (r.0, r.1, r.2 ++ e ∷ ys)) × IsBetween r.1 × IsOutside (state_after r.1 r.2)) ⊎ ((r.1 ≡ st.StartRecord) × (r.2 ≡ []) × (more ≡ Some (r.0, t, ys)))

  -- what the end of a line does
  after : Row → List ℕ → State × Action → Option Read
  unfolding next_record
  after row field q = cond (is_end q.1) (Some (fields_after q.1 row field, q.0, ys)) (next_record default_config q.0 (fields_after q.1 row field) (field_after q.1 e field) ys)

  at_end : (s : State) (row : Row) (field : List ℕ) → Fits s row field → IsOutside s → Ends (next_record default_config s row field []) (next_record default_config s row field (e ∷ ys))
  unfolding next_record after
  at_end st.StartRecord row field fits out = ap (after row field) line.skips ∙ (λ i. next_record default_config st.StartRecord (fits.0 i) (fits.1 i) ys)
  at_end st.AfterCr row field fits out = ap (after row field) line.skips_cr ∙ (λ i. next_record default_config st.StartRecord (fits.0 i) (fits.1 i) ys)
  at_end st.StartField row field fits out = inr (refl, refl, ap (after row field) line.start)
  at_end st.InField row field fits out = inr (refl, refl, ap (after row field) line.bare)
  at_end st.AfterQuote row field fits out = inr (refl, refl, ap (after row field) line.quoted)
  at_end st.InQuoted row field fits out = absurd out
  at_end st.InEscape row field fits out = absurd out
  at_end st.InComment row field fits out = absurd out

  by_step : (xs : List ℕ) → ((s : State) (row : Row) (field : List ℕ) → Fits s row field → IsOutside (state_after s xs) → Ends (next_record default_config s row field xs) (next_record default_config s row field (xs ++ e ∷ ys)))
      → (c : ℕ) (s : State) (a : Action) (row : Row) (field : List ℕ) → Leads c row field (s, a) → IsOutside (state_after s xs)
      → Ends (cond (is_end a) (Some (fields_after a row field, s, xs)) (next_record default_config s (fields_after a row field) (field_after a c field) xs))
      (cond (is_end a) (Some (fields_after a row field, s, xs ++ e ∷ ys)) (next_record default_config s (fields_after a row field) (field_after a c field) (xs ++ e ∷ ys)))
  by_step xs later c s act.Skip row field to out = later s row field to out
  by_step xs later c s act.Copy row field to out = later s row (field ++ c ∷ []) to out
  by_step xs later c s act.EndField row field to out = later s (row ++ field ∷ []) [] to out
  by_step xs later c s act.EndRecord row field to out = inl (refl, to, out)

  ends : (xs : List ℕ) (s : State) (row : Row) (field : List ℕ) → Fits s row field → IsOutside (state_after s xs) → Ends (next_record default_config s row field xs) (next_record default_config s row field (xs ++ e ∷ ys))
  unfolding next_record
  ends [] s row field fits out = at_end s row field fits out
  ends (c ∷ xs) s row field fits out = by_step xs (ends xs) c (step default_config s c).0 (step default_config s c).1 row field (leads s row field c fits) out

  fits_between : (s : State) → IsBetween s → Fits s [] []
  fits_between st.StartRecord at = (refl, refl)
  fits_between st.AfterCr at = (refl, refl)
  fits_between st.StartField at = absurd at
  fits_between st.InField at = absurd at
  fits_between st.InQuoted at = absurd at
  fits_between st.AfterQuote at = absurd at
  fits_between st.InEscape at = absurd at
  fits_between st.InComment at = absurd at

  -- where the next record is the same, so are all
  same_records : (s u : State) (xs zs : List ℕ) (rows : List Row) → next_record default_config s [] [] xs ≡ next_record default_config u [] [] zs → AreRecords default_config u zs rows → AreRecords default_config s xs rows
  unfolding Reached
  same_records s u xs zs [] same h = (s, xs, (refl, refl), same ∙ (λ i. next_record default_config (h.2.0 i) [] [] (h.2.1 i)) ∙ h.3)
  same_records s u xs zs (row ∷ rows) same h = (h.0, h.1, (h.2.0, same ∙ h.2.1, h.2.2, h.2.3), h.3)

  with_first : (s : State) (xs : List ℕ) (row : Row) (rows : List Row) (p : Read) → next_record default_config s [] [] xs ≡ Some p → row ≡ p.0 → AreRecords default_config p.1 p.2 rows → AreRecords default_config s xs (row ∷ rows)
  unfolding Reached
  with_first s xs row rows p next is h = (h.0, h.1, (p, next, is, h.2), h.3)

  none_left : (s : State) (xs : List ℕ) (rows : List Row) → s ≡ st.StartRecord → xs ≡ [] → AreRecords default_config s xs rows → rows ≡ []
  unfolding Reached next_record
  none_left s xs [] is empty h = refl
  none_left s xs (row ∷ rows) is empty h = absurd (some_none ((λ i. next_record default_config (sym is i) [] [] (sym empty i)) ∙ h.2.1))

  module _ (after : List Row) (rest : AreRecords default_config st.StartRecord ys after) where
    join_first : (row : Row) (rows : List Row) (s : State) (xs : List ℕ) (p : Read) → row ≡ p.0 → AreRecords default_config p.1 p.2 rows
        → (IsBetween p.1 → IsOutside (state_after p.1 p.2) → AreRecords default_config p.1 (p.2 ++ e ∷ ys) (rows ++ after)) → Ends (Some p) (next_record default_config s [] [] (xs ++ e ∷ ys))
        → AreRecords default_config s (xs ++ e ∷ ys) (row ∷ (rows ++ after))
    join_first row rows s xs p is are later (inl h) = with_first s (xs ++ e ∷ ys) row (rows ++ after) (p.0, p.1, p.2 ++ e ∷ ys) h.0 is (later h.1 h.2)
    join_first row rows s xs p is are later (inr h) =
        with_first s (xs ++ e ∷ ys) row (rows ++ after) (p.0, t, ys) h.2 is
        (subst (λ (others : List Row). AreRecords default_config t ys (others ++ after)) (sym (none_left p.1 p.2 rows h.0 h.1 are)) (same_records t st.StartRecord ys ys after (between_same t ys line.between) rest))

    joined : (rows : List Row) (s : State) (xs : List ℕ) → IsBetween s → IsOutside (state_after s xs) → AreRecords default_config s xs rows → AreRecords default_config s (xs ++ e ∷ ys) (rows ++ after)
    unfolding Reached
    joined [] s xs at out are =
        let none : next_record default_config s [] [] xs ≡ None = (λ i. next_record default_config (are.2.0 i) [] [] (are.2.1 i)) ∙ are.3 in
        same_records s st.StartRecord (xs ++ e ∷ ys) ys after (subst (λ (o : Option Read). Ends o (next_record default_config s [] [] (xs ++ e ∷ ys))) none (ends xs s [] [] (fits_between s at) out)) rest
    joined (row ∷ rows) s xs at out are =
        let later : AreRecords default_config are.2.0.1 are.2.0.2 rows = (are.0, are.1, are.2.3, are.3) in
        join_first row rows s xs are.2.0 are.2.2 later (λ between outside. joined rows are.2.0.1 are.2.0.2 between outside later)
        (subst (λ (o : Option Read). Ends o (next_record default_config s [] [] (xs ++ e ∷ ys))) are.2.1 (ends xs s [] [] (fits_between s at) out))

-- at both ends of a line
pub cut_before : (e : ℕ) → (e ≡ 10) ⊎ (e ≡ 13) → (xs ys : List ℕ) (rows after : List Row) → IsOutside (state_after st.StartRecord xs) → AreRecords default_config st.StartRecord xs rows → AreRecords default_config st.StartRecord ys after
    → AreRecords default_config st.StartRecord (xs ++ e ∷ ys) (rows ++ after)
cut_before e (inl is) xs ys rows after out first rest =
    subst (λ (b : ℕ). AreRecords default_config st.StartRecord (xs ++ b ∷ ys) (rows ++ after)) (sym is)
    (joined 10 st.StartRecord (record { skips = refl; skips_cr = refl; start = refl; bare = refl; quoted = refl; between = tt }) ys after rest rows st.StartRecord xs tt out first)
cut_before e (inr is) xs ys rows after out first rest =
    subst (λ (b : ℕ). AreRecords default_config st.StartRecord (xs ++ b ∷ ys) (rows ++ after)) (sym is)
    (joined 13 st.AfterCr (record { skips = refl; skips_cr = refl; start = refl; bare = refl; quoted = refl; between = tt }) ys after rest rows st.StartRecord xs tt out first)
