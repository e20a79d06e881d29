-- A taker that is fed a text part by part: what it knows goes on from part to part, and a fault of a part is one of the text.
use Rattle.std.proofs.Common.{◌≡◌, ℕ, ◌+◌, ◌<◌, ◌≤◌, Bool, true, false, cond, List, [], ◌∷◌, ◌++◌, length, take, drop, fold, Option, Some, None, refl, sym, ap, subst, ◌∙◌, arith, append_assoc, length-append}
use Rattle.std.proofs.lemmas.List.{append-nil}
use Rattle.std.specs.Prelude.{unwrap_or}
use Rattle.csv.specs.Reading.{default_config, strip_bom}
use Rattle.csv.specs.declared.parser.State.TheVariants as st
use Rattle.rtrace_form.specs.Records.{Row, AreRowsOf}
use Rattle.rtrace_form.specs.Walks.{AllClean, or_later, fault_from}
use Rattle.rtrace_form.specs.Takers.{followed, AreGood, HasTakenPart, fault_of, IsFaultBehind, IsFaultOf, IsRefusedAt, IsLeftBy, StandsAt, HasTaken}
use Rattle.rtrace_form.specs.declared.fault.Fault.{Fault}
use Rattle.rtrace_form.proofs.facts.Walks.{clean_none}
use Rattle.rtrace_form.proofs.texts.Place.{fault_behind, followed_all}
use Rattle.rtrace_form.proofs.texts.Records.{rows_exist, rows_unique}
use Rattle.rshort.specs.Cut.{AreCutRows, IsShortened, MayBeCut}
use Rattle.rshort.proofs.Again.{rows_again}
use Rattle.rtrace.specs.Feeding.{IsFed, FaultsStay, KnowledgeStays, KnowsFront}
use Rattle.rshort.proofs.Texts.{rows_themselves}
use Rattle.rtrace.proofs.CutRows.{none_some, rows_joined, rows_split, few_more}

module _ {C T : Type 0} (code : List Row → Row → Option C) (is_done : List Row → Bool) (no_end : C) (Knows : T → List Row → Type 0) where
  -- nothing was read
  pub fed_start : (taker : T) → Knows taker [] → IsFed code Knows [] [] taker 1
  fed_start taker knows = record { rows = []; knows = knows; clean = tt; counted = refl; joins = λ more behind h. (behind, h, rows_themselves behind) }

  -- a piece more was read
  pub fed_more : (text held piece : List ℕ) (taker : T) (line : ℕ) → IsFed code Knows text held taker line → IsFed code Knows (text ++ piece) (held ++ piece) taker line
  fed_more text held piece taker line f = record {
    rows = f.rows;
    knows = f.knows;
    clean = f.clean;
    counted = f.counted;
    joins = λ more behind h.
        let w = f.joins (piece ++ more) behind (subst (λ (bytes : List ℕ). AreRowsOf bytes behind) (append_assoc held piece more) h) in
        (w.0, subst (λ (bytes : List ℕ). AreRowsOf bytes w.0) (sym (append_assoc text piece more)) w.1, w.2);
  }

  -- what is held was made shorter
  pub fed_shorter : (text held short : List ℕ) (taker : T) (line : ℕ) → IsFed code Knows text held taker line → IsShortened held short → IsFed code Knows text short taker line
  fed_shorter text held short taker line f is = record {
    rows = f.rows;
    knows = f.knows;
    clean = f.clean;
    counted = f.counted;
    joins = λ more behind h.
        let mid = is more behind h in
        let w = f.joins more mid.0 mid.1 in
        (w.0, w.1, rows_again w.0 (f.rows ++ mid.0) (f.rows ++ behind) w.2 (rows_joined f.rows mid.0 behind mid.2));
  }

  -- records behind others that have no fault, and have none themselves
  clean_both : (state first second : List Row) → AllClean code followed state first → AllClean code followed (fold followed state first) second → AllClean code followed state (first ++ second)
  clean_both state [] second a b = b
  clean_both state (row ∷ first) second a b = (a.0, clean_both (state ++ row ∷ []) first second a.1 b)

  clean_behind : (first second : List Row) → AreGood code first → AllClean code followed first second → AreGood code (first ++ second)
  clean_behind first second a b = clean_both [] first second a (subst (λ (state : List Row). AllClean code followed state second) (sym (followed_all [] first)) b)

  -- a fault behind records that have none
  first_fault_behind : (first rest : List Row) (fault : Fault C) → AreGood code first → fault_from code followed is_done no_end (length first + 1) first rest ≡ Some (fault.line, fault.code)
      → fault_of code is_done no_end (first ++ rest) ≡ Some (fault.line, fault.code)
  first_fault_behind first rest fault clean h =
      fault_behind code followed is_done no_end 1 [] first rest clean
      ∙ ap (λ (state : List Row). fault_from code followed is_done no_end (1 + length first) state rest) (followed_all [] first)
      ∙ ap (λ n. fault_from code followed is_done no_end n first rest) (turned (length first))
      ∙ h
    where
      turned : (n : ℕ) → 1 + n ≡ n + 1
      turned n = omega arith

  -- records before the first fault have none
  clean_step : (state : List Row) (row : Row) (first rest : List Row) (n line : ℕ) (c : C) → (fault_from code followed is_done no_end (n + 1) (state ++ row ∷ []) (first ++ rest) ≡ Some (line, c) → AllClean code followed (state ++ row ∷ []) first)
      → (o : Option C) → code state row ≡ o → or_later n o (fault_from code followed is_done no_end (n + 1) (state ++ row ∷ []) (first ++ rest)) ≡ Some (line, c) → n < line → (code state row ≡ None) × AllClean code followed (state ++ row ∷ []) first
  clean_step state row first rest n line c later None is e low = (is, later e)
  clean_step state row first rest n line c later (Some x) is e low = let same : n ≡ line = ap (λ (o : Option (ℕ × C)). (unwrap_or o (n, x)).0) e in absurd (omega (arith, same, low))

  clean_before : (state first rest : List Row) (n line : ℕ) (c : C) → fault_from code followed is_done no_end n state (first ++ rest) ≡ Some (line, c) → n + length first ≤ line → AllClean code followed state first
  unfolding fault_from
  clean_before state [] rest n line c h low = tt
  clean_before state (row ∷ first) rest n line c h low =
      clean_step state row first rest n line c (λ e. clean_before (state ++ row ∷ []) first rest (n + 1) line c e (omega (arith, low))) (code state row) refl h (omega (arith, low))

  -- the records before a refused one have no fault
  clean_refused : (bytes : List ℕ) (earlier : List Row) (now : T) (Stays : T → T → Type 0) (fault : Fault C) → IsFaultBehind code is_done no_end earlier bytes fault → (p : IsRefusedAt Knows Stays earlier bytes fault.line now)
      → AllClean code followed earlier p.before
  clean_refused bytes earlier now Stays fault b p =
      let same : b.0 ≡ p.before ++ p.refused ∷ p.rest = rows_unique default_config st.StartRecord (strip_bom bytes) b.0 (p.before ++ p.refused ∷ p.rest) b.1 p.are in
      let size = length-append earlier p.before in
      let counted = p.counted in
      clean_before earlier p.before (p.refused ∷ p.rest) (length earlier + 1) fault.line fault.code (ap (fault_from code followed is_done no_end (length earlier + 1) earlier) (sym same ∙ sym (append-nil b.0)) ∙ b.2 []) (omega (arith, size, counted))

  -- a taker that refused a record is left by the one that was cut
  is_left : (Stays : T → T → Type 0) (was now : T) (refused : Row) (rest rows : List Row) → AreCutRows rows (refused ∷ rest) → Stays was now → IsLeftBy Stays rows was now
  is_left Stays was now refused rest [] is stays = absurd (none_some is)
  is_left Stays was now refused rest (row ∷ rows) is stays = stays

  none_left : (Stays : T → T → Type 0) (now : T) (rows : List Row) → AreCutRows rows [] → IsLeftBy Stays rows now now
  none_left Stays now [] is = refl
  none_left Stays now (row ∷ rows) is = absurd (none_some (sym is.2))

  -- ---- a text of which the taker knows cut records

  module _ (faults_stay : FaultsStay code is_done no_end) (knowledge_stays : KnowledgeStays code Knows) where
    -- a fault of the cut records is one of the text
    fault_whole : (text : List ℕ) (whole cut : List Row) (fault : Fault C) → AreRowsOf text whole → AreCutRows whole cut → fault_of code is_done no_end cut ≡ Some (fault.line, fault.code) → IsFaultOf code is_done no_end text fault
    fault_whole text whole cut fault are is h = (whole, are, faults_stay whole cut is ∙ h)

    -- and a taker that stands among them stands among those of the text
    stands_whole : (Stays : T → T → Type 0) (text : List ℕ) (whole before behind : List Row) (was now : T) (n : ℕ) → AreRowsOf text whole → AreCutRows whole (before ++ behind) → AreGood code before → Knows was before → length before + 1 ≡ n
        → ((others : List Row) → AreCutRows others behind → IsLeftBy Stays others was now) → StandsAt Knows Stays text n now
    stands_whole Stays text whole before behind was now n are is good knows counted left =
        let s = rows_split before behind whole is in
        record {
          before = s.front;
          behind = s.back;
          are = subst (AreRowsOf text) s.both are;
          was = was;
          knows = knowledge_stays was s.front before s.front_cut good knows;
          counted = ap (λ k. k + 1) s.many ∙ counted;
          left = left s.back s.back_cut;
        }

    -- what is held is cut in two
    module _ (text held : List ℕ) (cut : ℕ) (was : T) (line : ℕ) (f : IsFed code Knows text held was line) (may : MayBeCut held cut) where
      joined : (more : List ℕ) (rows behind : List Row) → AreRowsOf (take cut held) rows → AreRowsOf (drop cut held ++ more) behind → (whole : List Row) × AreRowsOf (text ++ more) whole × AreCutRows whole (f.rows ++ (rows ++ behind))
      joined more rows behind are h = f.joins more (rows ++ behind) (may more rows behind are h)

      -- what follows the front
      others : (more : List ℕ) → (rows : List Row) × AreRowsOf (drop cut held ++ more) rows
      others more = rows_exist default_config st.StartRecord (strip_bom (drop cut held ++ more))

      -- the records of the front were taken
      pub fed_lines : (now : T) (next : ℕ) → HasTakenPart code Knows f.rows (take cut held) now next → IsFed code Knows text (drop cut held) now next
      fed_lines now next p = record {
        rows = f.rows ++ p.rows;
        knows = p.knows;
        clean = clean_behind f.rows p.rows f.clean p.clean;
        counted = p.counted;
        joins = λ more behind h.
            let w = joined more p.rows behind p.are h in
            (w.0, w.1, subst (AreCutRows w.0) (sym (append_assoc f.rows p.rows behind)) w.2);
      }

      -- one of them has a fault
      pub fault_in_lines : (fault : Fault C) → IsFaultBehind code is_done no_end f.rows (take cut held) fault → (more : List ℕ) → IsFaultOf code is_done no_end (text ++ more) fault
      fault_in_lines fault p more =
          let later = others more in
          let w = joined more p.0 later.0 p.1 later.1 in
          fault_whole (text ++ more) w.0 (f.rows ++ (p.0 ++ later.0)) fault w.1 w.2 (first_fault_behind f.rows (p.0 ++ later.0) fault f.clean (p.2 later.0))

      -- and the taker stands where it was refused
      pub refused_in_lines : (Stays : T → T → Type 0) (now : T) (fault : Fault C) → IsFaultBehind code is_done no_end f.rows (take cut held) fault → IsRefusedAt Knows Stays f.rows (take cut held) fault.line now → (more : List ℕ)
          → StandsAt Knows Stays (text ++ more) fault.line now
      refused_in_lines Stays now fault b p more =
          let later = others more in
          let w = joined more (p.before ++ p.refused ∷ p.rest) later.0 p.are later.1 in
          stands_whole Stays (text ++ more) w.0 (f.rows ++ p.before) (p.refused ∷ (p.rest ++ later.0)) p.was now fault.line w.1
          (subst (AreCutRows w.0) (ap (λ (rows : List Row). f.rows ++ rows) (append_assoc p.before (p.refused ∷ p.rest) later.0) ∙ sym (append_assoc f.rows p.before (p.refused ∷ (p.rest ++ later.0)))) w.2)
          (clean_behind f.rows p.before f.clean (clean_refused (take cut held) f.rows now Stays fault b p)) p.knows p.counted (λ rows is. is_left Stays p.was now p.refused (p.rest ++ later.0) rows is p.stays)

    -- ---- the end

    module _ (text held : List ℕ) (was : T) (line : ℕ) (f : IsFed code Knows text held was line) where
      all_rows : (rows : List Row) → AreRowsOf held rows → (whole : List Row) × AreRowsOf text whole × AreCutRows whole (f.rows ++ rows)
      all_rows rows are =
          let w = f.joins [] rows (subst (λ (bytes : List ℕ). AreRowsOf bytes rows) (sym (append-nil held)) are) in
          (w.0, subst (λ (bytes : List ℕ). AreRowsOf bytes w.0) (append-nil text) w.1, w.2)

      -- a source that breaks off leaves the records before what is held
      pub known_in_front : KnowsFront Knows text was
      known_in_front =
          let later = rows_exist default_config st.StartRecord (strip_bom held) in
          let w = all_rows later.0 later.1 in
          let s = rows_split f.rows later.0 w.0 w.2 in
          (s.front, s.back, subst (AreRowsOf text) s.both w.1, knowledge_stays was s.front f.rows s.front_cut f.clean f.knows)

      pub fault_in_rest : (fault : Fault C) → IsFaultBehind code is_done no_end f.rows held fault → IsFaultOf code is_done no_end text fault
      fault_in_rest fault p =
          let w = all_rows p.0 p.1 in
          fault_whole text w.0 (f.rows ++ p.0) fault w.1 w.2 (first_fault_behind f.rows p.0 fault f.clean (ap (fault_from code followed is_done no_end (length f.rows + 1) f.rows) (sym (append-nil p.0)) ∙ p.2 []))

      pub refused_in_rest : (Stays : T → T → Type 0) (now : T) (fault : Fault C) → IsFaultBehind code is_done no_end f.rows held fault → IsRefusedAt Knows Stays f.rows held fault.line now → StandsAt Knows Stays text fault.line now
      refused_in_rest Stays now fault b p =
          let w = all_rows (p.before ++ p.refused ∷ p.rest) p.are in
          stands_whole Stays text w.0 (f.rows ++ p.before) (p.refused ∷ p.rest) p.was now fault.line w.1 (subst (AreCutRows w.0) (sym (append_assoc f.rows p.before (p.refused ∷ p.rest))) w.2)
          (clean_behind f.rows p.before f.clean (clean_refused held f.rows now Stays fault b p)) p.knows p.counted (λ rows is. is_left Stays p.was now p.refused p.rest rows is p.stays)

      pub stands_at_end : (Stays : T → T → Type 0) (now : T) (n : ℕ) → HasTakenPart code Knows f.rows held now n → StandsAt Knows Stays text n now
      stands_at_end Stays now n p =
          let w = all_rows p.rows p.are in
          stands_whole Stays text w.0 (f.rows ++ p.rows) [] now now n w.1 (subst (AreCutRows w.0) (sym (append-nil (f.rows ++ p.rows))) w.2) (clean_behind f.rows p.rows f.clean p.clean) p.knows p.counted (λ rows is. none_left Stays now rows is)

      pub all_taken : (now : T) (next : ℕ) → HasTakenPart code Knows f.rows held now next → ((rows : List Row) → Knows now rows → is_done rows ≡ true) → HasTaken code is_done no_end Knows text now
      all_taken now next p done =
          let w = all_rows p.rows p.are in
          let cut = f.rows ++ p.rows in
          let good = clean_behind f.rows p.rows f.clean p.clean in
          record {
            rows = w.0;
            are = w.1;
            right = faults_stay w.0 cut w.2 ∙ clean_none code followed is_done no_end 1 [] cut good (ap is_done (followed_all [] cut) ∙ done cut p.knows);
            knows = knowledge_stays now w.0 cut w.2 good p.knows;
            few = few_more w.0 cut w.2 p.few;
          }

      pub not_done : (now : T) (next : ℕ) → HasTakenPart code Knows f.rows held now next → ((rows : List Row) → Knows now rows → is_done rows ≡ false)
          → IsFaultOf code is_done no_end text (record { line = next; code = no_end })
      unfolding fault_from
      not_done now next p undone =
          let rows = f.rows ++ p.rows in
          let counted = p.counted in
          let number : length rows + 1 ≡ next = counted in
          let w = all_rows p.rows p.are in
          fault_whole text w.0 rows (record { line = next; code = no_end }) w.1 w.2
          (ap (fault_of code is_done no_end) (sym (append-nil rows))
          ∙ first_fault_behind rows [] (record { line = next; code = no_end }) (clean_behind f.rows p.rows f.clean p.clean)
          (ap (λ b. cond b None (Some (length rows + 1, no_end))) (undone rows p.knows) ∙ ap (λ n. Some (n, no_end)) number))
