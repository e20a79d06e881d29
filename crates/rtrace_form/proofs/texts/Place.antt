-- Where the taking of a text has come, and what one more record says.
use Rattle.std.proofs.Common.{◌≡◌, ℕ, suc, ◌+◌, ◌^◌, ◌<◌, Bor, Bool, true, false, cond, List, [], ◌∷◌, ◌++◌, length, fold, Option, Some, None, refl, sym, ap, subst, ◌∙◌, arith, append_assoc, length-append}
use Rattle.std.proofs.lemmas.Bool.{true≢false}
use Rattle.std.proofs.lemmas.List.{append-nil}
use Rattle.std.specs.Prelude.{Result, Ok, Err, OnOk}
use Rattle.csv.specs.Machine.{Read, next_record}
use Rattle.csv.specs.Reading.{Reached, Ready, ReadRecord, ReadsNext, ReadsOn, NextIs, default_config, source_of, pending_of, strip_bom, reader_trim, reader_config, is_flexible, reader_state}
use Rattle.csv.specs.declared.parser.Config.{Config}
use Rattle.csv.specs.declared.parser.State.{State}
use Rattle.csv.specs.declared.reader.Reader.{Reader}
use Rattle.csv.specs.declared.parser.State.TheVariants as st
use Rattle.csv.specs.declared.reader.Trim.TheVariants as trim
use Rattle.csv.proofs.ReadFacts.{rows-more, rows-end}
use Rattle.rtrace_form.specs.Records.{Row, AreRowsOf}
use Rattle.rtrace_form.specs.Walks.{AllClean, fault_from, or_later}
use Rattle.rtrace_form.specs.Takers.{IsFresh, followed, HasTakenPart, fault_of, IsFaultBehind, IsFaultOf, IsRefusedAt, StandsAt, HasTaken, error_at}
use Rattle.rtrace_form.specs.declared.errors.RowErr.{RowErr}
use Rattle.rtrace_form.specs.declared.errors.RowErr.TheVariants as why
use Rattle.rtrace_form.specs.declared.errors.TextErr.{TextErr}
use Rattle.rtrace_form.specs.declared.errors.TextErr.TheVariants as text
use Rattle.rtrace_form.specs.declared.fault.Fault.{Fault}
use Rattle.rtrace_form.proofs.facts.Walks.{clean_none}
use Rattle.rtrace_form.proofs.texts.Records.{rows_around}

-- ---- items before and after

module _ {R S C : Type 0} (code : S → R → Option C) (next : S → R → S) (is_done : S → Bool) (no_end : C) where
  pub clean_push : (s : S) (xs : List R) (x : R) → AllClean code next s xs → code (fold next s xs) x ≡ None → AllClean code next s (xs ++ x ∷ [])
  clean_push s [] x clean none = (none, tt)
  clean_push s (y ∷ xs) x clean none = (clean.0, clean_push (next s y) xs x clean.1 none)

  pub fault_behind : (line : ℕ) (s : S) (xs ys : List R) → AllClean code next s xs → fault_from code next is_done no_end line s (xs ++ ys) ≡ fault_from code next is_done no_end (line + length xs) (fold next s xs) ys
  unfolding fault_from
  fault_behind line s [] ys clean = ap (λ n. fault_from code next is_done no_end n s ys) (sym (plus_zero line))
    where
      plus_zero : (n : ℕ) → n + 0 ≡ n
      plus_zero n = omega arith
  fault_behind line s (x ∷ xs) ys clean =
      ap (λ c. or_later line c (fault_from code next is_done no_end (line + 1) (next s x) (xs ++ ys))) clean.0
      ∙ fault_behind (line + 1) (next s x) xs ys clean.1
      ∙ ap (λ n. fault_from code next is_done no_end n (fold next (next s x) xs) ys) (shifted line (length xs))
    where
      shifted : (n k : ℕ) → (n + 1) + k ≡ n + suc k
      shifted n k = omega arith

-- records that follow others one after another come after them
pub followed_all : (before rows : List Row) → fold followed before rows ≡ before ++ rows
followed_all before [] = sym (append-nil before)
followed_all before (row ∷ rows) = followed_all (before ++ row ∷ []) rows ∙ append_assoc before (row ∷ []) rows

-- ---- the place

found_next : (cfg : Config) (s s2 : State) (left : List ℕ) (k : Option (List ℕ)) (fields : Row) → ReadsNext cfg s (Some left) k true fields s2
    → (p : Read) × (next_record cfg s [] [] left ≡ Some p) × (fields ≡ p.0)
found_next cfg s s2 left None fields h = absurd h
found_next cfg s s2 left (Some ys) fields h =
    elim (next_record cfg s [] [] left) as (λ o. next_record cfg s [] [] left ≡ o → NextIs o true fields s2 ys → (p : Read) × (next_record cfg s [] [] left ≡ Some p) × (fields ≡ p.0)) [
      | None ↦ λ e n. absurd (true≢false n)
      | Some p ↦ λ e n. (p, e, n.1)
    ] refl h

module _ {C T : Type 0} (code : List Row → Row → Option C) (is_done : List Row → Bool) (no_end : C) (Knows : T → List Row → Type 0) where
  -- after `earlier` records the reader has read the records `before` of these bytes, which have no fault, the taker knows them, and the bytes `left` are still to be read
  pub record IsAt (earlier : List Row) (bytes : List ℕ) (reader : Reader (Bor (List ℕ))) (taker : T) (line : ℕ) (before : List Row) (left : List ℕ) : Type 0 where
    pub counted : length (earlier ++ before) + 1 ≡ line
    pub clean : AllClean code followed earlier before
    pub knows : Knows taker (earlier ++ before)
    pub trim : reader_trim reader ≡ trim.None
    pub ready : Ready reader
    pub config : reader_config reader ≡ default_config
    pub flexible : is_flexible reader ≡ true
    pub source : source_of (λ s. Some s.now) reader ≡ Some left
    pub reached : Reached default_config st.StartRecord (strip_bom bytes) before (reader_state reader) left

  pub at_start : (earlier : List Row) (bytes : List ℕ) (reader : Reader (Bor (List ℕ))) (taker : T) (line : ℕ) → IsFresh bytes reader → Knows taker earlier → length earlier + 1 ≡ line
      → IsAt earlier bytes reader taker line [] (strip_bom bytes)
  unfolding Reached
  at_start earlier bytes reader taker line h knows counted = record {
    counted = ap (λ (rows : List Row). length rows + 1) (append-nil earlier) ∙ counted;
    clean = tt;
    knows = subst (Knows taker) (sym (append-nil earlier)) knows;
    trim = h.trim;
    ready = h.ready;
    config = h.config;
    flexible = h.flexible;
    source = h.source;
    reached = (sym h.state, refl);
  }

  -- the taker is ready for the next record
  pub may_take : (earlier : List Row) (bytes : List ℕ) (reader : Reader (Bor (List ℕ))) (taker : T) (line : ℕ) (before : List Row) (left : List ℕ) → IsAt earlier bytes reader taker line before left → line < 2 ^ 62
      → (rows : List Row) × Knows taker rows × (length rows < 2 ^ 62)
  may_take earlier bytes reader taker line before left h small = let counted = h.counted in (earlier ++ before, h.knows, omega (arith, counted, small))

  pub at_more : (earlier : List Row) (bytes : List ℕ) (old new : Reader (Bor (List ℕ))) (was now : T) (line : ℕ) (before : List Row) (left : List ℕ) (fields : Row)
      → IsAt earlier bytes old was line before left → ReadRecord (λ s. Some s.now) old new true fields → ReadsOn old new
      → code (earlier ++ before) fields ≡ None → Knows now ((earlier ++ before) ++ fields ∷ [])
      → (all : List Row) × (rest : List ℕ) × IsAt earlier bytes new now (line + 1) all rest
  at_more earlier bytes old new was now line before left fields h read on none knows =
      let more = rows-more (λ (s : Bor (List ℕ)). Some s.now) old new fields default_config st.StartRecord (strip_bom bytes) left before h.config h.source h.reached read in
      let joined : (earlier ++ before) ++ fields ∷ [] ≡ earlier ++ (before ++ fields ∷ []) = append_assoc earlier before (fields ∷ []) in
      let size = length-append (earlier ++ before) (fields ∷ []) in
      let same = ap length joined in
      let counted = h.counted in (
        before ++ fields ∷ [],
        more.0,
        record {
          counted = omega arith;
          clean = clean_push code followed is_done no_end earlier before fields h.clean (ap (λ (rows : List Row). code rows fields) (followed_all earlier before) ∙ none);
          knows = subst (Knows now) joined knows;
          trim = on.1 ∙ h.trim;
          ready = (on.4 h.ready).0;
          config = on.0 ∙ h.config;
          flexible = on.2 ∙ h.flexible;
          source = more.1;
          reached = more.2;
        },
      )

  pub at_end : (earlier : List Row) (bytes : List ℕ) (old new : Reader (Bor (List ℕ))) (taker : T) (line : ℕ) (before : List Row) (left : List ℕ) (fields : Row)
      → IsAt earlier bytes old taker line before left → line < 2 ^ 62 → ReadRecord (λ s. Some s.now) old new false fields → HasTakenPart code Knows earlier bytes taker line
  at_end earlier bytes old new taker line before left fields h small read = record {
    rows = before;
    are = (old.state, left, h.reached, rows-end (λ (s : Bor (List ℕ)). Some s.now) old new fields default_config left h.config h.source read ∙ refl);
    clean = h.clean;
    knows = h.knows;
    few = (let counted = h.counted in omega arith);
    counted = h.counted;
  }

  pub at_fault : (earlier : List Row) (bytes : List ℕ) (old new : Reader (Bor (List ℕ))) (taker : T) (line : ℕ) (before : List Row) (left : List ℕ) (fields : Row) (cause : C)
      → IsAt earlier bytes old taker line before left → ReadRecord (λ s. Some s.now) old new true fields → code (earlier ++ before) fields ≡ Some cause
      → IsFaultBehind code is_done no_end earlier bytes (record { line = line; code = cause })
  unfolding fault_from
  at_fault earlier bytes old new taker line before left fields cause h read bad =
      let next = found_next default_config old.state new.state left (pending_of (Some new.rdr.now) new) fields (rw (h.config, h.source) at read.0) in
      let around = rows_around default_config st.StartRecord old.state (strip_bom bytes) left before next.0 h.reached next.1 in
      let counted = h.counted in
      let size = length-append earlier before in
      let number : (length earlier + 1) + length before ≡ line = omega arith in
      let all = fold followed earlier before in (
        before ++ next.0.0 ∷ around.0,
        around.1,
        λ more. ap (fault_from code followed is_done no_end (length earlier + 1) earlier) (append_assoc before (next.0.0 ∷ around.0) more)
            ∙ fault_behind code followed is_done no_end (length earlier + 1) earlier before (next.0.0 ∷ (around.0 ++ more)) h.clean
            ∙ ap (λ c. or_later ((length earlier + 1) + length before) c (fault_from code followed is_done no_end (((length earlier + 1) + length before) + 1) (followed all next.0.0) (around.0 ++ more)))
            (ap (λ (rows : List Row). code rows next.0.0) (followed_all earlier before) ∙ ap (code (earlier ++ before)) (sym next.2) ∙ bad)
            ∙ ap (λ n. Some (n, cause)) number,
      )

  -- and the taker is where it was refused
  pub at_refused : (Stays : T → T → Type 0) (earlier : List Row) (bytes : List ℕ) (old new : Reader (Bor (List ℕ))) (taker now : T) (line : ℕ) (before : List Row) (left : List ℕ) (fields : Row)
      → IsAt earlier bytes old taker line before left → ReadRecord (λ s. Some s.now) old new true fields → Stays taker now → IsRefusedAt Knows Stays earlier bytes line now
  at_refused Stays earlier bytes old new taker now line before left fields h read stays =
      let next = found_next default_config old.state new.state left (pending_of (Some new.rdr.now) new) fields (rw (h.config, h.source) at read.0) in
      let around = rows_around default_config st.StartRecord old.state (strip_bom bytes) left before next.0 h.reached next.1 in
      record { before = before; refused = next.0.0; rest = around.0; are = around.1; was = taker; knows = h.knows; counted = h.counted; stays = stays }

  -- ---- the whole text

  -- a record of it was refused, or it may not end where it does
  pub text_refused : (Stays : T → T → Type 0) (bytes : List ℕ) (line : ℕ) (now : T) → IsRefusedAt Knows Stays [] bytes line now → StandsAt Knows Stays bytes line now
  text_refused Stays bytes line now h = record { before = h.before; behind = h.refused ∷ h.rest; are = h.are; was = h.was; knows = h.knows; counted = h.counted; left = h.stays }

  pub text_ended : (Stays : T → T → Type 0) (bytes : List ℕ) (line : ℕ) (now : T) → HasTakenPart code Knows [] bytes now line → StandsAt Knows Stays bytes line now
  text_ended Stays bytes line now h = record { before = h.rows; behind = []; are = subst (AreRowsOf bytes) (sym (append-nil h.rows)) h.are; was = now; knows = h.knows; counted = h.counted; left = refl }

  -- the first fault of a whole text, as a part after nothing
  pub fault_of_all : (bytes : List ℕ) (fault : Fault C) → IsFaultBehind code is_done no_end [] bytes fault → IsFaultOf code is_done no_end bytes fault
  fault_of_all bytes fault h = (h.0, h.1, ap (fault_of code is_done no_end) (sym (append-nil h.0)) ∙ h.2 [])

  pub taken : (bytes : List ℕ) (taker : T) (line : ℕ) → HasTakenPart code Knows [] bytes taker line → ((rows : List Row) → Knows taker rows → is_done rows ≡ true) → HasTaken code is_done no_end Knows bytes taker
  taken bytes taker line h ended = record {
    rows = h.rows;
    are = h.are;
    right = clean_none code followed is_done no_end 1 [] h.rows h.clean (ap is_done (followed_all [] h.rows) ∙ ended h.rows h.knows);
    knows = h.knows;
    few = h.few;
  }

  pub none_behind : (bytes : List ℕ) (taker : T) (line : ℕ) → HasTakenPart code Knows [] bytes taker line → ((rows : List Row) → Knows taker rows → is_done rows ≡ false) → IsFaultOf code is_done no_end bytes (record { line = line; code = no_end })
  unfolding fault_from
  none_behind bytes taker line h unended =
      let counted = h.counted in
      let number : 1 + length h.rows ≡ line = omega arith in (
        h.rows,
        h.are,
        ap (fault_of code is_done no_end) (sym (append-nil h.rows))
            ∙ fault_behind code followed is_done no_end 1 [] h.rows [] h.clean
            ∙ ap (λ b. cond b None (Some (1 + length h.rows, no_end))) (ap is_done (followed_all [] h.rows) ∙ unended h.rows h.knows)
            ∙ ap (λ n. Some (n, no_end)) number,
      )

  -- where the end was right, the text is taken
  pub taken_ok : {U : Type 0} (r : Result U (TextErr C)) (bytes : List ℕ) (taker : T) (line : ℕ) → HasTakenPart code Knows [] bytes taker line → OnOk r ((rows : List Row) → Knows taker rows → is_done rows ≡ true)
      → OnOk r (HasTaken code is_done no_end Knows bytes taker)
  taken_ok (Ok u) bytes taker line h ended = taken bytes taker line h ended
  taken_ok (Err e) bytes taker line h ended = tt

pub err_is : {T E : Type 0} {x y : E} → ◌≡◌ {A = Result T E} (Err x) (Err y) → x ≡ y
err_is {T} {E} {x} {y} e = cc

-- the fault that a record's error makes is at its line and has its code
pub bad_at : {C : Type 0} (line : ℕ) (e : RowErr C) (fault : Fault C) → error_at line e ≡ text.Bad fault → (code : C) × (e ≡ why.Bad code) × (fault ≡ record { line = line; code = code })
bad_at line (why.Bad code) fault h = (code, refl, cc)
bad_at line why.Memory fault h = cc
