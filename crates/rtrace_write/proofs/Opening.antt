-- Open texts: how they grow line by line, and that they are the text of the same lines once they are closed.
use Rattle.std.proofs.Common.{◌≡◌, ℕ, ◌+◌, ◌<◌, List, [], ◌∷◌, ◌++◌, map, take, drop, length, get_or, Bool, Option, None, Some, Result, Ok, Err, OnOk, OnErr, refl, sym, ap, ◌∙◌, arith, append_assoc}
use Rattle.std.specs.Prelude.{flat_map}
use Rattle.std.proofs.lemmas.List.{append-nil, map-append, take_more, length-append, take-append-drop}
use Rattle.std.proofs.lemmas.Grind.{flat_map-append}
use Rattle.rclaim.specs.declared.claim.Status.{Status}
use Rattle.rclaim.specs.declared.claim.Status.TheVariants.{Waiting, Entitled, Satisfied}
use Rattle.rtrace_form.specs.Fields.{Names}
use Rattle.rtrace_form.specs.Lines.{Line}
use Rattle.rtrace_form.specs.Reports.{status_lines}
use Rattle.rtrace_write.specs.Gaps.{solid, with_gaps, AreRising}
use Rattle.rtrace_write.specs.Open.{open_line, open_told, GrewBySome}
use Rattle.rtrace_write.specs.Told.{told}
use Rattle.rtrace_write.proofs.Gaps.{rising_longer, rising_push, gaps-append, gaps-push}

-- ---- the bytes grow

module _ {E : Type 0} (r : Result (Unit {0}) E) (gaps old now more : List ℕ) where
  -- the places stay places of the text, whether it grew or stayed
  pub still_rising : OnOk r (now ≡ old ++ more) → OnErr r (now ≡ old) → AreRising 0 gaps (length old) → AreRising 0 gaps (length now)
  still_rising = at r
    where
      at : (s : Result (Unit {0}) E) → OnOk s (now ≡ old ++ more) → OnErr s (now ≡ old) → AreRising 0 gaps (length old) → AreRising 0 gaps (length now)
      at (Ok x) grown stays rising = rising_longer 0 gaps (length old) (length now) (omega (arith, ap (λ (xs : List ℕ). length xs) grown ∙ length-append old more)) rising
      at (Err e) grown stays rising = rising_longer 0 gaps (length old) (length now) (omega (arith, ap (λ (xs : List ℕ). length xs) stays)) rising

  -- and the text with gaps grows by as much
  pub grown_open : (text : List (Option ℕ)) → with_gaps 0 gaps old ≡ text → AreRising 0 gaps (length old) → OnOk r (now ≡ old ++ more) → OnOk r (with_gaps 0 gaps now ≡ text ++ solid more)
  grown_open text was rising = at r
    where
      at : (s : Result (Unit {0}) E) → OnOk s (now ≡ old ++ more) → OnOk s (with_gaps 0 gaps now ≡ text ++ solid more)
      at (Ok x) grown = ap (λ (bytes : List ℕ). with_gaps 0 gaps bytes) grown ∙ gaps-append 0 gaps old more rising ∙ ap (λ (t : List (Option ℕ)). t ++ solid more) was
      at (Err e) grown = tt

  -- where the bytes stayed, the text is as it was
  pub stays_open : (text : List (Option ℕ)) → with_gaps 0 gaps old ≡ text → OnErr r (now ≡ old) → OnErr r (with_gaps 0 gaps now ≡ text)
  stays_open text was = at r
    where
      at : (s : Result (Unit {0}) E) → OnErr s (now ≡ old) → OnErr s (with_gaps 0 gaps now ≡ text)
      at (Ok x) stays = tt
      at (Err e) stays = ap (λ (bytes : List ℕ). with_gaps 0 gaps bytes) stays ∙ was

-- a text grows by bytes and a gap after them
pub gap_put : (gaps places old now more : List ℕ) (text : List (Option ℕ)) → with_gaps 0 gaps old ≡ text → AreRising 0 gaps (length old) → now ≡ old ++ more → places ≡ gaps ++ length now ∷ []
    → with_gaps 0 places now ≡ text ++ (solid more ++ None ∷ [])
gap_put gaps places old now more text was rising grown put =
    ap (λ (ps : List ℕ). with_gaps 0 ps now) put
    ∙ gaps-push 0 gaps now
    ∙ ap (λ (bytes : List ℕ). with_gaps 0 gaps bytes ++ None ∷ []) grown
    ∙ ap (λ (t : List (Option ℕ)). t ++ None ∷ []) (gaps-append 0 gaps old more rising ∙ ap (λ (t : List (Option ℕ)). t ++ solid more) was)
    ∙ append_assoc text (solid more) (None ∷ [])

pub gap_rising : (gaps places old now more : List ℕ) → AreRising 0 gaps (length old) → now ≡ old ++ more → places ≡ gaps ++ length now ∷ [] → AreRising 0 places (length now)
gap_rising gaps places old now more rising grown put =
    rw put (rising_push 0 gaps (length now) (rising_longer 0 gaps (length old) (length now) (omega (arith, ap (λ (xs : List ℕ). length xs) grown ∙ length-append old more)) rising))

-- ---- lines

module _ (names : Names) where
  pub open-append : (xs ys : List Line) → open_told names (xs ++ ys) ≡ open_told names xs ++ open_told names ys
  open-append xs ys = flat_map-append (open_line names) xs ys

  -- the lines of a status have no wait
  pub status_open : (seat : ℕ) (half : Bool) (status : Status) → open_told names (status_lines seat half status) ≡ solid (told names (status_lines seat half status))
  status_open seat half Waiting = refl
  status_open seat half Entitled = sym (map-append Some _ [])
  status_open seat half Satisfied = sym (map-append Some _ [])

  -- a text that grew by some lines grows by others
  pub open_grown : (old sofar now : List (Option ℕ)) (xs ys : List Line) → sofar ≡ old ++ open_told names xs → now ≡ sofar ++ open_told names ys → now ≡ old ++ open_told names (xs ++ ys)
  open_grown old sofar now xs ys e f =
      f ∙ ap (λ (t : List (Option ℕ)). t ++ open_told names ys) e ∙ append_assoc old (open_told names xs) (open_told names ys) ∙ ap (λ (t : List (Option ℕ)). old ++ t) (sym (open-append xs ys))

  -- a text that grew by the lines of the first items grows by that of the next
  pub open_more : {X : Type 0} (g : X → Line) (items : List X) (i : ℕ) (x : X) (old sofar now : List (Option ℕ)) → i < length items → get_or items i x ≡ x
      → sofar ≡ old ++ open_told names (map g (take i items)) → now ≡ sofar ++ open_line names (g x) → now ≡ old ++ open_told names (map g (take (i + 1) items))
  open_more g items i x old sofar now within at e f =
      open_grown old sofar now (map g (take i items)) (g x ∷ []) e (f ∙ ap (λ (t : List (Option ℕ)). sofar ++ t) (sym (append-nil (open_line names (g x)))))
      ∙ ap (λ (lines : List Line). old ++ open_told names lines) (sym (map-append g (take i items) (x ∷ [])))
      ∙ ap (λ some. old ++ open_told names (map g some)) (sym (take_more items i x within ∙ ap (λ y. take i items ++ y ∷ []) at))

  -- the same for items that each have some lines
  pub open_some : {X : Type 0} (g : X → List Line) (items : List X) (i : ℕ) (x : X) (old sofar now : List (Option ℕ)) → i < length items → get_or items i x ≡ x
      → sofar ≡ old ++ open_told names (flat_map g (take i items)) → now ≡ sofar ++ open_told names (g x) → now ≡ old ++ open_told names (flat_map g (take (i + 1) items))
  open_some g items i x old sofar now within at e f =
      open_grown old sofar now (flat_map g (take i items)) (g x) e f
      ∙ ap (λ (lines : List Line). old ++ open_told names (flat_map g (take i items) ++ lines)) (sym (append-nil (g x)))
      ∙ ap (λ (lines : List Line). old ++ open_told names lines) (sym (flat_map-append g (take i items) (x ∷ [])))
      ∙ ap (λ some. old ++ open_told names (flat_map g some)) (sym (take_more items i x within ∙ ap (λ y. take i items ++ y ∷ []) at))

  -- ---- where some lines were appended

  pub grew_none : (old now : List (Option ℕ)) (lines : List Line) → now ≡ old → GrewBySome names old now lines
  grew_none old now lines same = record { first = []; rest = lines; are = refl; grown = same ∙ sym (append-nil old) }

  -- no others were appended after them
  pub grew_less : (old now : List (Option ℕ)) (xs ys : List Line) → GrewBySome names old now xs → GrewBySome names old now (xs ++ ys)
  grew_less old now xs ys h = record { first = h.first; rest = h.rest ++ ys; are = ap (λ (lines : List Line). lines ++ ys) h.are ∙ append_assoc h.first h.rest ys; grown = h.grown }

  -- others were appended before them
  pub grew_more : (old sofar now : List (Option ℕ)) (xs ys : List Line) → sofar ≡ old ++ open_told names xs → GrewBySome names sofar now ys → GrewBySome names old now (xs ++ ys)
  grew_more old sofar now xs ys e h = record {
    first = xs ++ h.first;
    rest = h.rest;
    are = ap (λ (lines : List Line). xs ++ lines) h.are ∙ sym (append_assoc xs h.first h.rest);
    grown = open_grown old sofar now xs h.first e h.grown;
  }

  -- the lines of the first items were appended
  pub grew_front : {X : Type 0} (g : X → Line) (items : List X) (i : ℕ) (old sofar now : List (Option ℕ)) → sofar ≡ old ++ open_told names (map g (take i items)) → now ≡ sofar → GrewBySome names old now (map g items)
  grew_front g items i old sofar now e same = record {
    first = map g (take i items);
    rest = map g (drop i items);
    are = ap (map g) (sym (take-append-drop i items)) ∙ map-append g (take i items) (drop i items);
    grown = same ∙ e;
  }

  -- the same for items that each have some lines
  pub grew_fronts : {X : Type 0} (g : X → List Line) (items : List X) (i : ℕ) (old sofar now : List (Option ℕ)) → sofar ≡ old ++ open_told names (flat_map g (take i items)) → now ≡ sofar → GrewBySome names old now (flat_map g items)
  grew_fronts g items i old sofar now e same = record {
    first = flat_map g (take i items);
    rest = flat_map g (drop i items);
    are = ap (flat_map g) (sym (take-append-drop i items)) ∙ flat_map-append g (take i items) (drop i items);
    grown = same ∙ e;
  }

-- ---- a step

-- where nothing else is reported, the line of an event is all
pub line_alone : (names : Names) (line : Line) (rest : List Line) (old now : List (Option ℕ)) → now ≡ old ++ open_line names line → rest ≡ [] → now ≡ old ++ open_told names (line ∷ rest)
line_alone names line rest old now is none =
    is
    ∙ ap (λ (text : List (Option ℕ)). old ++ text) (sym (append-nil (open_line names line)))
    ∙ ap (λ (lines : List Line). old ++ open_told names (line ∷ lines)) (sym none)
