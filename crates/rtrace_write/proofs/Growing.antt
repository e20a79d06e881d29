-- Texts that grow line by line.
use Rattle.std.proofs.Common.{◌≡◌, ℕ, suc, arith, ◌+◌, ◌<◌, List, [], ◌∷◌, ◌++◌, map, take, length, get_or, sym, ap, ◌∙◌, append_assoc, zero-add}
use Rattle.std.specs.Prelude.{flat_map}
use Rattle.std.proofs.lemmas.List.{append-nil, map-append, take_more, length-take-le}
use Rattle.std.proofs.lemmas.Option.{get_or_from_slice_get, slice_get-get_or}
use Rattle.std.proofs.lemmas.Grind.{flat_map-append}
use Rattle.rvalue.specs.declared.ledger.Ledger.{Ledger}
use Rattle.rtrace_form.specs.Fields.{Names}
use Rattle.rtrace_form.specs.Lines.{Line, Leaves, spelled}
use Rattle.rtrace_form.specs.Texts.{line_text}
use Rattle.rtrace_write.specs.Told.{told, told_line, leaves_from}

module _ (names : Names) where
  pub told-append : (xs ys : List Line) → told names (xs ++ ys) ≡ told names xs ++ told names ys
  told-append xs ys = ap (λ rows. flat_map line_text rows) (map-append (spelled names) xs ys) ∙ flat_map-append line_text (map (spelled names) xs) (map (spelled names) ys)

  pub told-one : (line : Line) → told names (line ∷ []) ≡ told_line names line
  told-one line = append-nil (told_line names line)

  -- a text that grew by some lines grows by others
  pub grown : (old sofar now : List ℕ) (xs ys : List Line) → sofar ≡ old ++ told names xs → now ≡ sofar ++ told names ys → now ≡ old ++ told names (xs ++ ys)
  grown old sofar now xs ys e f =
      f ∙ ap (λ t. t ++ told names ys) e ∙ append_assoc old (told names xs) (told names ys) ∙ ap (λ t. old ++ t) (sym (told-append xs ys))

  -- a text that grew by the lines of the first items grows by that of the next
  pub one_more : {X : Type 0} (g : X → Line) (items : List X) (i : ℕ) (x : X) (old sofar now : List ℕ) → i < length items → get_or items i x ≡ x
      → sofar ≡ old ++ told names (map g (take i items)) → now ≡ sofar ++ told_line names (g x) → now ≡ old ++ told names (map g (take (i + 1) items))
  one_more g items i x old sofar now within at e f =
      grown old sofar now (map g (take i items)) (g x ∷ []) e (f ∙ ap (λ t. sofar ++ t) (sym (told-one (g x))))
      ∙ ap (λ lines. old ++ told names lines) (sym (map-append g (take i items) (x ∷ [])))
      ∙ ap (λ some. old ++ told names (map g some)) (sym (take_more items i x within ∙ ap (λ y. take i items ++ y ∷ []) at))

  -- the same for items that each have some lines
  pub some_more : {X : Type 0} (g : X → List Line) (items : List X) (i : ℕ) (x : X) (old sofar now : List ℕ) → i < length items → get_or items i x ≡ x
      → sofar ≡ old ++ told names (flat_map g (take i items)) → now ≡ sofar ++ told names (g x) → now ≡ old ++ told names (flat_map g (take (i + 1) items))
  some_more g items i x old sofar now within at e f =
      grown old sofar now (flat_map g (take i items)) (g x) e f
      ∙ ap (λ lines. old ++ told names (flat_map g (take i items) ++ lines)) (sym (append-nil (g x)))
      ∙ ap (λ lines. old ++ told names lines) (sym (flat_map-append g (take i items) (x ∷ [])))
      ∙ ap (λ some. old ++ told names (flat_map g some)) (sym (take_more items i x within ∙ ap (λ y. take i items ++ y ∷ []) at))

-- the lines of ledgers, one more
pub leaves-push : (l : ℕ) (ledgers : List Ledger) (x : Ledger) → leaves_from l (ledgers ++ x ∷ []) ≡ leaves_from l ledgers ++ Leaves (l + length ledgers) x ∷ []
leaves-push l [] x = λ i. Leaves (from_here l i) x ∷ []
  where
    from_here : (l : ℕ) → l ≡ l + 0
    from_here l = omega arith
leaves-push l (y ∷ ledgers) x =
    ap (λ lines. Leaves l y ∷ lines) (leaves-push (l + 1) ledgers x)
    ∙ ap (λ n. Leaves l y ∷ (leaves_from (l + 1) ledgers ++ Leaves n x ∷ [])) (one_on l (length ledgers))
  where
    one_on : (l n : ℕ) → (l + 1) + n ≡ l + suc n
    one_on l n = omega arith

module _ (names : Names) where
  -- a text that grew by the lines of the first ledgers grows by that of the next
  pub ledger_more : (ledgers : List Ledger) (i : ℕ) (x : Ledger) (old sofar now : List ℕ) → i < length ledgers → get_or ledgers i x ≡ x
      → sofar ≡ old ++ told names (leaves_from 0 (take i ledgers)) → now ≡ sofar ++ told_line names (Leaves i x) → now ≡ old ++ told names (leaves_from 0 (take (i + 1) ledgers))
  ledger_more ledgers i x old sofar now within at e f =
      let front : length (take i ledgers) ≡ i = length-take-le i ledgers (omega arith) in
      grown names old sofar now (leaves_from 0 (take i ledgers)) (Leaves i x ∷ []) e (f ∙ ap (λ t. sofar ++ t) (sym (told-one names (Leaves i x))))
      ∙ ap (λ n. old ++ told names (leaves_from 0 (take i ledgers) ++ Leaves n x ∷ [])) (sym (zero-add (length (take i ledgers)) ∙ front))
      ∙ ap (λ lines. old ++ told names lines) (sym (leaves-push 0 (take i ledgers) x))
      ∙ ap (λ some. old ++ told names (leaves_from 0 some)) (sym (take_more ledgers i x within ∙ ap (λ y. take i ledgers ++ y ∷ []) at))

  -- a head, from its lines in order
  pub head-lines : (opens : Line) (resources groups tasks cap : List Line) → ((((opens ∷ []) ++ resources) ++ groups) ++ tasks) ++ cap ≡ opens ∷ (resources ++ (groups ++ (tasks ++ cap)))
  head-lines opens resources groups tasks cap = ap (λ lines. opens ∷ lines) (append_assoc (resources ++ groups) tasks cap ∙ append_assoc resources groups (tasks ++ cap))

-- what is at a place does not depend on the default
pub there : {X : Type 0} (items : List X) (i : ℕ) (d : X) → i < length items → get_or items i (get_or items i d) ≡ get_or items i d
there items i d within = get_or_from_slice_get items i (get_or items i d) (get_or items i d) (slice_get-get_or items i d within)
