-- Lines that are the same without their bounds, and whose bounds are the same, are the same.
use Rattle.std.proofs.Common.{◌≡◌, ℕ, ◌+◌, Bool, true, false, cond, List, [], ◌∷◌, drop, map, filter, Option, Some, None, is_some, refl, sym, ap, ◌∙◌, true≢false}
use Rattle.rbound.specs.Bounds.{Numbers}
use Rattle.rcover_laws.specs.declared.wait_end.WaitEnd.{WaitEnd}
use Rattle.rtrace_form.specs.Lines.{Line, Waits}
use Rattle.rtrace_form.specs.Waits.{bound_in, all_ended}
use Rattle.rtrace_form.specs.Reports.{Report, wait_line, lines_of}
use Rattle.rtrace_form.specs.Faults.{same_numbers}
use Rattle.rtrace_form.specs.ToldWaits.{tells_wait}
use Rattle.rtrace_form.specs.WrongBounds.{bound_told, or_more, bounds_due, first_other}
use Rattle.rtrace_form.proofs.facts.Choices.{some_none}
use Rattle.rtrace_form.proofs.lists.BlankLines.{without_bound, blank, first_line}
use Rattle.rtrace_form.proofs.lists.SameLines.{numbers_are, numbers_itself}
use Rattle.rtrace_form.proofs.lists.ToldWaits.{all_told}

-- a line with this bound, if it is of a wait
with_bound : Option Numbers → Line → Line
with_bound (Some b) (Waits seat which cover bound) = Waits seat which cover b
with_bound _ line = line

bound_back : (line : Line) → with_bound (bound_told line) (without_bound line) ≡ line
unfolding with_bound
bound_back (Waits seat which cover bound) = refl
bound_back _ = refl

told_is : (line : Line) → is_some (bound_told line) ≡ tells_wait (without_bound line)
told_is (Waits seat which cover bound) = refl
told_is _ = refl

-- both have a bound, or neither has
both_tell : (x y : Line) → without_bound x ≡ without_bound y → is_some (bound_told x) ≡ is_some (bound_told y)
both_tell x y e = told_is x ∙ ap tells_wait e ∙ sym (told_is y)

same_line : (x y : Line) → without_bound x ≡ without_bound y → bound_told x ≡ bound_told y → x ≡ y
same_line x y e same = sym (bound_back x) ∙ (λ i. with_bound (same i) (e i)) ∙ bound_back y

-- ---- numbered bounds

-- the bounds on lines, numbered from n on
abbrev pub told_from : ℕ → List Line → List (ℕ × Numbers)
told_from n [] = []
told_from n (line ∷ lines) = or_more n (bound_told line) (told_from (n + 1) lines)

-- and without numbers
abbrev or_rest : Option Numbers → List Numbers → List Numbers
or_rest None rest = rest
or_rest (Some b) rest = b ∷ rest

abbrev pub bounds_in : List Line → List Numbers
bounds_in [] = []
bounds_in (line ∷ lines) = or_rest (bound_told line) (bounds_in lines)

is_nothing : List Line → Bool
is_nothing [] = true
is_nothing (line ∷ lines) = false

go_on : (b : Bool) (n : ℕ) (later : Option ℕ) → cond b later (Some n) ≡ None → (b ≡ true) × (later ≡ None)
go_on true n later h = (refl, h)
go_on false n later h = absurd (some_none (sym h))

first_and_rest : (n : ℕ) (a b : Option Numbers) (told : List (ℕ × Numbers)) (dues : List Numbers) → is_some a ≡ is_some b → first_other (or_more n a told) (or_rest b dues) ≡ None
    → (a ≡ b) × (first_other told dues ≡ None)
unfolding first_other
first_and_rest n None None told dues e h = (refl, h)
first_and_rest n None (Some y) told dues e h = absurd (true≢false (sym e))
first_and_rest n (Some x) None told dues e h = absurd (true≢false e)
first_and_rest n (Some x) (Some y) told dues e h =
    let parts = go_on (same_numbers x y) n (first_other told dues) h in (ap (λ (b : Numbers). Some b) (numbers_are x y parts.0), parts.1)

-- *Lines that are the same without their bounds, and whose bounds do not differ, are the same*
pub likes_are : (n : ℕ) (xs ys : List Line) → blank xs ≡ blank ys → first_other (told_from n xs) (bounds_in ys) ≡ None → xs ≡ ys
unfolding is_nothing first_line
likes_are n [] [] e h = refl
likes_are n [] (y ∷ ys) e h = absurd (true≢false (ap is_nothing e))
likes_are n (x ∷ xs) [] e h = absurd (true≢false (sym (ap is_nothing e)))
likes_are n (x ∷ xs) (y ∷ ys) e h =
    let one = ap first_line e in
    let parts = first_and_rest n (bound_told x) (bound_told y) (told_from (n + 1) xs) (bounds_in ys) (both_tell x y one) h in
    let first = same_line x y one parts.0 in
    let rest = likes_are (n + 1) xs ys (ap (drop 1) e) parts.1 in
    λ i. first i ∷ rest i

-- and no bound of lines differs from itself
pub none_other : (n : ℕ) (xs : List Line) → first_other (told_from n xs) (bounds_in xs) ≡ None
unfolding first_other
none_other n [] = refl
none_other n (x ∷ xs) = at (bound_told x) (none_other (n + 1) xs)
  where
    at : (o : Option Numbers) → first_other (told_from (n + 1) xs) (bounds_in xs) ≡ None → first_other (or_more n o (told_from (n + 1) xs)) (or_rest o (bounds_in xs)) ≡ None
    at None rest = rest
    at (Some b) rest = ap (λ same. cond same (first_other (told_from (n + 1) xs) (bounds_in xs)) (Some n)) (numbers_itself b) ∙ rest

-- ---- the bounds of a report

only_waits : (xs : List Line) → bounds_in xs ≡ bounds_in (filter tells_wait xs)
only_waits [] = refl
only_waits (x ∷ xs) = at x (only_waits xs)
  where
    at : (l : Line) → bounds_in xs ≡ bounds_in (filter tells_wait xs) → bounds_in (l ∷ xs) ≡ bounds_in (filter tells_wait (l ∷ xs))
    at (Waits seat which cover bound) rest = ap (λ (bs : List Numbers). bound ∷ bs) rest
    at _ rest = rest

of_waits : (bounds : WaitEnd → Numbers) (ws : List WaitEnd) → bounds_in (map (wait_line bounds) ws) ≡ map bounds ws
of_waits bounds [] = refl
of_waits bounds (w ∷ ws) = ap (λ (bs : List Numbers). bounds w ∷ bs) (of_waits bounds ws)

-- *The bounds on the lines of a report are those that are due*
pub bounds_are_due : (told : Option ℕ) (r : Report) → bounds_in (lines_of true (bound_in r.head r.entries) told r) ≡ bounds_due r.head r.entries
bounds_are_due told r =
    only_waits (lines_of true (bound_in r.head r.entries) told r) ∙ ap bounds_in (all_told (bound_in r.head r.entries) told r) ∙ of_waits (bound_in r.head r.entries) (all_ended r.head r.entries)
