-- The names by which a record is read: it says the same by all names as by those declared before it, since what it needs has then been declared.
use Rattle.std.proofs.Common.{◌≡◌, ◌≤◌, Bool, List, [], ◌∷◌, fold, Some, refl, sym, ap, subst, ◌∙◌, arith}
use Rattle.std.specs.Prelude.{option_map}
use Rattle.rclaim.specs.declared.event.Event.{Event}
use Rattle.rclaim.specs.declared.event.Event.TheVariants as event
use Rattle.rclaim.specs.declared.request.Kind.TheVariants.{Read, Write, Mixed, Upgrade, Nested}
use Rattle.rset.specs.Names.{number_in}
use Rattle.rvalue.specs.declared.act.Act.TheVariants.{Edited, Shown}
use Rattle.rvalue.specs.declared.ledger.Edit.TheVariants as edit
use Rattle.rtrace_form.specs.Records.{Row}
use Rattle.rtrace_form.specs.SetFields.{set_told}
use Rattle.rtrace_form.specs.Fields.{Names, Field, Said, Fresh, OneResource, OneTask, Members, Number, Length, Limit, paired, read}
use Rattle.rtrace_form.specs.Numbers.{number_told, length_told, cap_told}
use Rattle.rtrace_form.specs.Words.{fields_of}
use Rattle.rtrace_form.specs.Lines.{Line, Opens, HasResource, HasGroup, HasTask, HasCap, Happens, Does, BecomesEntitled, BecomesSatisfied, Grants, Waits, Leaves, Ends, line_by, word_of, meaning, meant_as}
use Rattle.rtrace_form.specs.SoFar.{SoFar, with_line, stands}
use Rattle.rtrace_form.specs.declared.word.Word.{Word}
use Rattle.rtrace_form.specs.declared.word.Word.TheVariants as word
use Rattle.rtrace_form.proofs.facts.Said.{says, word_by}
use Rattle.rtrace_form.proofs.lists.Places.{placed, none_due}
use Rattle.rtrace_form.proofs.forth.Stands.{IsNext, AllNext}

-- two lists of names agree as far as a field needs them
abbrev pub AgreeOn : Names → Names → Field → Type 0
AgreeOn a b OneResource = a.resources ≡ b.resources
AgreeOn a b OneTask = a.tasks ≡ b.tasks
AgreeOn a b Members = a.resources ≡ b.resources
AgreeOn a b _ = Unit {0}

abbrev pub AgreeOnAll : Names → Names → List Field → Type 0
AgreeOnAll a b [] = Unit {0}
AgreeOnAll a b (f ∷ fs) = AgreeOn a b f × AgreeOnAll a b fs

-- then the fields say the same
pub read_same : (a b : Names) (fs : List Field) (row : Row) → AgreeOnAll a b fs → read a fs row ≡ read b fs row
unfolding read
read_same a b [] [] agree = refl
read_same a b [] (x ∷ row) agree = refl
read_same a b (f ∷ fs) [] agree = refl
read_same a b (Said word ∷ fs) (x ∷ row) agree = read_same a b fs row agree.1
read_same a b (Fresh ∷ fs) (x ∷ row) agree = ap (option_map (λ v. (x, v))) (read_same a b fs row agree.1)
read_same a b (OneResource ∷ fs) (x ∷ row) agree = λ i. paired (number_in (agree.0 i) x) (read_same a b fs row agree.1 i)
read_same a b (OneTask ∷ fs) (x ∷ row) agree = λ i. paired (number_in (agree.0 i) x) (read_same a b fs row agree.1 i)
read_same a b (Members ∷ fs) (x ∷ row) agree = λ i. paired (set_told (agree.0 i) x) (read_same a b fs row agree.1 i)
read_same a b (Number ∷ fs) (x ∷ row) agree = ap (paired (number_told x)) (read_same a b fs row agree.1)
read_same a b (Length ∷ fs) (x ∷ row) agree = ap (paired (length_told x)) (read_same a b fs row agree.1)
read_same a b (Limit ∷ fs) (x ∷ row) agree = ap (paired (cap_told x)) (read_same a b fs row agree.1)

-- a record needs the resources only after they are declared, and the tasks only after they are
module _ (a b : Names) where
  needs : (w : Word) → (3 ≤ (stands w).own → a.resources ≡ b.resources) → (5 ≤ (stands w).own → a.tasks ≡ b.tasks) → AgreeOnAll a b (fields_of w)
  needs word.Version r t = (tt, (tt, tt))
  needs word.Resource r t = (tt, (tt, tt))
  needs word.Group r t = (tt, (r (omega arith), tt))
  needs word.Task r t = (tt, (tt, tt))
  needs word.Cap r t = (tt, (tt, tt))
  needs (word.Issue Read) r t = (tt, (t (omega arith), (tt, (r (omega arith), (tt, tt)))))
  needs (word.Issue Write) r t = (tt, (t (omega arith), (tt, (r (omega arith), (tt, tt)))))
  needs (word.Issue Mixed) r t = (tt, (t (omega arith), (tt, (r (omega arith), (r (omega arith), (tt, tt))))))
  needs (word.Issue Upgrade) r t = (tt, (t (omega arith), (tt, (r (omega arith), (tt, (tt, tt))))))
  needs (word.Issue Nested) r t = (tt, (t (omega arith), (tt, (r (omega arith), (r (omega arith), (r (omega arith), (tt, tt)))))))
  needs word.Finish r t = (tt, (t (omega arith), tt))
  needs word.Rise r t = (tt, (t (omega arith), tt))
  needs word.Ask r t = (tt, (t (omega arith), (r (omega arith), tt)))
  needs word.Show r t = (tt, (r (omega arith), (tt, tt)))
  needs (word.Add done) r t = (tt, (r (omega arith), (tt, (tt, tt))))
  needs (word.Take done) r t = (tt, (r (omega arith), (tt, (tt, tt))))
  needs (word.Put done) r t = (tt, (r (omega arith), (tt, (tt, tt))))
  needs (word.Entitled half) r t = (tt, (t (omega arith), (tt, (tt, tt))))
  needs (word.Satisfied half) r t = (tt, (t (omega arith), (tt, (tt, tt))))
  needs word.Grant r t = (tt, (t (omega arith), (r (omega arith), tt)))
  needs (word.Wait which) r t = (tt, (t (omega arith), (tt, (tt, (tt, (tt, (tt, (tt, (tt, tt)))))))))
  needs word.Ledger r t = (tt, (r (omega arith), (tt, (tt, tt))))
  needs word.End r t = (tt, tt)

-- so it says the same line by both
pub means_same : (whole : Bool) (a b : Names) (row : Row) (line : Line) → (3 ≤ (stands (word_of line)).own → a.resources ≡ b.resources) → (5 ≤ (stands (word_of line)).own → a.tasks ≡ b.tasks)
    → meaning whole a row ≡ Some line → meaning whole b row ≡ Some line
unfolding meaning
means_same whole a b row line r t h =
    let told = says whole a row line h in
    let of : word_of line ≡ told.of = ap word_of (sym told.tells) ∙ word_by told.of told.values in
    let agree = needs a b told.of (λ e. r (subst (λ (w : Word). 3 ≤ (stands w).own) (sym of) e)) (λ e. t (subst (λ (w : Word). 5 ≤ (stands w).own) (sym of) e)) in
    ap (meant_as b row) told.is ∙ ap (option_map (line_by told.of)) (sym (read_same a b (fields_of told.of) row agree) ∙ told.reads) ∙ ap (λ (l : Line). Some l) told.tells

-- the place after a line is its own
pub own_place : (whole : Bool) (s : SoFar) (line : Line) → (with_line whole s line).last ≡ (stands (word_of line)).own
own_place whole s Opens = refl
own_place whole s (HasResource name) = refl
own_place whole s (HasGroup group) = refl
own_place whole s (HasTask name) = refl
own_place whole s (HasCap n) = refl
own_place whole s (Happens (event.Issue seat r)) = refl
own_place whole s (Happens (event.Finish seat)) = refl
own_place whole s (Happens (event.Rise seat)) = refl
own_place whole s (Happens (event.Ask seat part)) = refl
own_place whole s (Does (Shown place number)) = refl
own_place whole s (Does (Edited place (edit.Add n) done)) = refl
own_place whole s (Does (Edited place (edit.Take n) done)) = refl
own_place whole s (Does (Edited place (edit.Set n) done)) = refl
own_place whole s (BecomesEntitled seat half) = refl
own_place whole s (BecomesSatisfied seat half) = refl
own_place whole s (Grants seat set) = refl
own_place whole s (Waits seat which cover bound) = refl
own_place whole s (Leaves place ledger) = refl
own_place whole s Ends = refl

-- ---- names stay, once the place is past them

event_far : (whole : Bool) (s : SoFar) (e : Event) → 6 ≤ (with_line whole s (Happens e)).last
event_far whole s (event.Issue seat r) = omega arith
event_far whole s (event.Finish seat) = omega arith
event_far whole s (event.Rise seat) = omega arith
event_far whole s (event.Ask seat part) = omega arith

-- after the resources no line declares one
resources_stay : (whole : Bool) (s : SoFar) (line : Line) → 3 ≤ s.last → IsNext whole s line → ((with_line whole s line).resources ≡ s.resources) × (3 ≤ (with_line whole s line).last)
resources_stay whole s Opens far next = absurd (let at = (placed whole s Opens next.fine (none_due whole s Opens next.fine refl refl)).0 in omega (arith, at.high, far))
resources_stay whole s (HasResource name) far next = absurd (let at = (placed whole s (HasResource name) next.fine (none_due whole s (HasResource name) next.fine refl refl)).0 in omega (arith, at.high, far))
resources_stay whole s (HasGroup group) far next = (refl, omega arith)
resources_stay whole s (HasTask name) far next = (refl, omega arith)
resources_stay whole s (HasCap n) far next = (refl, omega arith)
resources_stay whole s (Happens e) far next = (refl, omega (arith, event_far whole s e))
resources_stay whole s (Does act) far next = (refl, omega arith)
resources_stay whole s (BecomesEntitled seat half) far next = (refl, omega arith)
resources_stay whole s (BecomesSatisfied seat half) far next = (refl, omega arith)
resources_stay whole s (Grants seat set) far next = (refl, omega arith)
resources_stay whole s (Waits seat which cover bound) far next = (refl, omega arith)
resources_stay whole s (Leaves place ledger) far next = (refl, omega arith)
resources_stay whole s Ends far next = (refl, omega arith)

-- after the tasks no line declares one
tasks_stay : (whole : Bool) (s : SoFar) (line : Line) → 5 ≤ s.last → IsNext whole s line → ((with_line whole s line).tasks ≡ s.tasks) × (5 ≤ (with_line whole s line).last)
tasks_stay whole s Opens far next = absurd (let at = (placed whole s Opens next.fine (none_due whole s Opens next.fine refl refl)).0 in omega (arith, at.high, far))
tasks_stay whole s (HasResource name) far next = absurd (let at = (placed whole s (HasResource name) next.fine (none_due whole s (HasResource name) next.fine refl refl)).0 in omega (arith, at.high, far))
tasks_stay whole s (HasGroup group) far next = absurd (let at = (placed whole s (HasGroup group) next.fine (none_due whole s (HasGroup group) next.fine refl refl)).0 in omega (arith, at.high, far))
tasks_stay whole s (HasTask name) far next = absurd (let at = (placed whole s (HasTask name) next.fine (none_due whole s (HasTask name) next.fine refl refl)).0 in omega (arith, at.high, far))
tasks_stay whole s (HasCap n) far next = (refl, omega arith)
tasks_stay whole s (Happens e) far next = (refl, omega (arith, event_far whole s e))
tasks_stay whole s (Does act) far next = (refl, omega arith)
tasks_stay whole s (BecomesEntitled seat half) far next = (refl, omega arith)
tasks_stay whole s (BecomesSatisfied seat half) far next = (refl, omega arith)
tasks_stay whole s (Grants seat set) far next = (refl, omega arith)
tasks_stay whole s (Waits seat which cover bound) far next = (refl, omega arith)
tasks_stay whole s (Leaves place ledger) far next = (refl, omega arith)
tasks_stay whole s Ends far next = (refl, omega arith)

pub resources_kept : (whole : Bool) (s : SoFar) (lines : List Line) → 3 ≤ s.last → AllNext whole s lines → (fold (with_line whole) s lines).resources ≡ s.resources
resources_kept whole s [] far next = refl
resources_kept whole s (line ∷ lines) far next = let one = resources_stay whole s line far next.0 in resources_kept whole (with_line whole s line) lines one.1 next.1 ∙ one.0

pub tasks_kept : (whole : Bool) (s : SoFar) (lines : List Line) → 5 ≤ s.last → AllNext whole s lines → (fold (with_line whole) s lines).tasks ≡ s.tasks
tasks_kept whole s [] far next = refl
tasks_kept whole s (line ∷ lines) far next = let one = tasks_stay whole s line far next.0 in tasks_kept whole (with_line whole s line) lines one.1 next.1 ∙ one.0

-- a line after the resources declares no resource, and one after the tasks no task
pub resources_same : (whole : Bool) (s : SoFar) (line : Line) → 3 ≤ (stands (word_of line)).own → (with_line whole s line).resources ≡ s.resources
resources_same whole s (HasResource name) far = absurd (omega (arith, far))
resources_same whole s _ far = refl

pub tasks_same : (whole : Bool) (s : SoFar) (line : Line) → 5 ≤ (stands (word_of line)).own → (with_line whole s line).tasks ≡ s.tasks
tasks_same whole s (HasTask name) far = absurd (omega (arith, far))
tasks_same whole s _ far = refl
