-- Records without a fault spell what they have said together; those without a fault of their own do so but for the bounds of waits.
use Rattle.std.proofs.Common.{◌≡◌, ℕ, ◌+◌, true, false, suc, ◌≤◌, ◌<◌, ◌^◌, Bool, List, [], ◌∷◌, length, fold, Some, None, refl, sym, ap, subst, ◌∙◌, arith}
use Rattle.std.specs.Prelude.{option_and_then}
use Rattle.std.specs.List.{AllZip}
use Rattle.rbound.specs.Bounds.{Numbers}
use Rattle.std.proofs.lemmas.Bool.{eqb-true}
use Rattle.rtrace_form.specs.Records.{Row}
use Rattle.rtrace_form.specs.Words.{fields_of}
use Rattle.rtrace_form.specs.Lines.{Line, meaning}
use Rattle.rtrace_form.specs.Heads.{IsHead}
use Rattle.rtrace_form.specs.Waits.{no_bounds, bound_in}
use Rattle.rtrace_form.specs.Reports.{Spells, lines_of, IsLawful}
use Rattle.rtrace_form.specs.SoFar.{SoFar, nothing_yet, names_in, head_in, entries_in, lock_in, told_in, with_line, with_meaning, with_row}
use Rattle.rtrace_form.specs.Walks.{AllClean}
use Rattle.rtrace_form.specs.Faults.{code_of, is_ended, first_record_fault, read_all}
use Rattle.rtrace_form.specs.WrongBounds.{bound_told, or_more, bounds_said, bounds_due, wrong_bound, first_other, first_wrong_bound, first_fault}
use Rattle.rtrace_form.specs.declared.fault.Code.TheVariants.{NoEnd}
use Rattle.rtrace_form.proofs.facts.Walks.{no_fault, or_none}
use Rattle.rtrace_form.proofs.facts.Said.{says, clean, IsClean}
use Rattle.rtrace_form.proofs.facts.ReadGood.{read_good}
use Rattle.rtrace_form.proofs.facts.Coming.{MayCome, may_come, map_none}
use Rattle.rtrace_form.proofs.lists.BlankLines.{blank, lines_blank}
use Rattle.rtrace_form.proofs.lists.Likes.{told_from, bounds_in, likes_are, bounds_are_due}
use Rattle.rtrace_form.proofs.lists.NoActs.{none_told}
use Rattle.rtrace_form.proofs.lists.Histories.{lock-resources, lock-tasks}
use Rattle.rtrace_form.proofs.forth.Stands.{IsNext, AllNext}
use Rattle.rtrace_form.proofs.forth.Lines.{AreLines, lines_spell}
use Rattle.rtrace_form.proofs.forth.Names.{means_same, own_place, resources_kept, tasks_kept, resources_same, tasks_same}

-- each record says the line at its place, by the names that were declared before it
abbrev pub SayInTurn : Bool → SoFar → List Row → List Line → Type 0
SayInTurn whole s [] [] = Unit {0}
SayInTurn whole s [] (line ∷ lines) = ⊥
SayInTurn whole s (row ∷ rows) [] = ⊥
SayInTurn whole s (row ∷ rows) (line ∷ lines) = (meaning whole (names_in s) row ≡ Some line) × SayInTurn whole (with_line whole s line) rows lines

-- what records without a fault have said
pub record HaveSaid (whole : Bool) (s : SoFar) (rows : List Row) : Type 0 where
  pub lines : List Line
  pub said : SayInTurn whole s rows lines
  pub next : AllNext whole s lines
  pub leads : fold (with_row whole) s rows ≡ fold (with_line whole) s lines
  pub many : length lines ≡ length rows

row_leads : (whole : Bool) (s : SoFar) (row : Row) (line : Line) → meaning whole (names_in s) row ≡ Some line → with_row whole s row ≡ with_line whole s line
unfolding with_row
row_leads whole s row line means = ap (with_meaning whole s) means

-- the line of a record without a fault may come next
line_next : (whole : Bool) (s : SoFar) (row : Row) (c : IsClean whole s row) → IsNext whole s c.line
line_next whole s row c =
    let told = says whole (names_in s) row c.line c.means in
    record {
      room = c.room;
      fine = c.fine;
      comes = λ stamps. subst (λ (line : Line). MayCome (lock_in s) line) told.tells
          (may_come (lock_in s) (names_in s) (lock-resources (head_in s) (entries_in s)) (lock-tasks (head_in s) (entries_in s)) stamps told.of told.values
          (read_good (names_in s) (fields_of told.of) row told.values told.reads));
    }

rows_said : (whole : Bool) (s : SoFar) (rows : List Row) → AllClean (code_of whole) (with_row whole) s rows → HaveSaid whole s rows
rows_said whole s [] all = record { lines = []; said = tt; next = tt; leads = refl; many = refl }
rows_said whole s (row ∷ rows) all =
    let c = clean whole s row all.0 in
    let leads = row_leads whole s row c.line c.means in
    let rest = rows_said whole (with_line whole s c.line) rows (subst (λ (t : SoFar). AllClean (code_of whole) (with_row whole) t rows) leads all.1) in
    record {
      lines = c.line ∷ rest.lines;
      said = (c.means, rest.said);
      next = (line_next whole s row c, rest.next);
      leads = ap (λ (t : SoFar). fold (with_row whole) t rows) leads ∙ rest.leads;
      many = ap (λ n. suc n) rest.many;
    }

-- and by all names in the end
said_by_all : (whole : Bool) (s : SoFar) (rows : List Row) (lines : List Line) → SayInTurn whole s rows lines → AllNext whole s lines
    → AllZip (λ row line. meaning whole (names_in (fold (with_line whole) s lines)) row ≡ Some line) rows lines
said_by_all whole s [] [] said next = tt
said_by_all whole s [] (line ∷ lines) said next = absurd said
said_by_all whole s (row ∷ rows) [] said next = absurd said
said_by_all whole s (row ∷ rows) (line ∷ lines) said next =
    let then = with_line whole s line in
    let place = own_place whole s line in
    let all = fold (with_line whole) then lines in (
      means_same whole (names_in s) (names_in all) row line
          (λ far. sym (resources_kept whole then lines (subst (λ n. 3 ≤ n) (sym place) far) next.1 ∙ resources_same whole s line far))
          (λ far. sym (tasks_kept whole then lines (subst (λ n. 5 ≤ n) (sym place) far) next.1 ∙ tasks_same whole s line far))
          said.0,
      said_by_all whole then rows lines said.1 next.1,
    )

-- what records without a fault of their own have said: the lines of a report, but for the bounds of waits
pub record HaveTold (whole : Bool) (rows : List Row) (s : SoFar) : Type 0 where
  pub lines : List Line
  pub said : AllZip (λ row line. meaning whole (names_in s) row ≡ Some line) rows lines
  pub are : blank lines ≡ lines_of whole no_bounds s.cap (told_in s)
  pub bounds : bounds_said whole 1 nothing_yet rows ≡ told_from 1 lines
  pub head : IsHead (head_in s) s.cap
  pub lawful : IsLawful (head_in s) (entries_in s)

bounds_told : (whole : Bool) (n : ℕ) (s : SoFar) (rows : List Row) (lines : List Line) → SayInTurn whole s rows lines → bounds_said whole n s rows ≡ told_from n lines
unfolding bounds_said
bounds_told whole n s [] [] said = refl
bounds_told whole n s [] (line ∷ lines) said = absurd said
bounds_told whole n s (row ∷ rows) [] said = absurd said
bounds_told whole n s (row ∷ rows) (line ∷ lines) said =
    (λ i. or_more n (option_and_then bound_told (said.0 i)) (bounds_said whole (n + 1) (row_leads whole s row line said.0 i) rows))
    ∙ ap (or_more n (bound_told line)) (bounds_told whole (n + 1) (with_line whole s line) rows lines said.1)

told_of : (whole : Bool) (rows : List Row) (said : HaveSaid whole nothing_yet rows) → AreLines whole (fold (with_line whole) nothing_yet said.lines) (blank said.lines)
    → HaveTold whole rows (fold (with_line whole) nothing_yet said.lines)
told_of whole rows said are = record {
  lines = said.lines;
  said = said_by_all whole nothing_yet rows said.lines said.said said.next;
  are = are.are;
  bounds = bounds_told whole 1 nothing_yet rows said.lines said.said;
  head = are.head;
  lawful = are.lawful;
}

pub have_told : (whole : Bool) (rows : List Row) → length rows < 2 ^ 63 → first_record_fault whole rows ≡ None → HaveTold whole rows (read_all whole rows)
have_told whole rows short h =
    let parts = no_fault (code_of whole) (with_row whole) is_ended NoEnd 1 nothing_yet rows h in
    let said = rows_said whole nothing_yet rows parts.0 in
    let nine : (fold (with_line whole) nothing_yet said.lines).last ≡ 9 = ap (λ (s : SoFar). s.last) (sym said.leads) ∙ eqb-true (read_all whole rows).last 9 parts.1 in
    let are = lines_spell whole said.lines (omega (arith, said.many, short)) said.next nine in
    subst (HaveTold whole rows) (sym said.leads) (told_of whole rows said are)

none_differs : (whole : Bool) (rows : List Row) (told : HaveTold whole rows (read_all whole rows)) → first_wrong_bound whole rows ≡ None
    → first_other (told_from 1 told.lines) (bounds_in (lines_of whole (bound_in (head_in (read_all whole rows)) (entries_in (read_all whole rows))) (read_all whole rows).cap (told_in (read_all whole rows)))) ≡ None
unfolding first_other
none_differs true rows told right =
    let s = read_all true rows in
    (λ i. first_other (sym told.bounds i) (bounds_are_due s.cap (told_in s) i)) ∙ map_none wrong_bound (first_other (bounds_said true 1 nothing_yet rows) (bounds_due (head_in s) (entries_in s))) right
none_differs false rows told right =
    let s = read_all false rows in
    ap (λ (bounds : List (ℕ × Numbers)). first_other bounds (bounds_in (lines_of false (bound_in (head_in s) (entries_in s)) s.cap (told_in s)))) (none_told (names_in s) rows told.lines told.said 1)

-- and where no bound is wrong, they spell it
pub right_bounds : (whole : Bool) (rows : List Row) → HaveTold whole rows (read_all whole rows) → first_wrong_bound whole rows ≡ None → Spells whole rows (told_in (read_all whole rows))
right_bounds whole rows told right =
    let s = read_all whole rows in
    let dues = lines_of whole (bound_in (head_in s) (entries_in s)) s.cap (told_in s) in
    let same : told.lines ≡ dues = likes_are 1 told.lines dues (told.are ∙ sym (lines_blank whole (bound_in (head_in s) (entries_in s)) s.cap (told_in s))) (none_differs whole rows told right) in
    record {
      told = s.cap;
      said = subst (λ (lines : List Line). AllZip (λ row line. meaning whole (names_in s) row ≡ Some line) rows lines) same told.said;
      head = told.head;
      lawful = told.lawful;
    }

pub spells : (whole : Bool) (rows : List Row) → length rows < 2 ^ 63 → first_fault whole rows ≡ None → Spells whole rows (told_in (read_all whole rows))
spells whole rows short h =
    let parts = or_none (first_record_fault whole rows) (first_wrong_bound whole rows) h in
    right_bounds whole rows (have_told whole rows short parts.0) parts.1
