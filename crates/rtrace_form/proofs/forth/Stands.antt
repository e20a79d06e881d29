-- Where lines without a fault have led: what they are, by what they have said.
use Rattle.std.proofs.Common.{◌≡◌, ◌≤◌, ◌<◌, ◌^◌, Bool, true, false, List, [], ◌∷◌, ◌++◌, length, map, Some, None, sym, ap, subst, ◌∙◌, arith, inl, inr}
use Rattle.std.specs.Prelude.{option_to_list}
use Rattle.std.proofs.lemmas.List.{append-nil}
use Rattle.rset.specs.Names.{is_table}
use Rattle.rset.specs.declared.TheConstants.{RESOURCES, SEATS}
use Rattle.rtrace_form.specs.Heads.{is_nil, are_read_groups}
use Rattle.rtrace_form.specs.Lines.{Line, Happens, Does, word_of}
use Rattle.rtrace_form.specs.Reports.{Entry, declared_lines, head_lines, history_lines, ledger_lines, lines_of, due_lines, IsLawful}
use Rattle.rtrace_form.specs.Waits.{no_bounds}
use Rattle.rtrace_form.specs.SoFar.{SoFar, entries_in, head_in, lock_in, told_in, with_line}
use Rattle.rtrace_form.specs.Faults.{is_group_more}
use Rattle.rtrace_form.proofs.facts.Fine.{IsFine}
use Rattle.rtrace_form.proofs.facts.Coming.{MayCome}
use Rattle.rtrace_form.proofs.lists.Places.{up_to_five}

-- a line may come next: nothing is wrong with it, and its event is accepted by the lock, while stamps are left
pub record IsNext (whole : Bool) (s : SoFar) (line : Line) : Type 0 where
  pub room : is_group_more s (word_of line) ≡ false
  pub fine : IsFine whole s line
  pub comes : (lock_in s).issued < 2 ^ 63 → MayCome (lock_in s) line

-- each of these lines may come next
abbrev pub AllNext : Bool → SoFar → List Line → Type 0
AllNext whole s [] = Unit {0}
AllNext whole s (line ∷ lines) = IsNext whole s line × AllNext whole (with_line whole s line) lines

-- what is declared so far is what a head may have, as far as it has come
pub record IsDeclared (s : SoFar) : Type 0 where
  pub resources : is_table RESOURCES s.resources ≡ true
  pub tasks : is_table SEATS s.tasks ≡ true
  pub grouped : are_read_groups s.groups ≡ true
  pub some_resource : 2 ≤ s.last → is_nil s.resources ≡ false
  pub some_task : 4 ≤ s.last → is_nil s.tasks ≡ false
  pub no_resources : s.last ≤ 1 → s.resources ≡ []
  pub no_groups : s.last ≤ 2 → s.groups ≡ []
  pub no_tasks : s.last ≤ 3 → s.tasks ≡ []
  pub no_cap : s.last ≤ 4 → s.cap ≡ None

-- the lines of the head, and of the history so far
abbrev pub front_of : Bool → SoFar → List Line
front_of whole s = head_lines (head_in s) s.cap ++ history_lines whole no_bounds (head_in s) [] (entries_in s)

-- the lines before the latest entry
abbrev pub front_before : Bool → SoFar → List Line
front_before whole s = head_lines (head_in s) s.cap ++ history_lines whole no_bounds (head_in s) [] s.earlier

-- the latest entry may have acts, and nothing that is due after it was given
pub record IsOpen (whole : Bool) (s : SoFar) (lines : List Line) : Type 0 where
  pub entry : Entry
  pub is : s.latest ≡ Some entry
  pub are : lines ≡ front_before whole s ++ Happens entry.event ∷ map Does entry.acts
  pub due : s.due ≡ due_lines whole no_bounds (head_in s) s.earlier entry.event

-- these lines have led to the state; they have no bounds
pub record Stands (whole : Bool) (s : SoFar) (lines : List Line) : Type 0 where
  pub declared : IsDeclared s
  pub none : s.last ≡ 0 → lines ≡ []
  pub heads : 1 ≤ s.last → s.last ≤ 5 → lines ≡ declared_lines s.resources s.groups s.tasks s.cap
  pub earlier : s.last ≤ 5 → s.earlier ≡ []
  pub latest : s.last ≤ 5 → s.latest ≡ None
  pub due : s.last ≤ 5 → s.due ≡ []
  pub few : length (entries_in s) ≤ length lines
  pub lawful : 6 ≤ s.last → IsLawful (head_in s) (entries_in s)
  pub history : 6 ≤ s.last → s.last ≤ 7 → lines ++ s.due ≡ front_of whole s
  pub acts : s.last ≡ 6 → IsOpen whole s lines
  pub ledgers : s.last ≡ 8 → lines ++ s.due ≡ front_of whole s ++ ledger_lines whole (head_in s) (entries_in s)
  pub ended : s.last ≡ 9 → lines ≡ lines_of whole no_bounds s.cap (told_in s)

module _ (whole : Bool) (s : SoFar) (lines : List Line) (h : Stands whole s lines) where
  -- in the head nothing has happened
  pub no_entries : s.last ≤ 5 → entries_in s ≡ []
  no_entries low = λ i. h.earlier low i ++ option_to_list (h.latest low i)

  lawful_nothing : (entries : List Entry) → entries ≡ [] → IsLawful (head_in s) entries
  lawful_nothing entries none = subst (λ (xs : List Entry). IsLawful (head_in s) xs) (sym none) tt

  pub lawful_so_far : IsLawful (head_in s) (entries_in s)
  lawful_so_far = elim (up_to_five s.last) [ inl low ↦ lawful_nothing (entries_in s) (no_entries low) | inr high ↦ h.lawful high ]

  no_history : (entries : List Entry) → entries ≡ [] → head_lines (head_in s) s.cap ≡ head_lines (head_in s) s.cap ++ history_lines whole no_bounds (head_in s) [] entries
  unfolding history_lines
  no_history entries none =
      sym (append-nil (head_lines (head_in s) s.cap)) ∙ ap (λ (xs : List Entry). head_lines (head_in s) s.cap ++ history_lines whole no_bounds (head_in s) [] xs) (sym none)

  -- after the head and before the ledgers, where no change is due, the lines are those of the head and of the history
  pub front_lines : 4 ≤ s.last → s.last ≤ 7 → s.due ≡ [] → lines ≡ front_of whole s
  front_lines tasks early none = elim (up_to_five s.last) [
    | inl low ↦ h.heads (omega (arith, tasks)) low ∙ no_history (entries_in s) (no_entries low)
    | inr high ↦ sym (append-nil lines) ∙ ap (λ (due : List Line). lines ++ due) (sym none) ∙ h.history high early
  ]
