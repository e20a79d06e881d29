-- The sections of a task, one after another.
use Rattle.std.specs.Prelude.{ℕ, ◌+◌, ◌-◌, ◌==◌, Bool, length, true, false, List, [], ◌∷◌, get_or, if◌then◌else◌}
use Rattle.rscript.specs.declared.statement.Statement.{Statement}
use Rattle.rscript.specs.declared.statement.Statement.TheVariants.{Begin, Edit, Show, Ask, Rise, Finish}

-- whether a section ends with the statement
abbrev pub ends_section : Statement → Bool
ends_section (Begin r) = false
ends_section (Edit place edit) = false
ends_section (Show place) = false
ends_section (Ask part) = false
ends_section Rise = false
ends_section Finish = true

-- the statements of the first k sections
abbrev pub first_sections : ℕ → List Statement → List Statement
first_sections k [] = []
first_sections k (s ∷ statements) = if k == 0 then [] else s ∷ first_sections (if ends_section s then k - 1 else k) statements

-- the statements after the first k sections
abbrev pub behind_sections : ℕ → List Statement → List Statement
behind_sections k [] = []
behind_sections k (s ∷ statements) = if k == 0 then s ∷ statements else behind_sections (if ends_section s then k - 1 else k) statements

-- the statements of the first section
abbrev pub first_section : List Statement → List Statement
first_section [] = []
first_section (s ∷ statements) = s ∷ (if ends_section s then [] else first_section statements)

-- the section number k, counted from 0; empty after the last section
abbrev pub section_at : ℕ → List Statement → List Statement
section_at k statements = first_section (behind_sections k statements)

-- after how many statements the sections end, where this many stand before
abbrev pub ends_from : ℕ → List Statement → List ℕ
ends_from n [] = []
ends_from n (s ∷ statements) = if ends_section s then (n + 1) ∷ ends_from (n + 1) statements else ends_from (n + 1) statements

-- after how many statements the section number k ends; after all of them if there is no such section
abbrev pub end_of : ℕ → List Statement → ℕ → ℕ
end_of n statements k = get_or (ends_from n statements) k (n + length statements)

-- after how many statements it begins
abbrev pub start_of : ℕ → List Statement → ℕ → ℕ
start_of n statements k = if k == 0 then n else end_of n statements (k - 1)
