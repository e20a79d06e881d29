-- The text of a history with what its sections did.
use Rattle.std.specs.Prelude.{ℕ, Bool, true, false, List, ◌++◌, Some, codes, decimal, flat_map}
use Rattle.rset.specs.Sets.{Set}
use Rattle.rvalue.specs.Entries.{EntryFields}
use Rattle.rvalue.specs.declared.act.Act.{Act}
use Rattle.rvalue.specs.declared.act.Act.TheVariants.{Edited, Shown}
use Rattle.rtrace_form.specs.Fields.{Names}
use Rattle.rtrace_form.specs.Lines.{Happens}
use Rattle.rtrace_form.specs.Reports.{declared_lines}
use Rattle.rtrace_form.specs.SetFields.{name_at}
use Rattle.rtrace_write.specs.Told.{told, told_line}

-- the end of an edit's line: whether it was taken
abbrev pub answer_text : Bool → List ℕ
answer_text true = codes ",taken\n"
answer_text false = codes ",untaken\n"

module _ {E : Type 0} (words : E → List ℕ) where
  -- the line of an act: an edit with its words and whether it was taken, or a show with its number
  abbrev pub act_text : List (List ℕ) → Act E → List ℕ
  act_text resources (Edited place edit done) = codes "edit," ++ (name_at resources place ++ (codes "," ++ (words edit ++ answer_text done)))
  act_text resources (Shown place number) = codes "show," ++ (name_at resources place ++ (codes "," ++ (decimal number ++ codes "\n")))

  -- the lines of an entry: that of its event, and those of its acts in order
  abbrev pub entry_text : Names → List (List ℕ) → EntryFields E → List ℕ
  entry_text names resources entry = told_line names (Happens entry.event) ++ flat_map (act_text resources) entry.acts

  -- the text of a history with these names, groups and cap
  abbrev pub history_text : List (List ℕ) → List Set → List (List ℕ) → ℕ → List (EntryFields E) → List ℕ
  history_text resources groups tasks cap entries =
      let names : Names = record { resources = resources; tasks = tasks } in
      told names (declared_lines resources groups tasks (Some cap)) ++ (flat_map (entry_text names resources) entries ++ codes "end\n")
