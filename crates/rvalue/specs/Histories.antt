-- Histories: the edits on a resource in order, its value, and whether every answer is right.
use Rattle.std.specs.Prelude.{ℕ, Bool, List, [], ◌∷◌, ◌++◌, fold, refl}
use Rattle.std.specs.Coded.{Coded, code_by, coded_ℕ, coded×, coded_list}
use Rattle.rvalue.specs.InTurn.{AllInTurn}
use Rattle.rvalue.specs.Acts.{AnswersAreRight}
use Rattle.rvalue.specs.Entries.{EntryFields, entry_code, edits_of}

-- what a history has: the entries in order, and how many more there is room for. Claims on what was done are about the entries alone
pub record HistoryContents (E : Type 0) : Type 0 where
  pub entries : List (EntryFields E)
  pub spare : ℕ

-- a history is coded as the pair of its fields
abbrev pub history_code : {E : Type 0} → Coded E → Coded (HistoryContents E)
history_code {E} code =
    code_by (List (EntryFields E) × ℕ) (coded× (coded_list (entry_code code)) coded_ℕ)
    (λ h. (h.entries, h.spare))
    (λ p. record { entries = p.0; spare = p.1 })
    (λ _. refl)

-- a history as it begins
abbrev pub no_entries : {E : Type 0} → HistoryContents E
no_entries = record { entries = []; spare = 0 }

-- the edits on the resource in the history, in order
abbrev pub edits_on : {E : Type 0} → List (EntryFields E) → ℕ → List E
edits_on [] l = []
edits_on (entry ∷ entries) l = edits_of entry l ++ edits_on entries l

-- the value of the resource after the history, from its opening value
abbrev pub value_of : {V E : Type 0} → (V → E → V) → V → List (EntryFields E) → ℕ → V
value_of after opening entries l = fold after opening (edits_on entries l)

-- `openings` are the values of the resources as the history begins
module _ {V E : Type 0} (after : V → E → V) (taken : V → E → Bool) (number : V → ℕ) (openings : ℕ → V) where
  -- after the earlier entries, the acts of the entry have the answers that the values then give
  abbrev pub EntryAnswersRightly : List (EntryFields E) → EntryFields E → Type 0
  EntryAnswersRightly earlier entry =
      AnswersAreRight after taken number (λ l. value_of after (openings l) earlier l) entry.acts

  -- all acts of the history have the right answers
  abbrev pub HistoryAnswersRightly : List (EntryFields E) → Type 0
  HistoryAnswersRightly entries = AllInTurn EntryAnswersRightly [] entries
