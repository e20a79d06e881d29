-- What records report of waits that ended.
use Rattle.std.specs.Prelude.{ℕ, ◌<◌, List, map}
use Rattle.std.specs.List.{AllByRecursion}
use Rattle.rbound.specs.Bounds.{Numbers}
use Rattle.rcover_laws.specs.declared.wait_end.WaitEnd.{WaitEnd}

-- a record, by its number, reports a bound of a wait that ended
pub record Told : Type 0 where
  pub number : ℕ
  pub wait : WaitEnd
  pub bound : Numbers

-- the reported bounds, each with the number of its record
abbrev pub said : List Told → List (ℕ × Numbers)
said items = map (λ (item : Told). (item.number, item.bound)) items

-- the waits with reported bounds
abbrev pub waits_of : List Told → List WaitEnd
waits_of items = map (λ (item : Told). item.wait) items

-- all are in records with lower numbers than this
abbrev pub AreBefore : ℕ → List Told → Type 0
AreBefore number items = AllByRecursion (λ (item : Told). item.number < number) items
