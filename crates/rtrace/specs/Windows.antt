-- The window on a source: what was read of it and not yet taken.
use Rattle.std.specs.Prelude.{◌≡◌, ◌≤◌, ◌+◌, ℕ, List, ◌++◌, length, take}
use Rattle.rtrace.specs.declared.window.Window.{Window}

-- what is held
abbrev pub held : Window → List ℕ
held w = take w.filled w.bytes.items

-- what is held lies within the room, and no more than the limit was taken
pub record IsSound (w : Window) : Type 0 where
  pub within : w.filled ≤ length w.bytes.items
  pub taken : w.taken ≤ w.limit

-- a piece more is held
pub record Gains (before after : Window) (piece : List ℕ) : Type 0 where
  pub held : held after ≡ held before ++ piece
  pub taken : after.taken ≡ before.taken + length piece
  pub limit : after.limit ≡ before.limit
  pub sound : IsSound after
