-- The size of a number, by whole numbers. Definitions only.
use Rattle.std.specs.Prelude.{ℕ, ◌*◌, ◌≤◌, Float}
use Rattle.std.specs.Float.{nan, inf, fin}
use Rattle.std.specs.Float.Ieee.{up, down}

-- x is finite and at most k in size
abbrev pub Size : ℕ → Float → Type 0
Size k nan = ⊥
Size k (inf s) = ⊥
Size k (fin s m e) = m * up e ≤ k * down e
