-- A place as the Rust writes it, `(x / size as f32).floor() as i32`, is the place of the definitions. Definitions only.
use Rattle.std.specs.Prelude.{◌≡◌, true, false, ℕ, ◌≤◌, ℤ, pos, Float}
use Rattle.std.specs.Float.{binary32}
use Rattle.std.specs.Float.Ieee.{of_int, to_signed, fits}
use Rattle.float.specs.Rounded.{◌⊘◌}
use Rattle.rounding.specs.Values.{floor_of}
use Rattle.tiles.specs.Tiles.{place}
use Rattle.tiles.specs.Answer.{bad_coordinate_of}

abbrev pub rust_place : ℕ → Float → ℤ
rust_place size x = to_signed 31 (floor_of (x ⊘ of_int binary32 (pos size)))

-- for each f32 and each size that is not refused, tiny coordinates too
abbrev pub SamePlace : Type 0
SamePlace = (x : Float) (size : ℕ) → fits binary32 x ≡ true → bad_coordinate_of x ≡ false → 1 ≤ size → size ≤ 4096 → rust_place size x ≡ place size x
