-- What a call that is not refused knows of its sheet and its box.
use mathlib.Core.Path.{◌≡◌, refl}
use mathlib.Core.Bool.{Bool, true, false, ◌||◌, true≢false}
use Prim.Native.Nat.{◌^◌, ◌≤◌}
use native.Mathlib.Omega.{arith}
use lib.Dec.{ltb, eqb}
use lib.Ieee.{Float, nan, inf, fin, binary32, fits}
use borrow.Author.Tests.{ltb-false, eqb-false}
use denote.Floats.{passes}
use Rattle.types.specs.declared.shape.Aabb2.{Aabb2}
use Rattle.float.specs.Units.{in_units}
use Rattle.tiles.specs.Sheet.{Sheet}
use Rattle.tiles.specs.Cover.{F32}
use Rattle.tiles.specs.Answer.{bad_sheet_of, bad_coordinate_of, bad_box_of}

-- a coordinate: a finite f32, at most 2 ^ 20 in size
abbrev pub Taken : Float → Type 0
Taken x = F32 x × (in_units x ≤ 2 ^ 169)

pub taken : (x : Float) → fits binary32 x ≡ true → bad_coordinate_of x ≡ false → Taken x
taken nan f h = absurd (true≢false h)
taken (inf s) f h = absurd (true≢false h)
taken (fin s m e) f h = ((passes _ f, tt), ltb-false (2 ^ 169) (in_units (fin s m e)) h)

pub record Sides (s : Sheet) : Type 0 where
  pub size_low : 1 ≤ s.size
  pub size_high : s.size ≤ 4096
  pub width_high : s.width ≤ 16384
  pub height_high : s.height ≤ 16384

none_of : (a b c d : Bool) → (a || b || c || d) ≡ false → (a ≡ false) × (b ≡ false) × (c ≡ false) × (d ≡ false)
none_of true b c d h = absurd (true≢false h)
none_of false true c d h = absurd (true≢false h)
none_of false false true d h = absurd (true≢false h)
none_of false false false d h = (refl, refl, refl, h)

pub sides : (s : Sheet) → bad_sheet_of s ≡ false → Sides s
sides s h =
    let n = none_of (eqb s.size 0) (ltb 4096 s.size) (ltb 16384 s.width) (ltb 16384 s.height) h in
    record {
      size_low = let z : s.size ≡ 0 → ⊥ = eqb-false s.size 0 n.0 in omega arith;
      size_high = ltb-false 4096 s.size n.1;
      width_high = ltb-false 16384 s.width n.2;
      height_high = ltb-false 16384 s.height n.3;
    }

pub record Corners (b : Aabb2) : Type 0 where
  pub min_x : bad_coordinate_of b.min_x ≡ false
  pub min_y : bad_coordinate_of b.min_y ≡ false
  pub max_x : bad_coordinate_of b.max_x ≡ false
  pub max_y : bad_coordinate_of b.max_y ≡ false

pub corners : (b : Aabb2) → bad_box_of b ≡ false → Corners b
corners b h =
    let n = none_of (bad_coordinate_of b.min_x) (bad_coordinate_of b.min_y) (bad_coordinate_of b.max_x) (bad_coordinate_of b.max_y) h in
    record { min_x = n.0; min_y = n.1; max_x = n.2; max_y = n.3 }
