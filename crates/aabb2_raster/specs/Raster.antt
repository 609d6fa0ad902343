-- The pixels whose centres lie in a box, low edge in and high edge out, each operation rounded. Definitions only.
use Rattle.std.specs.Prelude.{cond, ℕ, pos, Float, Result, Ok, Err}
use Rattle.std.specs.Float.{binary32}
use Rattle.std.specs.Float.Ieee.{of_int, to_unsigned}
use Rattle.types.specs.declared.shape.Aabb2.{Aabb2}
use Rattle.types.specs.declared.answer.Pixels.{Pixels}
use Rattle.types.specs.declared.refusal.Refusal.{Refusal}
use Rattle.types.specs.declared.refusal.Refusal.TheVariants.{Size}
use Rattle.types.specs.Side.{sides_too_large_of}
use Rattle.float.specs.Rounded.{◌⊖◌, +0, half}
use Rattle.float.specs.Values.{min_of, max_of}
use Rattle.rounding.specs.Values.{ceil_of}

-- The centre of pixel i is i + 1/2. The first pixel whose centre is not below low is the ceiling of low - 1/2, from 0 on;
-- it is not held to the image. A NaN gives 0.
abbrev pub first_pixel_of : Float → ℕ
first_pixel_of low = to_unsigned 64 (max_of (ceil_of (low ⊖ half)) +0)

-- one past the last pixel of the image whose centre is below high; a NaN gives the whole side
abbrev pub end_pixel_of : Float → ℕ → ℕ
end_pixel_of high side = to_unsigned 64 (min_of (ceil_of (high ⊖ half)) (of_int binary32 (pos side)))

-- Size for an image side above 16,384
unfoldable pub rasterize_of : Aabb2 → ℕ → ℕ → Result Pixels Refusal
rasterize_of b width height =
    cond (sides_too_large_of width height)
    (Err Size)
    (Ok
    (record {
      x0 = first_pixel_of b.min_x;
      y0 = first_pixel_of b.min_y;
      x1 = end_pixel_of b.max_x width;
      y1 = end_pixel_of b.max_y height;
    }))
