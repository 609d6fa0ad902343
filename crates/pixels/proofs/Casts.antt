-- How large a coordinate is when it is cut to an integer.
use Rattle.std.proofs.Common.{◌≡◌, ℕ, pos, ◌*◌, ◌/◌, ◌<◌, ◌≤◌, true, false, zero-le, div-lt_iff_lt-mul, arith}
use Rattle.types.specs.declared.shape.Vec2.{Vec2}
use Rattle.float.specs.Rounded.{+0}
use Rattle.rounded.proofs.Down.{both}
use Rattle.stroke.specs.Image.{on_side_of, in_sides_of, on_image}
use lib.Ieee.{Float, binary32, le, lt, of_int, nan, inf, fin, up, down, to_unsigned}
use lib.Ieee.Fits.{down_pos}
use Rattle.rounded.specs.Size.{Size}

pub cut_le : (x : Float) → Size 196610 x → to_unsigned 64 x ≤ 196610
unfolding to_unsigned
cut_le nan h = absurd h
cut_le (inf s) h = absurd h
cut_le (fin true m e) h = zero-le
cut_le (fin false m e) h =
    let q : m * up e / down e < 196611 = (div-lt_iff_lt-mul (down_pos e)).1 (omega (arith, down_pos e)) in omega arith

-- neither coordinate of a position in the image is below zero
pub signs : (w h : ℕ) (p : Vec2) → on_image w h p ≡ true → (le +0 p.x ≡ true) × (le +0 p.y ≡ true)
unfolding in_sides_of on_side_of
signs w h p t =
    let wide = of_int binary32 (pos w) in
    let high = of_int binary32 (pos h) in
    let b = both (on_side_of wide p.x) (on_side_of high p.y) t in
    ((both (le +0 p.x) (lt p.x wide) b.0).0, (both (le +0 p.y) (lt p.y high) b.1).0)
