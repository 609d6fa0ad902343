-- The positions at the ratios 0 and 1 are a stroke's ends, to the sign of a zero, and the length between equal points is the same. A position
-- at any ratio from 0 to 1 is finite.
use mathlib.Core.Path.{◌≡◌, ap, ◌∙◌}
use mathlib.Core.Bool.{Bool, true, false}
use lib.Dec.{lit≤}
use lib.Ieee.{Float, binary32, round, sum, add, mul, eq, of_bits}
use lib.Ieee.Fits.{mul-fits}
use Rattle.types.specs.declared.shape.Vec2.{Vec2}
use Rattle.float.specs.Rounded.{◌⊕◌, ◌⊖◌, ◌⊗◌, +0, one}
use Rattle.root.specs.Root.{sqrt_of}
use Rattle.root.proofs.Special.{sqrt_of_zero}
use Rattle.edge2_measure.specs.Measure.{length_of, position_from_ratio_of}
use Rattle.rounded.specs.Size.{Size}
use Rattle.rounded.proofs.Round.{signed_zero}
use Rattle.rounded.proofs.Sizes.{size_wider, add_size, sub_size, mul_size}
use Rattle.rounded.proofs.Order.{level_trans, level_sub, level_square}
use Rattle.rounded.proofs.Numbers.{sized_number, sub_number}
use Rattle.rounded.proofs.Exact.{add_turned, plus_zero, times_zero, times_one, one_less_zero, sub_itself}
use Rattle.stroke_check.proofs.Accepted.{Coordinate, Bounded}

-- ---- sizes

pub one_size : Size 1 one
unfolding of_bits
one_size = lit≤ tt

-- one coordinate of the position at ratio t
abbrev pub along : Float → Float → Float → Float
along p q t = (one ⊖ t) ⊗ p ⊕ t ⊗ q

pub along_size : (p q t : Float) → Coordinate p → Coordinate q → Size 1 t → Size 196608 (along p q t)
along_size p q t P Q h =
    add_size 131072 65536 ((one ⊖ t) ⊗ p) (t ⊗ q)
    (mul_size 2 65536 (one ⊖ t) p (sub_size 1 1 one t one_size h (lit≤ tt)) P.size (lit≤ tt))
    (mul_size 1 65536 t q h Q.size (lit≤ tt)) (lit≤ tt)

-- ---- at 0 and at 1

times_one_size : {x : Float} → Coordinate x → Size 65536 (one ⊗ x)
times_one_size {x} X = mul_size 1 65536 one x one_size X.size (lit≤ tt)

one_and_zero : {x : Float} → Coordinate x → (w : Bool) → eq (one ⊗ x ⊕ signed_zero w) x ≡ true
one_and_zero {x} X w =
    let y = one ⊗ x in
    let Y = times_one_size X in
    level_trans (y ⊕ signed_zero w) y x
    (sized_number 65536 (y ⊕ signed_zero w) (add_size 65536 0 y (signed_zero w) Y (lit≤ tt) (lit≤ tt)))
    (sized_number 65536 y Y) (sized_number 65536 x X.size)
    (plus_zero y w (mul-fits binary32 one x) (size_wider 65536 8388608 y (lit≤ tt) Y))
    (times_one x X.fit (size_wider 65536 8388608 x (lit≤ tt) X.size))

along_zero : {p q : Float} → Coordinate p → Coordinate q → (s : Bool) → eq (along p q (signed_zero s)) p ≡ true
along_zero {p} {q} P Q s =
    let z = times_zero s 65536 q Q.size in
    rw (one_less_zero s, z.1) (one_and_zero P z.0)

along_one : {p q : Float} → Coordinate p → Coordinate q → eq (along p q one) q ≡ true
along_one {p} {q} P Q =
    let z = times_zero false 65536 p P.size in
    let e : (one ⊖ one) ⊗ p ≡ signed_zero z.0 = ap (λ (y : Float). y ⊗ p) (sub_itself 1 one one_size) ∙ unfold of_bits in z.1 in
    rw (e, add_turned (signed_zero z.0) (one ⊗ q)) (one_and_zero Q z.0)

-- ---- equal points, and the length between them

-- finite and equal, zeros of either sign too
pub record Level (x y : Float) : Type 0 where
  pub size : Size 196608 x
  pub of : Size 196608 y
  pub same : eq x y ≡ true

abbrev pub Near : Vec2 → Vec2 → Type 0
Near a p = Level a.x p.x × Level a.y p.y

wide : {x : Float} → Coordinate x → Size 196608 x
wide {x} X = size_wider 65536 196608 x (lit≤ tt) X.size

pub level_at : {x y : Float} → Coordinate x → Coordinate y → eq x y ≡ true → Level x y
level_at X Y h = record { size = wide X; of = wide Y; same = h }

pub at_first : {p q : Vec2} → Bounded p q → (s : Bool) → Near (position_from_ratio_of p q (signed_zero s)) p
at_first {p} {q} w s = (level w.x0 w.x1, level w.y0 w.y1)
  where
    level : {a b : Float} → Coordinate a → Coordinate b → Level (along a b (signed_zero s)) a
    level {a} {b} A B = record { size = along_size a b (signed_zero s) A B (lit≤ tt); of = wide A; same = along_zero A B s }

pub at_second : {p q : Vec2} → Bounded p q → Near (position_from_ratio_of p q one) q
at_second {p} {q} w = (level w.x0 w.x1, level w.y0 w.y1)
  where
    level : {a b : Float} → Coordinate a → Coordinate b → Level (along a b one) b
    level {a} {b} A B = record { size = along_size a b one A B one_size; of = wide B; same = along_one A B }

square_level : {x x' y y' : Float} → Level x x' → Level y y' → (x ⊖ y) ⊗ (x ⊖ y) ≡ (x' ⊖ y') ⊗ (x' ⊖ y')
square_level {x} {x'} {y} {y'} h k =
    level_square (x ⊖ y) (x' ⊖ y')
    (level_sub x x' y y' h.same k.same
    (sub_number 196608 x y (sized_number 196608 x h.size) k.size) (sub_number 196608 x' y' (sized_number 196608 x' h.of) k.of))

pub length_near : {a b p q : Vec2} → Near a p → Near b q → length_of a b ≡ length_of p q
length_near h k = rw (square_level h.0 k.0, square_level h.1 k.1)

root_of_none : sqrt_of (+0 ⊗ +0 ⊕ +0 ⊗ +0) ≡ +0
unfolding mul add sum round of_bits
root_of_none = sqrt_of_zero false

-- between a point and itself it is 0
pub length_none : {a b p : Vec2} → Near a p → Near b p → length_of a b ≡ +0
length_none {a} {b} {p} h k =
    length_near h k ∙ rw (sub_itself 196608 p.x h.0.of, sub_itself 196608 p.y h.1.of) root_of_none
