-- A positive float by its units: its bits, itself, and its root.
use mathlib.Core.Path.{◌≡◌, sym, ap, ◌∙◌}
use mathlib.Core.Bool.{true, false}
use Prim.Native.Nat.{ℕ, zero, suc, ◌+◌, ◌-◌, ◌*◌, ◌/◌, ◌^◌}
use native.Mathlib.Nat.{zero-add}
use lib.Dec.{T, eqb-suc-zero}
use lib.Ieee.{Float, nan, inf, fin, binary32, size, fits, of_bits, to_bits}
use lib.Ieee.Bits.{of_bits-to_bits}
use lib.Ieee.Positive.{positive}
use Rattle.float.specs.Units.{in_units}
use Rattle.root.specs.Radicand.{radicand}
use Rattle.root.specs.Root.{nearest_root, sqrt_of}

-- the exponent's field counts the digits after the leading 24, and the leading one of those adds one to it
abbrev pub bits_at : ℕ → ℕ
bits_at n = let k = size n - 24 in k * 2 ^ 23 + n / 2 ^ k

pub positive_bits : (v : Float) → T (positive v) → to_bits binary32 v ≡ bits_at (in_units v)
unfolding to_bits
positive_bits nan p = absurd p
positive_bits (inf s) p = absurd p
positive_bits (fin true m e) p = absurd p
positive_bits (fin false m e) p = simp zero-add

pub positive_unique : (r s : Float) → T (fits binary32 r) → T (fits binary32 s) → T (positive r) → T (positive s)
    → in_units r ≡ in_units s → r ≡ s
positive_unique r s f g p q e =
    let bits : to_bits binary32 r ≡ to_bits binary32 s = positive_bits r p ∙ ap bits_at e ∙ sym (positive_bits s q) in
    sym (of_bits-to_bits binary32 r f) ∙ ap (of_bits binary32) bits ∙ of_bits-to_bits binary32 s g

pub positive_root : (v : Float) → T (positive v) → sqrt_of v ≡ nearest_root (radicand v)
unfolding sqrt_of
positive_root nan p = absurd p
positive_root (inf s) p = absurd p
positive_root (fin true m e) p = absurd p
positive_root (fin false zero e) p = absurd p
positive_root (fin false (suc m) e) p = rw (eqb-suc-zero m)
