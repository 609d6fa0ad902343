-- A value that is a whole number: it is finite, and so many units of 2 ^ -149.
use mathlib.Core.Path.{sym, ap, ◌∙◌}
use mathlib.Core.Bool.{Bool}
use Prim.Native.Nat.{ℕ, ◌*◌, ◌^◌}
use native.Mathlib.Nat.{mul-one, mul_right_comm}
use lib.Dec.{T}
use lib.Ieee.{Float, nan, inf, fin, up, down}
use lib.Ieee.Exact.{HasValue}
use lib.Ieee.Scale.{finite}

pub whole_value : (x : Float) (s : Bool) (n : ℕ) → HasValue x s n 1 → HasValue x s (n * 2 ^ 149) (2 ^ 149)
whole_value nan s n v = v
whole_value (inf t) s n v = v
whole_value (fin t m e) s n v = (v.0, ap (λ (x : ℕ). x * 2 ^ 149) (sym (mul-one (m * up e)) ∙ v.1) ∙ mul_right_comm n (down e) (2 ^ 149))

pub value_finite : (x : Float) (s : Bool) (a c : ℕ) → HasValue x s a c → T (finite x)
value_finite nan s a c v = v
value_finite (inf t) s a c v = v
value_finite (fin t m e) s a c v = tt
