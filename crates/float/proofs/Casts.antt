-- A whole number of at most 2 ^ 24 is an f32: the cast to one asks no more, and is exact.
use mathlib.Core.Bool.{false}
use Prim.Native.Nat.{ℕ, ◌^◌, ◌≤◌}
use lib.IntN.{pos}
use lib.Dec.{T, le→leb}
use lib.Ieee.{binary32, in_float, of_int}
use lib.Ieee.Exact.{HasValue}
use lib.Ieee.Back.{round_whole}

pub in_float_lem : (n : ℕ) → n ≤ 2 ^ 24 → T (in_float binary32 (pos n))
unfolding in_float
in_float_lem n h = le→leb n (2 ^ 24) h

pub of_int_lem : (n : ℕ) → n ≤ 2 ^ 24 → HasValue (of_int binary32 (pos n)) false n 1
unfolding of_int
of_int_lem n h = round_whole binary32 false n h
