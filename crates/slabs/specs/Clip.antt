-- The clip of a line against an upright box, in any number of dimensions: a fold over slabs. Definitions only.
use Rattle.std.specs.Prelude.{Bool, cond, ◌||◌, List, [], ◌∷◌, Float}
use Rattle.std.specs.Float.{binary32}
use Rattle.std.specs.Float.Ieee.{of_bits, ne, lt, le, neg}
use Rattle.slabs.specs.declared.Interval.{Interval}
use Rattle.slabs.specs.declared.Interval.TheVariants.{Miss, Hit}
use Rattle.float.specs.Rounded.{◌⊖◌, ◌⊘◌, +0}
use Rattle.float.specs.Values.{min_of, max_of}
use Rattle.slabs.specs.declared.Slab.{Slab}

-- the largest finite f32, and its negative
abbrev pub largest : Float
largest = of_bits binary32 0x7f7f_ffff

abbrev pub lowest : Float
lowest = neg largest

-- every finite number
abbrev pub all_finite_of : Interval
all_finite_of = Hit lowest largest

-- the parameter at which the line meets a coordinate, and the two at which it meets the ends of the slab
abbrev pub parameter_at : Slab → Float → Float
parameter_at s at = (at ⊖ s.origin) ⊘ s.direction

abbrev pub at_low : Slab → Float
at_low s = parameter_at s s.low

abbrev pub at_high : Slab → Float
at_high s = parameter_at s s.high

-- the smaller and the larger of the two; a NaN drops out
abbrev pub entry_of : Slab → Float
entry_of s = min_of (at_low s) (at_high s)

abbrev pub exit_of : Slab → Float
exit_of s = max_of (at_low s) (at_high s)

-- whether the line crosses the slab: with a direction of either zero it goes along
abbrev pub crosses : Slab → Bool
crosses s = ne s.direction +0

-- whether the origin is outside of the slab
abbrev pub outside : Slab → Bool
outside s = lt s.origin s.low || lt s.high s.origin

-- One slab narrows an interval. Along a slab only the origin counts.
unfoldable pub narrowed_of : Slab → Interval → Interval
narrowed_of s Miss = Miss
narrowed_of s (Hit tmin tmax) =
    cond (crosses s) (Hit (max_of tmin (entry_of s)) (min_of tmax (exit_of s))) (cond (outside s) Miss (Hit tmin tmax))

-- each slab in turn, in the list's order
unfoldable pub narrow_all : List Slab → Interval → Interval
narrow_all [] i = i
narrow_all (s ∷ ss) i = narrow_all ss (narrowed_of s i)

-- an interval whose ends are not in order is a miss
unfoldable pub ordered_of : Interval → Interval
ordered_of Miss = Miss
ordered_of (Hit tmin tmax) = cond (le tmin tmax) (Hit tmin tmax) Miss

-- the clip in as many dimensions as there are slabs
unfoldable pub clip_over : List Slab → Interval
clip_over ss = ordered_of (narrow_all ss all_finite_of)

-- a ray hits exactly if its line hits with tmax at least zero; tmin is not raised to zero
unfoldable pub ahead_of : Interval → Interval
ahead_of Miss = Miss
ahead_of (Hit tmin tmax) = cond (le +0 tmax) (Hit tmin tmax) Miss
