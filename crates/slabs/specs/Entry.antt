-- By which edge a line comes in, in any number of dimensions. An edge is a number: 0 for none, and in dimension k, counted from 0, 2 * k + 1 for the
-- low edge and 2 * k + 2 for the high one. Definitions only.
use Rattle.std.specs.Prelude.{◌≡◌, true, false, Bool, cond, ◌&&◌, ◌||◌, ◌⊎◌, List, [], ◌∷◌, ◌++◌, All, ℕ, ◌+◌, ◌*◌, length, get_or, Float}
use Rattle.std.specs.Float.Ieee.{lt, le, eq, is_nan}
use Rattle.float.specs.Rounded.{+0}
use Rattle.slabs.specs.declared.Slab.{Slab}
use Rattle.slabs.specs.declared.Interval.{Interval}
use Rattle.slabs.specs.declared.Interval.TheVariants as interval
use Rattle.slabs.specs.declared.crossing.Edge.{Edge}
use Rattle.slabs.specs.declared.crossing.Edge.TheVariants.{None, Left, Right, Lower, Upper, Near, Far}
use Rattle.slabs.specs.declared.crossing.Crossing.{Crossing}
use Rattle.slabs.specs.declared.crossing.Crossing.TheVariants.{Miss, Hit}
use Rattle.slabs.specs.Clip.{lowest, at_low, at_high, entry_of, crosses}
use Rattle.slabs.specs.Promise.{IsLineAnswer, IsRayAnswer}

-- ---- the edge, from the slabs and from where the interval starts

-- Of a slab's two edges the one whose quotient is the smaller: the low edge where both are equal, and the other's edge where one is a NaN. Whether it
-- is the high edge.
unfoldable pub by_high : Slab → Bool
by_high s = is_nan (at_low s) || lt (at_high s) (at_low s)

-- The smaller quotient of the slab equals tmin. A slab that the line goes along has no quotients.
unfoldable pub starts_at : Slab → Float → Bool
starts_at s tmin = crosses s && eq (entry_of s) tmin

-- The number of the edge of the first slab that starts at tmin, and 0 if none does. The first slab of the list has the edges k + 1 and k + 2.
unfoldable pub first_at : ℕ → List Slab → Float → ℕ
first_at k [] tmin = 0
first_at k (s ∷ ss) tmin = cond (starts_at s tmin) (cond (by_high s) (k + 2) (k + 1)) (first_at (k + 2) ss tmin)

-- none where the interval still starts at its initial low value
unfoldable pub edge_over : List Slab → Float → ℕ
edge_over ss tmin = cond (eq tmin lowest) 0 (first_at 0 ss tmin)

-- ---- the same with no search

-- A slab starts at tmin and none before it does: n is the number of its edge.
pub record IsByEdge (ss : List Slab) (tmin : Float) (n : ℕ) : Type 0 where
  pub before : List Slab
  pub slab : Slab
  pub after : List Slab
  pub stands : ss ≡ before ++ slab ∷ after
  pub passed : All (λ s. starts_at s tmin ≡ false) before
  pub starts : starts_at slab tmin ≡ true
  pub number : n ≡ 2 * length before + cond (by_high slab) 2 1

-- A hit that still starts at its initial low value has no edge, and any other one has that of a slab.
abbrev pub IsEdge : List Slab → Float → ℕ → Type 0
IsEdge ss tmin n = ((eq tmin lowest ≡ true) × (n ≡ 0)) ⊎ ((eq tmin lowest ≡ false) × IsByEdge ss tmin n)

-- ---- answers with the edge

-- The edges by number: of x, of y, of z. An edge of a fourth dimension has no name.
abbrev pub edges : List Edge
edges = None ∷ Left ∷ Right ∷ Lower ∷ Upper ∷ Near ∷ Far ∷ []

unfoldable pub named : ℕ → Edge
named n = get_or edges n None

abbrev pub number_of : Edge → ℕ
number_of None = 0
number_of Left = 1
number_of Right = 2
number_of Lower = 3
number_of Upper = 4
number_of Near = 5
number_of Far = 6

-- an interval, told with its edge
unfoldable pub with_edge : List Slab → Interval → Crossing
with_edge ss interval.Miss = Miss
with_edge ss (interval.Hit tmin tmax) = Hit tmin tmax (named (edge_over ss tmin))

-- and without
abbrev pub interval_of : Crossing → Interval
interval_of Miss = interval.Miss
interval_of (Hit tmin tmax edge) = interval.Hit tmin tmax

-- a ray's crossing, from its line's
unfoldable pub crossing_ahead_of : Crossing → Crossing
crossing_ahead_of Miss = Miss
crossing_ahead_of (Hit tmin tmax edge) = cond (le +0 tmax) (Hit tmin tmax edge) Miss

-- what the edge of an answer says
abbrev pub IsEntered : List Slab → Crossing → Type 0
IsEntered ss Miss = Unit
IsEntered ss (Hit tmin tmax edge) = (n : ℕ) × (edge ≡ named n) × IsEdge ss tmin n

-- ---- what the answers mean

abbrev pub IsLineCrossing : List Slab → Crossing → Type 0
IsLineCrossing ss c = IsLineAnswer ss (interval_of c) × IsEntered ss c

-- a ray has its line's edge
abbrev pub IsRayCrossing : List Slab → Crossing → Type 0
IsRayCrossing ss c = IsRayAnswer ss (interval_of c) × IsEntered ss c
