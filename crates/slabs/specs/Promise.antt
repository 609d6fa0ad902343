-- What the answer of a clip means, with no fold: where the line comes into the slabs and where it goes out of them. Definitions only.
use Rattle.std.specs.Prelude.{◌≡◌, true, false, ◌⊎◌, List, ◌∷◌, map, filter, All, Any, Contains, IsTrue, Float}
use Rattle.std.specs.Float.{◌<ᶠ◌, ◌≤ᶠ◌}
use Rattle.std.specs.Float.Ieee.{lt}
use Rattle.std.specs.Float.Ieee.Scale.{finite}
use Rattle.float.specs.Rounded.{+0}
use Rattle.slabs.specs.declared.Slab.{Slab}
use Rattle.slabs.specs.declared.Interval.{Interval}
use Rattle.slabs.specs.declared.Interval.TheVariants.{Miss, Hit}
use Rattle.slabs.specs.Clip.{lowest, largest, entry_of, exit_of, crosses, outside}

-- ---- one slab

-- the line goes along it and outside of it; it does not
abbrev pub IsBeside : Slab → Type 0
IsBeside s = (crosses s ≡ false) × (outside s ≡ true)

abbrev pub IsNotBeside : Slab → Type 0
IsNotBeside s = crosses s ≡ false → outside s ≡ false

-- ---- a list of slabs

-- the lowest finite number, and each entry into a slab that the line crosses; likewise the exits
abbrev pub entries : List Slab → List Float
entries ss = lowest ∷ map entry_of (filter crosses ss)

abbrev pub exits : List Slab → List Float
exits ss = largest ∷ map exit_of (filter crosses ss)

-- m is one of the numbers, and none of them is above it; below it. A NaN is above nothing and below nothing
abbrev pub IsHighest : List Float → Float → Type 0
IsHighest xs m = Contains xs m × All (λ x. lt m x ≡ false) xs

abbrev pub IsLowest : List Float → Float → Type 0
IsLowest xs m = Contains xs m × All (λ x. lt x m ≡ false) xs

-- The line goes along no slab outside of it, and is in all of them from tmin to tmax.
pub record IsThrough (ss : List Slab) (tmin tmax : Float) : Type 0 where
  pub inside : All IsNotBeside ss
  pub last_entry : IsHighest (entries ss) tmin
  pub first_exit : IsLowest (exits ss) tmax
  pub ordered : tmin ≤ᶠ tmax
  pub finite_entry : IsTrue (finite tmin)
  pub finite_exit : IsTrue (finite tmax)

-- The line goes along a slab outside of it, or out of one before it comes into another. The lowest finite number is among the entries and the largest
-- among the exits. So a line is past too if it comes into a slab only above the finite numbers, or goes out of one already below them.
abbrev pub IsPast : List Slab → Type 0
IsPast ss = Any IsBeside ss ⊎ Any (λ x. Any (λ y. y <ᶠ x) (exits ss)) (entries ss)

-- ---- the answers

abbrev pub IsLineAnswer : List Slab → Interval → Type 0
IsLineAnswer ss Miss = IsPast ss
IsLineAnswer ss (Hit tmin tmax) = IsThrough ss tmin tmax

-- A ray hits if its line is in the slabs up to 0 at least. Where the line comes in does not matter.
abbrev pub IsRayAnswer : List Slab → Interval → Type 0
IsRayAnswer ss Miss = IsPast ss ⊎ Any (λ y. y <ᶠ +0) (exits ss)
IsRayAnswer ss (Hit tmin tmax) = IsThrough ss tmin tmax × (+0 ≤ᶠ tmax)

-- ---- what follows of any answers

-- no list of slabs has both a hit and a miss
abbrev pub HitOrMiss : Type 0
HitOrMiss = (ss : List Slab) (tmin tmax : Float) → IsThrough ss tmin tmax → IsPast ss → ⊥

-- an interval in another, ends included
abbrev pub IsWithin : Interval → Interval → Type 0
IsWithin Miss j = Unit
IsWithin (Hit a b) Miss = ⊥
IsWithin (Hit a b) (Hit c d) = (c ≤ᶠ a) × (b ≤ᶠ d)

-- More slabs leave a miss a miss, and of an interval a part of it. The slabs may stand in any order, and more than once.
abbrev pub Narrows : Type 0
Narrows =
    (ss ts : List Slab) → ((s : Slab) → Contains ss s → Contains ts s) →
    (i j : Interval) → IsLineAnswer ss i → IsLineAnswer ts j → IsWithin j i

-- the laws of any answers
pub record AnswerLaws : Type 0 where
  pub hit_or_miss : HitOrMiss
  pub narrows : Narrows
