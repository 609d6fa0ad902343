-- The smallest of all sets of a sheet's tiles that cover a box. Definitions only.
use Rattle.std.specs.Prelude.{◌≡◌, ◌⊎◌, ◌↔◌, Bool, ℕ, ◌^◌, ◌≤◌, ◌<◌, T, length, get_or, ◌≤ℤ◌, Float}
use mathlib.Core.List.{List, Memᴰ}
use Rattle.std.specs.Float.{binary32}
use Rattle.std.specs.Float.Ieee.{fits}
use Rattle.std.specs.Float.Ieee.Scale.{finite}
use Rattle.types.specs.declared.shape.Vec2.{Vec2}
use Rattle.types.specs.declared.shape.Aabb2.{Aabb2}
use Rattle.float.specs.Units.{in_units, units_of}
use Rattle.tiles.specs.Sheet.{Sheet, OnSheet, Owns}

-- ---- the points to be covered

-- a finite f32
abbrev pub F32 : Float → Type 0
F32 x = T (fits binary32 x) × T (finite x)

-- low ≤ x ≤ high
abbrev pub Between : Float → Float → Float → Type 0
Between low high x = (units_of low ≤ℤ units_of x) × (units_of x ≤ℤ units_of high)

-- the box has its four edges
abbrev pub InBox : Aabb2 → Vec2 → Type 0
InBox b p = Between b.min_x b.max_x p.x × Between b.min_y b.max_y p.y

-- A point is to be covered if its coordinates are f32s and it is both in the box and on the sheet.
pub record ToCover (s : Sheet) (b : Aabb2) (p : Vec2) : Type 0 where
  pub x_f32 : F32 p.x
  pub y_f32 : F32 p.y
  pub in_box : InBox b p
  pub on_sheet : OnSheet s p

-- ---- sets of tiles

-- C says of each number whether it is in the set. The set covers if each point to be covered has an owner in it. A number that no tile of the sheet
-- has owns no point, so it covers nothing.
abbrev pub Covers : Sheet → Aabb2 → (ℕ → Type 0) → Type 0
Covers s b C = (p : Vec2) → ToCover s b p → (t : ℕ) × C t × Owns s t p

-- a list as a set
abbrev pub Has : List ℕ → ℕ → Type 0
Has l t = Memᴰ t l

-- the tile owns some point that is to be covered
abbrev pub OwnsToCover : Sheet → Aabb2 → ℕ → Type 0
OwnsToCover s b t = (p : Vec2) × ToCover s b p × Owns s t p

-- ---- the smallest cover

-- l lists n tiles, and of all sets of the sheet's tiles that cover the box it is the smallest
pub record Smallest (s : Sheet) (b : Aabb2) (n : ℕ) (l : List ℕ) : Type 0 where
  pub counted : length l ≡ n
  -- the listed tiles cover the box
  pub covers : Covers s b (Has l)
  -- they are those that own a point to be covered, and no others
  pub listed : (t : ℕ) → Has l t ↔ OwnsToCover s b t
  -- each set that covers the box has all of them: here a set as a yes or no for each number
  pub least : (C : ℕ → Bool) → Covers s b (λ t. T (C t)) → (t : ℕ) → Has l t → T (C t)
  -- so no set that covers the box has fewer: here a set as a list
  pub fewest : (m : List ℕ) → Covers s b (Has m) → n ≤ length m
  -- each number is below the next, so none stands twice
  pub rises : (i j : ℕ) → i < j → j < n → get_or l i 0 < get_or l j 0

-- Zero, or at least 2 ^ -100 in size, which is 2 ^ 49 units of 2 ^ -149. Of a smaller number below zero the rounded quotient may be a zero, and its
-- floor is then one too high: with a size of 4096, a box that ends at -2 ^ -149 has column 0 listed.
abbrev pub NotTiny : Float → Type 0
NotTiny x = (in_units x ≡ 0) ⊎ (2 ^ 49 ≤ in_units x)

-- What is supposed of the box: it is reversed neither in x nor in y, and each coordinate of it is zero or at least 2 ^ -100 in size.
pub record Premises (b : Aabb2) : Type 0 where
  pub ordered_x : units_of b.min_x ≤ℤ units_of b.max_x
  pub ordered_y : units_of b.min_y ≤ℤ units_of b.max_y
  pub min_x_size : NotTiny b.min_x
  pub min_y_size : NotTiny b.min_y
  pub max_x_size : NotTiny b.max_x
  pub max_y_size : NotTiny b.max_y

-- `least` for a set given by any property of tile numbers, of each list that is `Smallest`. It stands beside the contract, proved in
-- proofs/Smallest.antt, since a contract takes facts of Type 0 only.
abbrev pub LeastOfAll : Type 1
LeastOfAll =
    (s : Sheet) (b : Aabb2) (n : ℕ) (l : List ℕ) → Smallest s b n l → (C : ℕ → Type 0) → Covers s b C → (t : ℕ) → Has l t → C t
