-- What the functions of the walk ask of each other and hand on. Definitions only.
use Rattle.std.specs.Prelude.{◌≡◌, ℕ, ◌≤◌, Bool, true, false, ◌&&◌, List, [], length, Result}
use Rattle.types.specs.declared.shape.Vec2.{Vec2}
use Rattle.types.specs.declared.refusal.Refusal.TheVariants.{Room}
use Rattle.types.specs.declared.refusal.RefusalAt.{RefusalAt}
use Rattle.types.specs.Refusal.{nowhere}
use Rattle.lists.specs.Lent.{written, fitted, leaves}
use Rattle.lists.specs.Places.{upto}
use Rattle.rounded.specs.Size.{Size}
use Rattle.stroke.specs.declared.axis.Axis.{Axis}
use Rattle.stroke.specs.Image.{on_image}
use Rattle.stroke.specs.Walk.{position, goes_on, exit}
use Rattle.pixels.specs.declared.course.Reached.{Reached}
use Rattle.pixels.specs.Entries.{pixels}

-- ---- what is asked

-- a position of an accepted walk: no coordinate is above 196,610 in size, which is 65,536 and 131,074 steps of one
pub record Bounded (p : Vec2) : Type 0 where
  pub x_size : Size 196610 p.x
  pub y_size : Size 196610 p.y

-- ---- what is handed on

-- the entries of the first k positions
abbrev pub entered : ℕ → ℕ → Axis → Axis → ℕ → List ℕ
entered w h a b k = pixels w h (upto (position a b) k)

-- the walk goes on at position k, and it lies in the image
abbrev pub inside : ℕ → ℕ → Axis → Axis → ℕ → Bool
inside w h a b k = goes_on a b k && on_image w h (position a b k)

-- no further than the walk's exit, with the entries so far counted
pub record At (w h : ℕ) (a b : Axis) (r : Reached) : Type 0 where
  pub position_is : r.position ≡ position a b r.steps
  pub count_is : r.count ≡ length (entered w h a b r.steps)
  pub few : r.steps ≤ exit a b

-- before the first entry: at the first position in the image, or there is none
pub record Entry (w h : ℕ) (a b : Axis) (r : Reached) : Type 0 where
  pub reached : At w h a b r
  pub none : r.count ≡ 0
  pub empty : inside w h a b r.steps ≡ false → entered w h a b (exit a b) ≡ []

-- the list l with the entries at its start, if they are written
abbrev pub written_if : Bool → List ℕ → List ℕ → List ℕ
written_if true es l = written es l
written_if false es l = l

-- The list l was lent, and is l' afterwards. Where the walk is still inside, there was no room for more entries. Where it is not, it has them all.
pub record Stretch (write : Bool) (w h : ℕ) (a b : Axis) (room : ℕ) (r : Reached) (l l' : List ℕ) : Type 0 where
  pub reached : At w h a b r
  pub list_is : l' ≡ written_if write (entered w h a b r.steps) l
  pub most : r.count ≤ room
  pub short : inside w h a b r.steps ≡ true → r.count ≡ room
  pub whole : inside w h a b r.steps ≡ false → entered w h a b (exit a b) ≡ entered w h a b r.steps

-- what is answered of the entries es for the list l, and the list afterwards
abbrev pub Listing : List ℕ → List ℕ → Result ℕ RefusalAt → List ℕ → Type 0
Listing es l r l' = (r ≡ fitted (nowhere Room) es (length l)) × (l' ≡ leaves r es l)
