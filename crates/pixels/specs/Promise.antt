-- What the two walks promise: the answer, the lent list afterwards, that the walk stops by itself, how many entries there are at most, and where
-- they lie. Definitions only.
use Rattle.std.specs.Prelude.{◌≡◌, ℕ, ◌+◌, ◌*◌, ◌<◌, ◌≤◌, Bool, true, List, length, ◌≢◌, slice_index, Result, Ok, Err}
use Rattle.types.specs.declared.shape.Vec2.{Vec2}
use Rattle.types.specs.declared.refusal.Refusal.TheVariants.{Room}
use Rattle.types.specs.declared.refusal.RefusalAt.{RefusalAt}
use Rattle.types.specs.Refusal.{nowhere}
use Rattle.lists.specs.Lent.{leaves}
use Rattle.stroke_check.specs.Check.{accept_of}
use Rattle.stroke.specs.declared.axis.Axis.{Axis}
use Rattle.stroke.specs.Walk.{position, exit, along_x, along_y}
use Rattle.stroke.specs.Stops.{Stops}
use Rattle.stroke.specs.Image.{on_image, one_if_of}
use Rattle.stroke_bound.specs.Bound.{most_by_ends, most_by_sides, most_entries_of}
use Rattle.pixels.specs.Entries.{column_of, row_of, stroke_of}
use Rattle.pixels.specs.Answer.{walk_of}

-- The entry is a pixel of an image w by h, and a position of the walk along a and b lies in that pixel.
pub record IsPixel (w h : ℕ) (a b : Axis) (entry : ℕ) : Type 0 where
  -- the position is reached in so many steps, before the walk leaves, and it lies in the image
  pub step : ℕ
  pub before_exit : step < exit a b
  pub lies : on_image w h (position a b step) ≡ true
  -- its column is below the width, and its row below the height
  pub column : column_of (position a b step) < w
  pub row : row_of (position a b step) < h
  -- and the entry is row × width + column
  pub entry_is : entry ≡ row_of (position a b step) * w + column_of (position a b step)

-- How many entries the stroke from p to q has at most in an image w by h. All are counted, whatever the length of the list.
pub record Counts (closing : Bool) (w h : ℕ) (p q : Vec2) : Type 0 where
  -- with the closing entry 2 D + 2, and without it 2 D + 1; D is `larger_difference_of` the ends
  pub by_ends : length (stroke_of closing w h p q) ≤ most_by_ends closing p q
  -- one for each column or each row, whichever are more, and one more with the closing entry
  pub by_sides : length (stroke_of closing w h p q) ≤ most_by_sides closing w h

-- for an image w by h and the stroke from p to q: l is the lent list, r is what the call returns, and l' is the list afterwards
pub record WalkPromise (closing : Bool) (w h : ℕ) (p q : Vec2) (l : List ℕ) (r : Result ℕ RefusalAt) (l' : List ℕ) : Type 0 where
  -- how many entries or a refusal, and the list afterwards
  pub answers : r ≡ walk_of closing w h p q (length l)
  pub leaves : l' ≡ leaves r (stroke_of closing w h p q) l
  -- the walk of an accepted stroke leaves the ranges of the ends by itself
  pub stops : (n : ℕ) → r ≡ Ok n → Stops (along_x p q) (along_y p q)
  -- of an accepted stroke, also where the list is too short
  pub counts : accept_of w h p q ≡ Ok tt → Counts closing w h p q
  -- so the answered count is no greater
  pub few_by_ends : (n : ℕ) → r ≡ Ok n → n ≤ most_by_ends closing p q
  pub few_by_sides : (n : ℕ) → r ≡ Ok n → n ≤ most_by_sides closing w h
  -- and a list as long as the lesser bound is never too short
  pub enough : most_entries_of closing w h p q ≤ length l → r ≢ Err (nowhere Room)
  -- each entry but the closing one is a pixel of the image
  pub inside : (n : ℕ) → r ≡ Ok n → (i : ℕ) → i + one_if_of closing < n → IsPixel w h (along_x p q) (along_y p q) (slice_index l' i)
