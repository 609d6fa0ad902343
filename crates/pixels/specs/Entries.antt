-- The entries of a stroke: the positions inside the image, numbered, and the closing entry. Definitions only.
use Rattle.std.specs.Prelude.{ℕ, ◌+◌, ◌*◌, Bool, true, false, List, [], ◌∷◌, ◌++◌, map}
use Rattle.std.specs.Float.Ieee.{to_unsigned}
use Rattle.types.specs.declared.shape.Vec2.{Vec2}
use Rattle.stroke.specs.declared.axis.Axis.{Axis}
use Rattle.stroke.specs.Image.{on_image}
use Rattle.stroke.specs.Walk.{position, exit, positions, along_x, along_y}

-- the column and the row of a position: each coordinate cut to an integer, a negative one to 0
abbrev pub column_of : Vec2 → ℕ
column_of p = to_unsigned 64 p.x

abbrev pub row_of : Vec2 → ℕ
row_of p = to_unsigned 64 p.y

-- row × width + column
unfoldable pub number : ℕ → Vec2 → ℕ
number w p = row_of p * w + column_of p

-- x before the list, if it is kept
abbrev pub keep_if : {A : Type 0} → Bool → A → List A → List A
keep_if true x l = x ∷ l
keep_if false x l = l

-- those of a list that pass the test, in their order
unfoldable pub kept : {A : Type 0} → (A → Bool) → List A → List A
kept t [] = []
kept t (x ∷ l) = keep_if (t x) x (kept t l)

-- the numbers of those positions that lie in the image, in the walk's order
unfoldable pub pixels : ℕ → ℕ → List Vec2 → List ℕ
pixels w h ps = map (number w) (kept (on_image w h) ps)

-- and, if `closing`, last the closing entry, of the position at which the walk leaves its ranges. It may be no pixel of the image
unfoldable pub entries : Bool → ℕ → ℕ → Axis → Axis → List ℕ
entries closing w h a b = pixels w h (positions a b) ++ keep_if closing (number w (position a b (exit a b))) []

-- the entries of the stroke from p to q
unfoldable pub stroke_of : Bool → ℕ → ℕ → Vec2 → Vec2 → List ℕ
stroke_of closing w h p q = entries closing w h (along_x p q) (along_y p q)
