-- The least and the greatest of a list of floats, folded from the infinities. A NaN drops out; of NaN only, or of nothing, the
-- range is (+infinity, -infinity). Definitions only.
use Rattle.std.specs.Prelude.{true, false, List, [], ◌∷◌, Float}
use Rattle.std.specs.Float.{inf}
use Rattle.float.specs.Values.{min_of, max_of}

unfoldable pub fold_min : Float → List Float → Float
fold_min a [] = a
fold_min a (x ∷ xs) = fold_min (min_of a x) xs

unfoldable pub fold_max : Float → List Float → Float
fold_max a [] = a
fold_max a (x ∷ xs) = fold_max (max_of a x) xs

abbrev pub least_of : List Float → Float
least_of xs = fold_min (inf false) xs

abbrev pub greatest_of : List Float → Float
greatest_of xs = fold_max (inf true) xs
