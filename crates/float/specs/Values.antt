-- What the float helpers return, over the values of `lib.Ieee`. Definitions only.
use Rattle.std.specs.Prelude.{false, cond, ◌||◌, Float}
use Rattle.std.specs.Float.{nan, inf, fin}
use Rattle.std.specs.Float.Ieee.{lt, is_nan}

-- the sign dropped
unfoldable pub abs_of : Float → Float
abs_of nan = nan
abs_of (inf s) = inf false
abs_of (fin s m e) = fin false m e

-- b where a is a NaN or b is below a, and a otherwise: so a where b alone is a NaN, and a of two zeros
unfoldable pub min_of : Float → Float → Float
min_of a b = cond (is_nan a || lt b a) b a

unfoldable pub max_of : Float → Float → Float
max_of a b = cond (is_nan a || lt a b) b a

-- below low gives low, above high gives high, and anything else, a NaN too, is kept
unfoldable pub clamp_of : Float → Float → Float → Float
clamp_of x low high = cond (lt x low) low (cond (lt high x) high x)

-- the minimum and the maximum without the test of a for a NaN, and that test alone
unfoldable pub lesser_of : Float → Float → Float
lesser_of a b = cond (lt b a) b a

unfoldable pub greater_of : Float → Float → Float
greater_of a b = cond (lt a b) b a

unfoldable pub number_or_of : Float → Float → Float
number_or_of a b = cond (is_nan a) b a
