-- The boxes of a flat list of floats, four to a box. Definitions only.
use Rattle.std.specs.Prelude.{cond, List, ℕ, ◌+◌, ◌*◌, ◌/◌, ltb, Float, length, get_or, Result, Ok, Err}
use Rattle.std.specs.Float.{nan}
use Rattle.types.specs.declared.shape.Aabb2.{Aabb2}
use Rattle.types.specs.declared.refusal.Refusal.{Refusal}
use Rattle.types.specs.declared.refusal.Refusal.TheVariants.{Index}

-- whole boxes only: floats left over after the last belong to no box
abbrev pub count_of : List Float → ℕ
count_of all = length all / 4

-- the box whose floats begin at a place: low corner, then high corner. Where a list ends sooner a NaN stands in, which no accepted index reaches
abbrev pub box_from_of : List Float → ℕ → Aabb2
box_from_of all at =
    record { min_x = get_or all at nan; min_y = get_or all (at + 1) nan; max_x = get_or all (at + 2) nan; max_y = get_or all (at + 3) nan }

-- Index where the index is not below the count
unfoldable pub from_aabbs_of : List Float → ℕ → Result Aabb2 Refusal
from_aabbs_of all index = cond (ltb index (count_of all)) (Ok (box_from_of all (4 * index))) (Err Index)
