-- What `intersections_against_lines` answers. Definitions only.
use Rattle.std.specs.Prelude.{cond, List, ℕ, ◌%◌, eqb, length, Float, Result, Err}
use Rattle.types.specs.declared.shape.Aabb2.{Aabb2}
use Rattle.types.specs.declared.refusal.Refusal.{Refusal}
use Rattle.types.specs.declared.refusal.Refusal.TheVariants.{Room, Lines}
use Rattle.lists.specs.Lent.{fitted}
use Rattle.aabb_lines.specs.Results.{results_of}

-- Lines are refused first, if their floats are no multiple of four, then a list of this length if the results do not fit it. Otherwise the answer is
-- how many entries the results have.
unfoldable pub intersections_against_lines_of : Aabb2 → List Float → ℕ → Result ℕ Refusal
intersections_against_lines_of b lines room = cond (eqb (length lines % 4) 0) (fitted Room (results_of b lines) room) (Err Lines)
