-- The rows hold for the definitions: antt computes each answer.
use mathlib.Core.Path.{◌≡◌, refl, sym, ap, ◌∙◌}
use mathlib.Core.Bool.{false}
use lib.IntN.{negsuc}
use lib.Ieee.{Float, fin, round, of_int, of_bits, neg, add, sub, mul, div, lt, le, ne, eq, is_nan, to_unsigned}
use Rattle.float.specs.Values.{abs_of, min_of, max_of}
use Rattle.rounding.specs.Values.{whole_of, ceil_of}
use Rattle.aabb.specs.Clip.{narrowed_of, narrow_all, ordered_of, clip_over, ahead_of, intersections_against_line_of, intersections_against_ray_of}
use Rattle.slabs.specs.Entry.{by_high, starts_at, first_at, edge_over, named, with_edge}
use Rattle.aabb_3.specs.Clip.{intersections_against_line_of as line_in_space_of}
use Rattle.aabb_lines.specs.Results.{encoded_of, results_of}
use Rattle.aabb_lines.specs.Answer.{intersections_against_lines_of}
use Rattle.range.specs.Values.{intersection_length_of}
use Rattle.aabb2_raster.specs.Raster.{rasterize_of}
use Rattle.tiles.specs.Tiles.{tiles_of}
use Rattle.tiles.specs.Answer.{overlapping_tiles_of}
use Rattle.lists.specs.Lent.{fitted}
use Rattle.lists.specs.Places.{upto}
use Rattle.stroke.specs.Walk.{step_of, axis_from, at, within, in_ranges_of, first_outside, exit, positions}
use Rattle.stroke.specs.Image.{on_side_of, in_sides_of}
use Rattle.pixels.specs.Entries.{number, kept, pixels, entries, stroke_of}
use Rattle.types.specs.Side.{sides_too_large_of}
use Rattle.stroke_check.specs.Check.{within_limit_of, refusal_of, offender_from, same_ends_of, unless_offender, accept_of}
use Rattle.stroke_check.specs.Answer.{if_accepted}
use Rattle.stroke_bound.specs.Bound.{larger_difference_of, pixels_bound_of}
use Rattle.pixels.specs.Answer.{walk_of}
use Rattle.stroke_ink.specs.Ink.{bounded_of, length_over_of, drawn_of, ink_of}
use Rattle.std.specs.Prelude.{Result, Ok}
use Rattle.types.specs.declared.refusal.RefusalAt.{RefusalAt}
use Rattle.root.specs.Root.{sqrt_of}
use Rattle.figures.specs.Claim.{FiguresHold}

-- The root of x by the value of x: a row with a wrong length then differs from the right one in that number, where the two roots would be compared
-- step by step, without end.
by_square : {r : Result Float RefusalAt} {x : Float} (v : Float) → x ≡ v → r ≡ Ok (sqrt_of v) → r ≡ Ok (sqrt_of x)
by_square v e is = is ∙ sym (ap (λ y. Ok (sqrt_of y)) e)

pub hold : FiguresHold
unfolding round of_int of_bits neg add sub mul div lt le ne eq is_nan to_unsigned abs_of min_of max_of whole_of ceil_of
    narrowed_of narrow_all ordered_of clip_over ahead_of intersections_against_line_of intersections_against_ray_of line_in_space_of intersection_length_of rasterize_of
    by_high starts_at first_at edge_over named with_edge encoded_of results_of intersections_against_lines_of
    tiles_of overlapping_tiles_of
    step_of axis_from at within in_ranges_of first_outside exit upto positions on_side_of in_sides_of number kept pixels entries stroke_of
    sides_too_large_of within_limit_of refusal_of offender_from same_ends_of unless_offender accept_of if_accepted fitted walk_of larger_difference_of pixels_bound_of
    bounded_of length_over_of drawn_of ink_of
hold = (
  (refl, (refl, (refl, (refl, (refl, (refl, (refl, (refl, (refl, ((refl, refl), ((refl, refl), ((refl, refl), ((refl, refl, refl), tt))))))))))))),
  (refl, (refl, (refl, (refl, (refl, (refl, ((refl, refl, refl), tt))))))),
  ((refl, refl), ((refl, refl, refl), ((refl, refl, refl), ((refl, refl, refl), ((refl, refl, refl), ((refl, refl, refl), ((refl, refl, refl), tt))))))),
  ((refl, refl), ((refl, refl), ((refl, refl), (refl, (refl, (refl, tt)))))),
  (λ _ _. refl, (λ _ _. refl, (λ _ _. refl, (λ _ _. refl, (λ _ _. refl, (λ _ _. refl, (λ _ _. refl, (λ _ _. refl, (λ _ _. refl, (λ _ _. refl, (λ _ _. refl, (λ _ _. refl, (λ _ _. refl, tt))))))))))))),
  ((refl, refl, refl), ((refl, refl, refl), ((refl, refl, refl), ((refl, refl, refl), ((refl, refl, refl), ((refl, refl, refl), ((refl, refl, refl), (refl, (refl, (refl, (refl, tt))))))))))),
  (by_square (fin false 17 (negsuc 3)) refl refl, (refl, (refl, (refl, (refl, (refl, (refl, (refl, (refl, (refl, (refl, (refl, (refl, (refl, tt)))))))))))))),
  (refl, (refl, (refl, (refl, (refl, (refl, (refl, (refl, (refl, (refl, (refl, (refl, (refl, (refl, (refl, (refl, (refl, (refl, (refl, (refl, (refl, (refl, (refl, (refl, (refl, (refl, (refl, (refl, (refl, (refl, (refl, (refl, (refl, (refl, (refl, (refl, (refl, (refl, (refl, (refl, (refl, (refl, (refl, (refl, tt)))))))))))))))))))))))))))))))))))))))))))),
)
