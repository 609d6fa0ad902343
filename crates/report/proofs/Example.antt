-- The report on the example files, by computation.
use mathlib.Core.Path.{refl}
use lib.Ieee.{of_bits, to_bits, sub, div, neg, lt, le, eq, ne, is_nan}
use Rattle.float.specs.Values.{min_of, max_of}
use Rattle.slabs.specs.Entry.{by_high, starts_at, first_at, edge_over, named, with_edge}
use Rattle.aabb.specs.Clip.{narrowed_of, narrow_all, ordered_of, clip_over, intersections_against_line_of}
use Rattle.lists.specs.Places.{upto}
use Rattle.hatch_format.specs.Bytes.{starts_with_of}
use Rattle.hatch_format.specs.Format.{layout_of, sized_of, versioned_of, head_of}
use Rattle.hatch_format.specs.Decode.{body_of, decode}
use Rattle.text.specs.Numbers.{decimal_by, decimal, hex8}
use Rattle.report.specs.Report.{shown, field_of, end_of, letter_of, line_of, lines_of, opening_of, refusal_of, text_of, report_of}
use Rattle.report.specs.Example.{examples, ExamplesHold}

pub examples_hold : ExamplesHold
unfolding examples of_bits to_bits sub div neg lt le eq ne is_nan min_of max_of narrowed_of narrow_all ordered_of clip_over
    intersections_against_line_of by_high starts_at first_at edge_over named with_edge starts_with_of upto layout_of sized_of versioned_of head_of body_of decode decimal_by decimal hex8 shown
    field_of end_of letter_of line_of lines_of opening_of refusal_of text_of report_of
examples_hold = refl
