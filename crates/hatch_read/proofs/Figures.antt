-- The list to read into comes last, and is told at the end of the file: one record, and room for seven floats. Computed.
use mathlib.Core.Path.{◌≡◌, refl}
use Rattle.types.specs.declared.refusal.Refusal.TheVariants.{Room}
use Rattle.hatch_format.specs.Bytes.{starts_with_of}
use Rattle.hatch_format.specs.Format.{hsl, rows, layout_of, sized_of, versioned_of, head_of}
use Rattle.hatch_format.specs.Decode.{body_of}
use Rattle.hatch_format.proofs.Figures.{refused, single}
use Rattle.hatch_read.specs.Read.{with_room, decode_into}

no_room : decode_into hsl rows 7 single ≡ refused Room 39
unfolding starts_with_of layout_of sized_of versioned_of head_of with_room body_of decode_into
no_room = refl
