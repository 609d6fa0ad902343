-- The report on a hatch list, as the bytes of a text in ASCII. Definitions only.
use Rattle.std.specs.Prelude.{cond, List, [], ◌++◌, map, ℕ, zero, suc, ◌+◌, ◌*◌, get_or, Float, Ok, Err}
use Rattle.std.specs.Float.{nan, binary32}
use Rattle.std.specs.Float.Ieee.{eq, to_bits}
use Rattle.types.specs.Refusal.{number_of}
use Rattle.types.specs.declared.refusal.RefusalAt.{RefusalAt}
use Rattle.slabs.specs.declared.crossing.Edge.{Edge}
use Rattle.slabs.specs.declared.crossing.Edge.TheVariants.{None, Left, Right, Lower, Upper, Near, Far}
use Rattle.slabs.specs.declared.crossing.Crossing.{Crossing}
use Rattle.slabs.specs.declared.crossing.Crossing.TheVariants.{Miss, Hit}
use Rattle.float.specs.Rounded.{+0}
use Rattle.aabb.specs.Clip.{crossing_against_line_of}
use Rattle.hatch_format.specs.Format.{hsl, rows}
use Rattle.hatch_format.specs.Decode.{Answer, decode, float_of}
use Rattle.hatch_read.specs.Record.{record_by}
use Rattle.hatch_read.specs.declared.Record.{Record}
use Rattle.text.specs.Ascii.{ascii}
use Rattle.text.specs.Numbers.{decimal, hex8}

-- ---- one record

-- record k, in a list of floats, eight a record
abbrev pub record_in : List Float → ℕ → Record
record_in fs k = record_by λ i. get_or fs (8 * k + i) nan

-- a record, clipped as a line
abbrev pub clip_of : Record → Crossing
clip_of r = crossing_against_line_of r.face r.point r.direction

abbrev pub clip_at : List Float → ℕ → Crossing
clip_at fs k = clip_of (record_in fs k)

-- ---- its line

-- the bits that are printed: any zero as 0
unfoldable pub shown : Float → ℕ
shown x = cond (eq x +0) 0 (to_bits binary32 x)

-- fields stand one space apart: a number in decimal, and an end of an interval
unfoldable pub field_of : ℕ → List ℕ
field_of n = ascii " " ++ decimal n

unfoldable pub end_of : Float → List ℕ
end_of x = ascii " " ++ hex8 (shown x)

-- A space, and the letter of the edge by which the line comes in. A box of the plane has no near edge and no far one.
unfoldable pub letter_of : Edge → List ℕ
letter_of None = ascii " n"
letter_of Left = ascii " l"
letter_of Right = ascii " r"
letter_of Lower = ascii " b"
letter_of Upper = ascii " t"
letter_of Near = ascii " n"
letter_of Far = ascii " n"

-- the line of text on a record, from its place and its crossing
unfoldable pub line_of : ℕ → Crossing → List ℕ
line_of place Miss = decimal place ++ ascii " miss\n"
line_of place (Hit tmin tmax edge) = decimal place ++ (ascii " hit" ++ (end_of tmin ++ (end_of tmax ++ (letter_of edge ++ ascii "\n"))))

-- ---- the whole text

-- the lines of text on the first n records; the first has place 1
unfoldable pub lines_of : List Float → ℕ → List ℕ
lines_of fs zero = []
lines_of fs (suc k) = lines_of fs k ++ line_of (k + 1) (clip_at fs k)

unfoldable pub opening_of : ℕ → ℕ → List ℕ
opening_of version n = hsl ++ (field_of version ++ (field_of n ++ ascii "\n"))

unfoldable pub refusal_of : RefusalAt → List ℕ
refusal_of at = ascii "refused" ++ (field_of (number_of at.refusal) ++ (field_of at.place ++ ascii "\n"))

unfoldable pub text_of : Answer → List ℕ
text_of (Err at) = refusal_of at
text_of (Ok c) = opening_of c.version c.count ++ lines_of (map float_of c.patterns) c.count

-- the report on the bytes of a file
unfoldable pub report_of : List ℕ → List ℕ
report_of b = text_of (decode hsl rows b)
