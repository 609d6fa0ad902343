-- The numbers by which C knows the refusals, and refusals with a place. Definitions only.
use Rattle.std.specs.Prelude.{ℕ}
use Rattle.types.specs.declared.refusal.Refusal.{Refusal}
use Rattle.types.specs.declared.refusal.Refusal.TheVariants.{Room, SameEnds, Coordinate, Size, Order, Radius, NanLength, NoImage, Index, Mark, Version, Count, Length, Lines, NotFinite, NanProjection, Corner}
use Rattle.types.specs.declared.refusal.RefusalAt.{RefusalAt}

abbrev pub number_of : Refusal → ℕ
number_of Room = 1
number_of SameEnds = 2
number_of Coordinate = 3
number_of Size = 4
number_of Order = 5
number_of Radius = 6
number_of NanLength = 7
number_of NoImage = 8
number_of Index = 9
number_of Mark = 10
number_of Version = 11
number_of Count = 12
number_of Length = 13
number_of Lines = 14
number_of NotFinite = 15
number_of NanProjection = 16
number_of Corner = 17

-- told with a place
abbrev pub refusal_at : Refusal → ℕ → RefusalAt
refusal_at refusal place = record { refusal = refusal; place = place }

-- and with none
abbrev pub nowhere : Refusal → RefusalAt
nowhere refusal = refusal_at refusal 0
