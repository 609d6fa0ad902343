-- What the routines on points and vectors return, each operation rounded. Definitions only.
use Rattle.std.specs.Prelude.{Float}
use Rattle.types.specs.declared.shape.Vec2.{Vec2}
use Rattle.root.specs.Root.{sqrt_of}
pub use Rattle.types.specs.Vec2.{sub_of, dot_of}

abbrev pub squared_length_of : Vec2 → Float
squared_length_of p = dot_of p p

-- the root of the squared length
abbrev pub length_of : Vec2 → Float
length_of p = sqrt_of (squared_length_of p)
