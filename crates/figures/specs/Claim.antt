-- The claim about the figures, proved in proofs/Hold.antt: each row of the eight lists holds. Definitions only.
use Rattle.figures.specs.Table.{Hold}
use Rattle.figures.specs.Known.{known}
use Rattle.figures.specs.Twins.{twins}
use Rattle.figures.specs.Further.{further}
use Rattle.figures.specs.Faces.{faces}
use Rattle.figures.specs.Edges.{edges}
use Rattle.figures.specs.Offenders.{offenders}
use Rattle.figures.specs.Inside.{insides}
use Rattle.figures.specs.Ink.{inks}

abbrev pub FiguresHold : Type 0
FiguresHold = Hold known × Hold twins × Hold further × Hold faces × Hold offenders × Hold insides × Hold inks × Hold edges
