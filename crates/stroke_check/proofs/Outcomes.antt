-- What the tests answer is known in one way at most.
use Rattle.std.proofs.Props.{props}
use Rattle.std.specs.Prelude.{Result}
use mathlib.Core.Sum.{⊎_set}
use Rattle.types.specs.declared.refusal.RefusalAt.{RefusalAt}

pub outcome_set : IsSet (Result Unit RefusalAt)
outcome_set = hlevel (props, ⊎_set)
