-- What widening a lent box leaves and answers, from what widening it by value answers. Definitions only.
use Rattle.std.specs.Prelude.{Result, Ok, Err}
use Rattle.std.specs.Result.{result_unwrap_or}
use Rattle.types.specs.declared.shape.Aabb2.{Aabb2}
use Rattle.types.specs.declared.refusal.Refusal.{Refusal}

-- the box afterwards: on a refusal the box as it was
abbrev pub settled_of : Aabb2 → Result Aabb2 Refusal → Aabb2
settled_of b wider = result_unwrap_or wider b

-- the answer: the box is with the lender
abbrev pub answered_of : Result Aabb2 Refusal → Result Unit Refusal
answered_of (Ok w) = Ok tt
answered_of (Err refusal) = Err refusal
