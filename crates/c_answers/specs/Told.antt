-- A fact of an answer, said of what C is told of it. Definitions only.
use Rattle.std.specs.Prelude.{◌≡◌}

-- What C is told is `of` some answer, and the fact holds of that answer.
pub record Tells {A C : Type 0} (of : A → C) (told : C) (Fact : A → Type 0) : Type 0 where
  pub answer : A
  pub is : told ≡ of answer
  pub holds : Fact answer
