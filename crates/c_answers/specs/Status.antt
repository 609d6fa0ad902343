-- The status of an answer as C sees it. Definitions only.
use Rattle.std.specs.Prelude.{ℕ, Result, Ok, Err}
use Rattle.types.specs.declared.refusal.Refusal.{Refusal}
use Rattle.types.specs.Refusal.{number_of}

-- of an answer that there is
abbrev pub answered : ℕ
answered = 0

-- of none
abbrev pub none : ℕ
none = 255

abbrev pub status_of : {T : Type 0} → Result T Refusal → ℕ
status_of (Ok _) = answered
status_of (Err refusal) = number_of refusal
