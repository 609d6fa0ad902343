-- What a routine answers of a stroke that may be refused. Definitions only.
use Rattle.std.specs.Prelude.{Result, Ok, Err}
use Rattle.types.specs.declared.refusal.RefusalAt.{RefusalAt}

-- the refusal, and r if there is none
unfoldable pub if_accepted : {A : Type 0} → Result Unit RefusalAt → Result A RefusalAt → Result A RefusalAt
if_accepted (Ok _) r = r
if_accepted (Err at) r = Err at
