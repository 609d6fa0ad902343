-- Words on answers that std lacks. Definitions only.
use Rattle.std.specs.Prelude.{Result, Ok, Err}

-- `r.and_then(f)`, as code with a `?` goes on with a value
abbrev pub result_and_then : {T U E : Type 0} → (T → Result U E) → Result T E → Result U E
result_and_then f (Ok x) = f x
result_and_then f (Err e) = Err e
