-- What a lent list holds afterwards, and what is answered of it. Definitions only.
use Rattle.std.specs.Prelude.{cond, List, ◌++◌, ℕ, ltb, length, drop, Result, Ok, Err}

-- the list l with es in its first entries, and beyond them as it was
unfoldable pub written : {A : Type 0} → List A → List A → List A
written es l = es ++ drop (length es) l

-- how many entries es has, or the refusal `short` where a list of this length is too short for them
unfoldable pub fitted : {A E : Type 0} → E → List A → ℕ → Result ℕ E
fitted short es room = cond (ltb room (length es)) (Err short) (Ok (length es))

-- the list l after the answer: as it was on a refusal, and else with es written into it
unfoldable pub leaves : {A E : Type 0} → Result ℕ E → List A → List A → List A
leaves (Err refusal) es l = l
leaves (Ok n) es l = written es l
