-- Two lists merged: the entries of the first in its order, then those of the second that are neither in the first nor earlier in the second.
-- Entries are of any type, with a test whether two are the same. Definitions only.
use Rattle.std.specs.Prelude.{Bool, cond, List, [], ◌∷◌, ◌++◌}
use Rattle.std.specs.List.{list_any}

-- the entries that a list adds to those before it: each that is neither among them nor earlier in the list
unfoldable pub added : {A : Type 0} → (A → A → Bool) → List A → List A → List A
added same before [] = []
added same before (y ∷ ys) = cond (list_any (same y) before) [] (y ∷ []) ++ added same (before ++ (y ∷ [])) ys

abbrev pub merged : {A : Type 0} → (A → A → Bool) → List A → List A → List A
merged same xs ys = xs ++ added same xs ys
