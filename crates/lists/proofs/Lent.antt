-- What an answer says of the list that was lent.
use mathlib.Core.Path.{◌≡◌, refl, sym, ap, ◌∙◌}
use mathlib.Core.Bool.{Bool, true, false, cond}
use mathlib.Core.List.{List, ◌++◌}
use Prim.Native.Nat.{ℕ, ◌<◌, ◌≤◌}
use native.Mathlib.Nat.{zero-add}
use native.Mathlib.Omega.{arith}
use borrow.Author.Tests.{ltb-true}
use lib.Dec.{ltb}
use lib.ListN.{length, drop}
use lib.Seq.{sets, sets-eq}
use Rattle.std.specs.Prelude.{Result, Ok, Err}
use Rattle.lists.specs.Lent.{written, fitted}

-- stores from the first entry on
pub sets_written : {A : Type 0} (es l : List A) → length es ≤ length l → sets l 0 es ≡ written es l
unfolding written
sets_written {A} es l h = sets-eq es l 0 (omega arith) ∙ ap (λ (k : ℕ). es ++ drop k l) (zero-add (length es))

-- a refusal is no count
pub no_count : {A E : Type 0} (refusal : E) (n : ℕ) → ◌≡◌ {A = Result ℕ E} (Err refusal) (Ok n) → A
no_count refusal n e = absurd (let z : ◌≡◌ {A = ℕ} 0 1 = cc in let y : ⊥ = omega arith in y)

pub same_count : {E : Type 0} (m n : ℕ) → ◌≡◌ {A = Result ℕ E} (Ok m) (Ok n) → m ≡ n
same_count m n e = cc

pub same_refusal : {E : Type 0} (x y : E) → ◌≡◌ {A = Result ℕ E} (Err x) (Err y) → x ≡ y
same_refusal x y e = cc

-- a count is that of the entries, and where there is none the list is too short for them
module _ {A E : Type 0} (short : E) (es : List A) (room : ℕ) where
  pub fitted_count : (n : ℕ) → fitted short es room ≡ Ok n → length es ≡ n
  unfolding fitted
  fitted_count n = go (ltb room (length es))
    where
      go : (t : Bool) → cond t (Err short) (Ok (length es)) ≡ Ok n → length es ≡ n
      go true e = no_count short n e
      go false e = same_count (length es) n e

  pub fitted_short : (refusal : E) → fitted short es room ≡ Err refusal → room < length es
  unfolding fitted
  fitted_short refusal = go (ltb room (length es)) (ltb-true room (length es))
    where
      go : (t : Bool) → (t ≡ true → room < length es) → cond t (Err short) (Ok (length es)) ≡ Err refusal → room < length es
      go true l e = l refl
      go false l e = no_count refusal (length es) (sym e)
