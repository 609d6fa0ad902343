-- Coordinates looked at one after the other: what is left to look at after the first i.
use mathlib.Core.Path.{◌≡◌, refl, ◌∙◌}
use mathlib.Core.Bool.{true, false, cond}
use mathlib.Core.List.{List}
use Prim.Native.Nat.{ℕ, suc, ◌+◌, ◌<◌, ◌≤◌}
use native.Mathlib.Numerals.{add-one}
use lib.ListN.{length, get_or, drop, drop_of_length-le}
use lib.Seq.{drop-cons}
use lib.Ieee.{Float, nan}
use Rattle.std.specs.Prelude.{Some, Result, Ok, Err}
use Rattle.types.specs.declared.refusal.RefusalAt.{RefusalAt}
use Rattle.types.specs.Refusal.{refusal_at}
use Rattle.stroke_check.specs.Check.{within_limit_of, refusal_of, offender_from, first_offender_of, unless_offender}

module _ (xs : List Float) where
  abbrev outcome : Result Unit RefusalAt
  outcome = unless_offender (first_offender_of xs) (Ok tt)

  pub record Left (i : ℕ) : Type 0 where
    pub left : first_offender_of xs ≡ offender_from i (drop i xs)

  pub left_none : Left 0
  left_none = record { left = refl }

  module _ (i : ℕ) (h : i < length xs) (l : Left i) where
    abbrev x : Float
    x = get_or xs i nan

    next : first_offender_of xs ≡ cond (within_limit_of x) (offender_from (suc i) (drop (suc i) xs)) (Some (refusal_at (refusal_of x) i))
    unfolding offender_from
    next = l.left ∙ rw (drop-cons xs i nan h)

    pub left_more : within_limit_of x ≡ true → Left (i + 1)
    left_more e = record { left = rw add-one (next ∙ rw e) }

    pub left_found : within_limit_of x ≡ false → Err (refusal_at (refusal_of x) i) ≡ outcome
    unfolding unless_offender
    left_found e = rw (next, e)

  pub left_end : (i : ℕ) → length xs ≤ i → Left i → Ok tt ≡ outcome
  unfolding offender_from unless_offender
  left_end i g l = rw (l.left, drop_of_length-le xs g)
