-- The sides of an image over which a stroke is accepted.
use Rattle.std.proofs.Common.{◌≡◌, ℕ, ◌≤◌, Bool, true, false, cond, refl, ltb, arith}
use borrow.Author.Tests.{ltb-false}
use Rattle.std.specs.Prelude.{Result, Ok, Err}
use Rattle.types.specs.declared.shape.Vec2.{Vec2}
use Rattle.types.specs.declared.refusal.Refusal.TheVariants.{SameEnds, Size as TooLarge}
use Rattle.types.specs.declared.refusal.RefusalAt.{RefusalAt}
use Rattle.types.specs.Refusal.{nowhere}
use Rattle.float.proofs.Tests.{neither}
use Rattle.types.specs.Side.{sides_too_large_of}
use Rattle.stroke_check.specs.Check.{first_offender_of, coordinates, same_ends_of, unless_offender, accept_of}

pub record Small (w h : ℕ) : Type 0 where
  pub wide : w ≤ 16384
  pub high : h ≤ 16384

abbrev yes : Result Unit RefusalAt
yes = Ok tt

pub accepted_sides : (w h : ℕ) (p q : Vec2) → accept_of w h p q ≡ yes → Small w h
unfolding accept_of sides_too_large_of
accepted_sides w h p q = go (sides_too_large_of w h) (unless_offender (first_offender_of (coordinates p q)) (cond (same_ends_of p q) (Err (nowhere SameEnds)) yes)) refl
  where
    go : (t : Bool) (rest : Result Unit RefusalAt) → sides_too_large_of w h ≡ t → cond t (Err (nowhere TooLarge)) rest ≡ yes → Small w h
    go true rest e a = absurd (let z : ◌≡◌ {A = ℕ} 0 1 = cc in let y : ⊥ = omega arith in y)
    go false rest e a =
        let s = neither (ltb 16384 w) (ltb 16384 h) e in
        record { wide = ltb-false 16384 w s.0; high = ltb-false 16384 h s.1 }
