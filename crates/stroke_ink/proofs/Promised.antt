-- The promise at each way to return: of a refusal there is nothing more to say, and of an answer there are the laws of what is drawn.
use mathlib.Core.Path.{◌≡◌, sym, subst, ◌∙◌}
use mathlib.Core.Bool.{true}
use Prim.Native.Nat.{ℕ}
use native.Mathlib.Omega.{arith}
use lib.Ieee.{Float}
use Rattle.types.specs.declared.shape.Vec2.{Vec2}
use Rattle.types.specs.declared.shape.Aabb2.{Aabb2}
use Rattle.std.specs.Prelude.{Ok, Err}
use Rattle.types.specs.declared.refusal.RefusalAt.{RefusalAt}
use Rattle.types.specs.Range.{ordered_of}
use Rattle.types.specs.Aabb2.{x_range_of, y_range_of, is_ordered_of}
use Rattle.rounded.proofs.Down.{both}
use Rattle.stroke_check.specs.Check.{first_offender_of, coordinates, unless_offender}
use Rattle.stroke_check.proofs.Accepted.{AreFloats, yes, bounded, none_offends}
use Rattle.stroke_ink.specs.Ink.{drawn_of, ink_of}
use Rattle.stroke_ink.specs.Promise.{Inked, InkPromise}
use Rattle.stroke_ink.proofs.Laws.{is_length, whole, missed, outside, no_length}

pub refused : {p q : Vec2} {b : Aabb2} {at : RefusalAt} → Err at ≡ ink_of p q b → InkPromise p q b (Err at)
refused e = record { answers = e; inked = λ x z. absurd (let y : ◌≡◌ {A = ℕ} 0 1 = cc in let o : ⊥ = omega arith in o) }

-- coordinates that are f32 and let pass, and a box in order
module _ {p q : Vec2} {b : Aabb2} (f : AreFloats p q) (pass : yes ≡ unless_offender (first_offender_of (coordinates p q)) yes)
    (ordered : is_ordered_of b ≡ true) where
  inked : Inked p q b (drawn_of p q b)
  inked =
      let w = bounded f (none_offends pass) in
      let l = is_length w b in
      record {
        is_finite = l.is_finite;
        not_negative = l.not_negative;
        whole = whole w b;
        missed = missed w b;
        outside = let o = both (ordered_of (x_range_of b)) (ordered_of (y_range_of b)) ordered in outside w b o.0 o.1;
        no_length = no_length w b;
      }

  pub measured : {x : Float} → x ≡ drawn_of p q b → InkPromise p q b (Ok x)
  unfolding ink_of unless_offender
  measured {x} d = record {
    answers = rw (d, none_offends pass, ordered);
    inked = λ y z. let same : x ≡ y = cc in subst (Inked p q b) (sym d ∙ same) inked;
  }
