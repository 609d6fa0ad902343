-- The axes of an accepted stroke: how they step, and that this is known in one way at most.
use Rattle.std.proofs.Common.{◌≡◌, ℕ, Bool, T, true, false, refl, sym, subst}
use Rattle.std.proofs.Props.{props}
use Rattle.std.specs.Prelude.{Float}
use Rattle.std.specs.Float.{nan, inf, fin}
use Rattle.types.specs.declared.shape.Vec2.{Vec2}
use Rattle.rounded.specs.Size.{Size}
use Rattle.stroke_check.proofs.Accepted.{Passed}
use Rattle.stroke.specs.declared.axis.Axis.{Axis}
use Rattle.stroke.specs.Walk.{axis_from, along_x, along_y}
use Rattle.stroke.specs.Steps.{Paced}
use Rattle.stroke.proofs.Axes.{sized_x, sized_y, stroke_stops}

size_prop : (k : ℕ) (x : Float) → IsProp (Size k x)
size_prop k nan = hlevel props
size_prop k (inf s) = hlevel props
size_prop k (fin s m e) = hlevel props

pub paced_prop : (a b : Axis) → IsProp (Paced a b)
paced_prop a b = hlevel (props, size_prop)

is_true : (t : Bool) → T t → t ≡ true
is_true true h = refl
is_true false h = absurd h

pub stroke_paced : {w h : ℕ} {p q : Vec2} → Passed w h p q → Paced (along_x p q) (along_y p q)
unfolding axis_from
stroke_paced v = record {
  x_sized = sized_x v.stroke;
  y_sized = sized_y v.stroke;
  x_fits = is_true _ v.stroke.ends.x0.fit;
  y_fits = is_true _ v.stroke.ends.y0.fit;
  stops = stroke_stops v.stroke;
}

-- of axes that are the stroke's
pub walk_paced : {w h : ℕ} {p q : Vec2} {a b : Axis} → Passed w h p q → a ≡ along_x p q → b ≡ along_y p q → Paced a b
walk_paced {w} {h} {p} {q} {a} {b} v x y = subst (λ (z : Axis). Paced z b) (sym x) (subst (Paced (along_x p q)) (sym y) (stroke_paced v))
