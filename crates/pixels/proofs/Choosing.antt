-- The limits that are chosen for the two coordinates of a stretch's first position.
use Rattle.std.proofs.Common.{◌≡◌, ℕ, ◌≤◌, Bool, true, false, ◌&&◌, cond, List, pos, refl, sym, ◌∙◌, subst, arith}
use mathlib.Core.Bool.{true≢false}
use lib.Ieee.{Float, binary32, lt, fits, of_int, is_nan}
use Rattle.types.specs.declared.shape.Vec2.{Vec2}
use Rattle.float.specs.Rounded.{+0}
use Rattle.float.specs.Values.{greater_of}
use Rattle.float.proofs.Casts.{of_int_lem}
use Rattle.rounded.proofs.Down.{both}
use Rattle.rounded.proofs.Numbers.{sized_number}
use Rattle.rounded.proofs.Signed.{has_number}
use Rattle.stroke.specs.declared.axis.Axis.{Axis}
use Rattle.stroke.specs.Image.{on_side_of, in_sides_of, on_image}
use Rattle.stroke.specs.Walk.{at, within, position, in_ranges_of, goes_on, most_steps, exit}
use Rattle.stroke.specs.Steps.{Sized, Paced}
use Rattle.stroke.proofs.Stops.{exit_le}
use Rattle.pixels.specs.declared.course.Reached.{Reached}
use Rattle.pixels.specs.declared.course.Course.{Course}
use Rattle.pixels.specs.declared.limit.Choice.{Choice}
use Rattle.pixels.specs.declared.limit.Choice.TheVariants.{AtLeast, AtMost, Below}
use Rattle.pixels.specs.Limit.{at_least, at_most, below, choice_of, Limits}
use Rattle.pixels.specs.Post.{entered, inside, Entry, Stretch}
use Rattle.pixels.proofs.Lists.{no_entries}
use Rattle.pixels.proofs.Limits.{Within, within_at, falls_limits, grows_limits, side_limits}
use Rattle.pixels.proofs.Running.{running_none}

-- what a choice tests
unfoldable pub test_of : Choice → Float → Bool
test_of (AtLeast limit) x = at_least limit x
test_of (AtMost limit) x = at_most limit x
test_of (Below limit) x = below limit x

-- ---- one coordinate, on a side of n pixels

record Lies (a : Axis) (n k : ℕ) : Type 0 where
  pub small : n ≤ 16384
  pub sized : Sized a
  pub fit : fits binary32 a.start ≡ true
  pub few : k ≤ most_steps
  pub ranged : within a (at a k) ≡ true
  pub sided : on_side_of (of_int binary32 (pos n)) (at a k) ≡ true

module _ {a : Axis} {n k : ℕ} (g : Lies a n k) where
  number : is_nan (of_int binary32 (pos n)) ≡ false
  number = has_number (of_int binary32 (pos n)) false n 1 (of_int_lem n (omega (arith, g.small)))

  lies : Within g.sized g.fit (of_int binary32 (pos n)) number k
  lies = within_at g.sized g.fit (of_int binary32 (pos n)) number k g.few g.ranged g.sided

  abbrev side : Float
  side = of_int binary32 (pos n)

  chosen : Limits (test_of (choice_of a side)) a side k
  unfolding test_of choice_of greater_of
  chosen = go (lt a.slope +0) (lt a.high side) refl refl
    where
      go :
          (t u : Bool) → lt a.slope +0 ≡ t → lt a.high side ≡ u →
          Limits (test_of (cond t (AtLeast (cond (lt a.low +0) +0 a.low)) (cond u (AtMost a.high) (Below side)))) a side k
      go true u s e = falls_limits g.sized g.fit side number s (sized_number 65537 a.low g.sized.low_size) k lies
      go false true s e = grows_limits g.sized g.fit side number s k lies e
      go false false s e = side_limits g.sized g.fit side number s k lies e

  chosen_limits : (c : Choice) → c ≡ choice_of a side → Limits (test_of c) a side k
  chosen_limits c e = subst (λ (d : Choice). Limits (test_of d) a side k) (sym e) chosen

-- ---- both, where the walk is inside

module _ (w h : ℕ) {a b : Axis} (d : Paced a b) (k : ℕ) (few : k ≤ exit a b) (i : inside w h a b k ≡ true) where
  on : (goes_on a b k ≡ true) × (on_image w h (position a b k) ≡ true)
  on = both (goes_on a b k) (on_image w h (position a b k)) i

  columns : w ≤ 16384 → Lies a w k
  unfolding in_ranges_of in_sides_of
  columns small = record {
    small = small;
    sized = d.x_sized;
    fit = d.x_fits;
    few = omega (arith, exit_le a b);
    ranged = (both (within a (at a k)) (within b (at b k)) on.0).0;
    sided = (both (on_side_of (of_int binary32 (pos w)) (at a k)) (on_side_of (of_int binary32 (pos h)) (at b k)) on.1).0;
  }

  rows : h ≤ 16384 → Lies b h k
  unfolding in_ranges_of in_sides_of
  rows small = record {
    small = small;
    sized = d.y_sized;
    fit = d.y_fits;
    few = omega (arith, exit_le a b);
    ranged = (both (within a (at a k)) (within b (at b k)) on.0).1;
    sided = (both (on_side_of (of_int binary32 (pos w)) (at a k)) (on_side_of (of_int binary32 (pos h)) (at b k)) on.1).1;
  }

-- ---- at the first position, as the code has it

module _ {w h : ℕ} {a b : Axis} {r : Reached} (g : Entry w h a b r) where
  inside_at : (t : Bool) → in_ranges_of a b r.position && on_image w h r.position ≡ t → inside w h a b r.steps ≡ t
  inside_at t e = subst (λ (p : Vec2). in_ranges_of a b p && on_image w h p ≡ t) g.reached.position_is e

  pub stretch_none : (write : Bool) (room : ℕ) (l : List ℕ) → in_ranges_of a b r.position && on_image w h r.position ≡ false → Stretch write w h a b room r l l
  stretch_none write room l e = record {
    reached = g.reached;
    list_is = (running_none write l g r.steps refl).list_is;
    most = omega (arith, g.none);
    short = λ z. absurd (true≢false (sym z ∙ inside_at false e));
    whole = λ z. g.empty z ∙ sym (no_entries (entered w h a b r.steps) (sym g.none ∙ g.reached.count_is));
  }

-- ---- of what the code has for the choice

module _ (s : Course) where
  pub column_limits :
      in_ranges_of s.walk.x s.walk.y s.first.position && on_image s.image.width s.image.height s.first.position ≡ true →
      (c : Choice) → c ≡ choice_of s.walk.x (of_int binary32 (pos s.image.width)) → Limits (test_of c) s.walk.x (of_int binary32 (pos s.image.width)) s.first.steps
  column_limits i c e =
      chosen_limits (columns s.image.width s.image.height s.paced s.first.steps s.entry.reached.few (inside_at s.entry true i) s.image.wide) c e

  pub row_limits :
      inside s.image.width s.image.height s.walk.x s.walk.y s.first.steps ≡ true →
      (c : Choice) → c ≡ choice_of s.walk.y (of_int binary32 (pos s.image.height)) → Limits (test_of c) s.walk.y (of_int binary32 (pos s.image.height)) s.first.steps
  row_limits i c e = chosen_limits (rows s.image.width s.image.height s.paced s.first.steps s.entry.reached.few i s.image.high) c e
