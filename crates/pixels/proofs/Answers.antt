-- The answer and the list, from what the walk has found.
use Rattle.std.proofs.Common.{◌≡◌, ℕ, suc, ◌+◌, ◌-◌, ◌<◌, ◌≤◌, Bool, ◌&&◌, true, false, not, ltb, leb, List, [], ◌∷◌, ◌++◌, length, drop, set, sym, refl, ap, ◌∙◌, subst, arith, le-ltb, lt-ltb, le-leb, length-append, add-one, append-nil}
use borrow.Author.Tests.{lt-leb}
use mir.Val.{bool_byte}
use Rattle.types.specs.declared.shape.Vec2.{Vec2}
use Rattle.std.specs.Prelude.{Result, Ok, Err}
use Rattle.types.specs.declared.refusal.Refusal.TheVariants.{Room}
use Rattle.types.specs.declared.refusal.RefusalAt.{RefusalAt}
use Rattle.types.specs.Refusal.{nowhere}
use Rattle.lists.specs.Lent.{written, fitted, leaves}
use Rattle.lists.proofs.Fill.{store_next}
use Rattle.rounded.proofs.Down.{both}
use Rattle.stroke.specs.declared.axis.Axis.{Axis}
use Rattle.stroke.specs.Walk.{position, in_ranges_of, goes_on, exit, positions, along_x, along_y}
use Rattle.stroke.specs.Image.{on_image, one_if_of}
use Rattle.stroke.specs.declared.image.Image.{Image}
use Rattle.pixels.specs.declared.course.Reached.{Reached}
use Rattle.pixels.specs.declared.course.Course.{Course}
use Rattle.pixels.specs.Entries.{number, entries, stroke_of}
use Rattle.stroke.specs.Steps.{Paced}
use Rattle.pixels.specs.Post.{entered, inside, Stretch, Listing}
use Rattle.pixels.proofs.Lists.{entered_le, entered_more, entries_length}
use Rattle.pixels.proofs.Running.{before}

-- ---- the course that the code has made is the stroke's

pub record Made (image : Image) (p q : Vec2) (course : Course) : Type 0 where
  pub image_is : course.image ≡ image
  pub a_is : course.walk.x ≡ along_x p q
  pub b_is : course.walk.y ≡ along_y p q

module _ {image : Image} {p q : Vec2} {course : Course} (m : Made image p q course) where
  made_entries : (c : Bool) → entries c course.image.width course.image.height course.walk.x course.walk.y ≡ stroke_of c image.width image.height p q
  unfolding stroke_of
  made_entries c =
      ap (λ (i : Image). entries c i.width i.height course.walk.x course.walk.y) m.image_is
      ∙ ap (λ (a : Axis). entries c image.width image.height a course.walk.y) m.a_is
      ∙ ap (entries c image.width image.height (along_x p q)) m.b_is

  pub made_listing :
      (c : Bool) (l : List ℕ) (r : Result ℕ RefusalAt) (l' : List ℕ) →
      Listing (entries c course.image.width course.image.height course.walk.x course.walk.y) l r l' →
      Listing (stroke_of c image.width image.height p q) l r l'
  made_listing c l r l' g = subst (λ (es : List ℕ). Listing es l r l') (made_entries c) g

  pub made_length :
      length (entered course.image.width course.image.height course.walk.x course.walk.y (exit course.walk.x course.walk.y))
      ≡ length (entered image.width image.height (along_x p q) (along_y p q) (exit (along_x p q) (along_y p q)))
  made_length =
      ap (λ (i : Image). length (entered i.width i.height course.walk.x course.walk.y (exit course.walk.x course.walk.y))) m.image_is
      ∙ ap (λ (a : Axis). length (entered image.width image.height a course.walk.y (exit a course.walk.y))) m.a_is
      ∙ ap (λ (b : Axis). length (entered image.width image.height (along_x p q) b (exit (along_x p q) b))) m.b_is

-- ---- the stretch has all entries, or the list is too short

module _ {write : Bool} (w h : ℕ) {a b : Axis} {room : ℕ} {r : Reached} {l l' : List ℕ} (d : Paced a b) (g : Stretch write w h a b room r l l') where
  -- where the walk is still inside, there is an entry more
  more : inside w h a b r.steps ≡ true → room < length (entered w h a b (exit a b))
  more i =
      let less = before w h d r.steps g.reached.few i in
      let e : suc r.steps + (exit a b - suc r.steps) ≡ exit a b = omega arith in
      omega (
        arith,
        g.short i,
        g.reached.count_is,
        entered_more w h a b r.steps,
        ap one_if_of (both (goes_on a b r.steps) (on_image w h (position a b r.steps)) i).1,
        entered_le w h a b (suc r.steps) (exit a b - suc r.steps),
        ap (λ (i : ℕ). length (entered w h a b i)) e,
      )

  pub inside_of : (t : Bool) → t ≡ in_ranges_of a b r.position && on_image w h r.position → inside w h a b r.steps ≡ t
  inside_of t e = sym (e ∙ ap (λ (p : Vec2). in_ranges_of a b p && on_image w h p) g.reached.position_is)

  pub counted : (t : Bool) → inside w h a b r.steps ≡ t → not t ≡ leb (length (entered w h a b (exit a b))) room
  counted true i = sym (lt-leb (length (entered w h a b (exit a b))) room (more i))
  counted false i = sym (le-leb (length (entered w h a b (exit a b))) room (omega (arith, ap length (g.whole i), g.reached.count_is, g.most)))

  pub all_made : length (entered w h a b (exit a b)) ≤ room → entered w h a b r.steps ≡ entered w h a b (exit a b)
  all_made fits = go (inside w h a b r.steps) refl
    where
      go : (t : Bool) → inside w h a b r.steps ≡ t → entered w h a b r.steps ≡ entered w h a b (exit a b)
      go true i = absurd (let z : ⊥ = omega (arith, more i) in z)
      go false i = sym (g.whole i)

-- ---- the list is long enough, or not

module _ (w h : ℕ) (a b : Axis) (l : List ℕ) where
  abbrev pub E : List ℕ
  E = entered w h a b (exit a b)

  long_enough : (c : Bool) → length E + one_if_of c ≤ length l → ltb (length l) (length (entries c w h a b)) ≡ false
  long_enough c fits = le-ltb (length l) (length (entries c w h a b)) (omega (arith, entries_length c w h a b))

  pub open_listing : {n : ℕ} {l' : List ℕ} → length E ≤ length l → n ≡ length E → l' ≡ written E l → Listing (entries false w h a b) l (Ok n) l'
  unfolding fitted leaves entries positions
  open_listing fits e s =
      let n : E ++ [] ≡ E = append-nil E in
      (rw (long_enough false (omega arith)) (ap Ok (e ∙ sym (ap length n))), s ∙ ap (λ (es : List ℕ). written es l) (sym n))

  pub closed_listing : {n : ℕ} {list l' : List ℕ} → length E < length l → n ≡ length E → list ≡ written E l → (v : ℕ) → v ≡ number w (position a b (exit a b))
      → l' ≡ set list n v → Listing (entries true w h a b) l (Ok (n + 1)) l'
  unfolding fitted leaves entries positions written
  closed_listing {n} {list} fits e s v f t =
      let V = number w (position a b (exit a b)) in (
        rw (long_enough true (omega arith)) (ap Ok (omega (arith, e, entries_length true w h a b))),
        t ∙ ap (λ (t : List ℕ). set t n v) s ∙ ap (λ (i : ℕ). set (E ++ drop (length E) l) i v) e
            ∙ store_next E l (length E) v refl fits
            ∙ ap (λ (i : ℕ). (E ++ (i ∷ [])) ++ drop (suc (length E)) l) f
            ∙ ap (λ (i : ℕ). (E ++ (V ∷ [])) ++ drop i l) (sym (length-append E (V ∷ []) ∙ add-one (length E))),
      )

  pub short_listing : (c : Bool) → length l < length E + one_if_of c → Listing (entries c w h a b) l (Err (nowhere Room)) l
  unfolding fitted leaves
  short_listing c short = (rw (lt-ltb (length l) (length (entries c w h a b)) (omega (arith, entries_length c w h a b))), refl)

-- what a test is as a number
pub as_number : (t : Bool) → bool_byte t ≡ one_if_of t
as_number true = refl
as_number false = refl
