-- The stretch of a walk in the image, entry by entry, and that no position after it is in the image.
use Rattle.std.proofs.Common.{◌≡◌, ℕ, zero, suc, ◌+◌, ◌-◌, ◌<◌, ◌≤◌, Bool, true, false, ◌&&◌, List, [], ◌∷◌, ◌++◌, length, drop, set, pos, sym, refl, ap, ◌∙◌, subst, append-nil, add-one, eq-or-lt_of_le, length-append, inl, inr, arith}
use mathlib.Core.Bool.{true≢false}
use lib.Ieee.{Float, binary32, of_int}
use Rattle.types.specs.declared.shape.Vec2.{Vec2}
use Rattle.lists.specs.Lent.{written}
use Rattle.lists.proofs.Fill.{store_next}
use Rattle.rounded.specs.Size.{Size}
use Rattle.rounded.proofs.Down.{both}
use Rattle.rounded.proofs.Sizes.{size_wider}
use Rattle.stroke.specs.declared.axis.Axis.{Axis}
use Rattle.stroke.specs.Image.{on_side_of, in_sides_of, on_image}
use Rattle.stroke.specs.Walk.{at, within, position, in_ranges_of, goes_on, most_steps, exit}
use Rattle.stroke.specs.Steps.{Sized, Paced, next}
use Rattle.stroke.proofs.Outside.{at_size}
use Rattle.stroke.proofs.Stops.{exit_le}
use Rattle.stroke.proofs.Walking.{next_is}
use Rattle.pixels.specs.declared.course.Reached.{Reached}
use Rattle.pixels.specs.Entries.{number, keep_if}
use Rattle.pixels.specs.Limit.{Limits}
use Rattle.pixels.specs.Post.{Bounded, entered, inside, Entry, written_if, Stretch}
use Rattle.pixels.proofs.Lists.{no_entries, entered_suc}

-- ---- a position of an accepted walk

at_bounded : {a : Axis} → Sized a → (k : ℕ) → k ≤ most_steps → Size 196610 (at a k)
at_bounded {a} s k m = size_wider (65536 + k) 196610 (at a k) (omega arith) (at_size s k (omega arith))

pub position_bounded : {a b : Axis} → Paced a b → (k : ℕ) → k ≤ exit a b → (p : Vec2) → p ≡ position a b k → Bounded p
position_bounded {a} {b} d k m p e =
    let few : k ≤ most_steps = omega (arith, exit_le a b) in
    record {
      x_size = subst (λ (q : Vec2). Size 196610 q.x) (sym e) (at_bounded d.x_sized k few);
      y_size = subst (λ (q : Vec2). Size 196610 q.y) (sym e) (at_bounded d.y_sized k few);
    }

-- it goes on, so it is not the exit
pub before : (w h : ℕ) {a b : Axis} → Paced a b → (k : ℕ) → k ≤ exit a b → inside w h a b k ≡ true → k < exit a b
before w h {a} {b} d k m i =
    let on = (both (goes_on a b k) (on_image w h (position a b k)) i).0 in
    elim (eq-or-lt_of_le m) [
      | inl e ↦ absurd (true≢false (sym (subst (λ (j : ℕ). goes_on a b j ≡ true) e on) ∙ d.stops.out))
      | inr l ↦ l
    ]

pub lies : (w h : ℕ) (a b : Axis) (k : ℕ) → inside w h a b k ≡ true → (p : Vec2) → p ≡ position a b k → on_image w h p ≡ true
lies w h a b k i p e = subst (λ (q : Vec2). on_image w h q ≡ true) (sym e) (both (goes_on a b k) (on_image w h (position a b k)) i).1

-- ---- after the stretch

pub exchanged : (p q r s : Bool) → (p && q) && (r && s) ≡ (p && r) && (q && s)
exchanged false q r s = refl
exchanged true false false s = refl
exchanged true false true s = refl
exchanged true true r s = refl

module _ (w h : ℕ) {a b : Axis} (d : Paced a b) {tx ty : Float → Bool} {k₀ : ℕ}
    (x : Limits tx a (of_int binary32 (pos w)) k₀) (y : Limits ty b (of_int binary32 (pos h)) k₀) where
  pub inside_is : (k : ℕ) → k₀ ≤ k → k ≤ most_steps → inside w h a b k ≡ tx (at a k) && ty (at b k)
  unfolding in_ranges_of in_sides_of
  inside_is k l m =
      exchanged (within a (at a k)) (within b (at b k)) (on_side_of (of_int binary32 (pos w)) (at a k)) (on_side_of (of_int binary32 (pos h)) (at b k))
      ∙ rw (x.allows_is k l m, y.allows_is k l m) refl

  pub inside_here : (k : ℕ) → k₀ ≤ k → k ≤ exit a b → (p : Vec2) → p ≡ position a b k → (t : Bool) → tx p.x && ty p.y ≡ t → inside w h a b k ≡ t
  inside_here k l m p e t f =
      inside_is k l (omega (arith, exit_le a b)) ∙ subst (λ (q : Vec2). tx q.x && ty q.y ≡ t) e f

  gone : (k : ℕ) → k₀ ≤ k → inside w h a b k ≡ false → (n : ℕ) → k + n ≤ most_steps → inside w h a b (k + n) ≡ false
  gone k l e zero m = let i : k + 0 ≡ k = omega arith in rw i e
  gone k l e (suc n) m =
      let i : k + suc n ≡ suc (k + n) = omega arith in
      let g = sym (inside_is (k + n) (omega arith) (omega arith)) ∙ gone k l e n (omega arith) in
      rw i (inside_is (suc (k + n)) (omega arith) (omega arith) ∙ go (tx (at a (k + n))) (ty (at b (k + n))) refl refl g)
    where
      last : (t : Bool) → t && false ≡ false
      last true = refl
      last false = refl

      go : (t u : Bool) → tx (at a (k + n)) ≡ t → ty (at b (k + n)) ≡ u → t && u ≡ false → tx (at a (suc (k + n))) && ty (at b (suc (k + n))) ≡ false
      go false u p q z = rw (x.stays (k + n) (omega arith) (omega arith) p) refl
      go true false p q z = rw (y.stays (k + n) (omega arith) (omega arith) q) (last _)
      go true true p q z = absurd (true≢false z)

  -- so no position after it makes an entry
  rest : (k : ℕ) → k₀ ≤ k → inside w h a b k ≡ false → (n : ℕ) → k + n ≤ exit a b → entered w h a b (k + n) ≡ entered w h a b k
  rest k l e zero m = let i : k + 0 ≡ k = omega arith in rw i refl
  rest k l e (suc n) m =
      let i : k + suc n ≡ suc (k + n) = omega arith in
      let out : on_image w h (position a b (k + n)) ≡ false =
      subst (λ (t : Bool). t && on_image w h (position a b (k + n)) ≡ false) (d.stops.on (k + n) (omega arith))
      (gone k l e n (omega (arith, exit_le a b))) in
      rw i
      (entered_suc w h a b (k + n)
      ∙ ap (λ (t : Bool). entered w h a b (k + n) ++ keep_if t (number w (position a b (k + n))) []) out
      ∙ append-nil (entered w h a b (k + n)) ∙ rest k l e n (omega arith))

  pub whole : (k : ℕ) → k₀ ≤ k → k ≤ exit a b → inside w h a b k ≡ false → entered w h a b (exit a b) ≡ entered w h a b k
  whole k l m e = let i : k + (exit a b - k) ≡ exit a b = omega arith in subst (λ (j : ℕ). entered w h a b j ≡ entered w h a b k) i (rest k l e (exit a b - k) (omega arith))

-- ---- the stretch

-- `count` entries of the positions before k stand in `list`, which was l
pub record Running (write : Bool) (w h : ℕ) (a b : Axis) (l list : List ℕ) (p : Vec2) (count k : ℕ) : Type 0 where
  pub position_is : p ≡ position a b k
  pub few : k ≤ exit a b
  pub count_is : count ≡ length (entered w h a b k)
  pub list_is : list ≡ written_if write (entered w h a b k) l

pub running_none :
    (write : Bool) {w h : ℕ} {a b : Axis} (l : List ℕ) {r : Reached} → Entry w h a b r → (k : ℕ) → k ≡ r.steps → Running write w h a b l l r.position 0 k
unfolding written
running_none write {w} {h} {a} {b} l {r} g k e = record {
  position_is = g.reached.position_is ∙ ap (position a b) (sym e);
  few = omega (arith, g.reached.few);
  count_is = sym g.none ∙ g.reached.count_is ∙ ap (λ (i : ℕ). length (entered w h a b i)) (sym e);
  list_is = go write ∙ ap (λ (i : ℕ). written_if write (entered w h a b i) l) (sym e);
}
  where
    empty : entered w h a b r.steps ≡ []
    empty = no_entries (entered w h a b r.steps) (sym g.none ∙ g.reached.count_is)

    go : (t : Bool) → l ≡ written_if t (entered w h a b r.steps) l
    go true = rw empty refl
    go false = refl

abbrev pub stored : Bool → List ℕ → ℕ → ℕ → List ℕ
stored true l i v = set l i v
stored false l i v = l

module _ {write : Bool} {w h : ℕ} {a b : Axis} {l list : List ℕ} {p : Vec2} {count k : ℕ} (d : Paced a b) (g : Running write w h a b l list p count k) where
  pub running_more : inside w h a b k ≡ true → (write ≡ true → count < length l) → (q : Vec2) → q ≡ next a b p → (v : ℕ) → v ≡ number w p → (k' : ℕ) → k' ≡ suc k
      → (list' : List ℕ) → list' ≡ stored write list count v → Running write w h a b l list' q (count + 1) k'
  unfolding written
  running_more i room q e v f k' z list' s = record {
    position_is = next_is a b p q k g.position_is e ∙ ap (position a b) (add-one k ∙ sym z);
    few = omega (arith, before w h d k g.few i);
    count_is = ap (λ (i : ℕ). i + 1) g.count_is ∙ sym (length-append E (V ∷ [])) ∙ ap length more;
    list_is = s ∙ go write refl g.list_is ∙ ap (λ (es : List ℕ). written_if write es l) more;
  }
    where
      E : List ℕ
      E = entered w h a b k

      V : ℕ
      V = number w (position a b k)

      more : E ++ (V ∷ []) ≡ entered w h a b k'
      more =
          ap (λ (t : Bool). E ++ keep_if t V []) (sym (both (goes_on a b k) (on_image w h (position a b k)) i).1)
          ∙ sym (entered_suc w h a b k) ∙ ap (entered w h a b) (sym z)

      go : (t : Bool) → write ≡ t → list ≡ written_if t E l → stored t list count v ≡ written_if t (E ++ (V ∷ [])) l
      go false o s = s
      go true o s =
          ap (λ (t : List ℕ). set t count v) s ∙ ap (λ (i : ℕ). set (E ++ drop (length E) l) i v) g.count_is
          ∙ store_next E l (length E) v refl (omega (arith, g.count_is, room o))
          ∙ ap (λ (i : ℕ). (E ++ (i ∷ [])) ++ drop (suc (length E)) l) (f ∙ ap (number w) g.position_is)
          ∙ ap (λ (i : ℕ). (E ++ (V ∷ [])) ++ drop i l) (sym (length-append E (V ∷ []) ∙ add-one (length E)))

  pub running_end :
      {room : ℕ} → count ≤ room → (inside w h a b k ≡ true → count ≡ room) → (inside w h a b k ≡ false → entered w h a b (exit a b) ≡ entered w h a b k) →
      Stretch write w h a b room (record { count = count; steps = k; position = p }) l list
  running_end m s e = record {
    reached = record { position_is = g.position_is; count_is = g.count_is; few = g.few };
    list_is = g.list_is;
    most = m;
    short = s;
    whole = e;
  }
