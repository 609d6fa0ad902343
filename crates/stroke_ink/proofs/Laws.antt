-- The laws of what a stroke draws in a box: it is a length, the stroke's own with both ends inside, and none where the line misses the box, where
-- both ends lie beyond one edge of it, and where the ends are equal.
use mathlib.Core.Path.{◌≡◌, refl, ◌∙◌}
use mathlib.Core.Bool.{Bool, true, false, ◌&&◌, ◌||◌, cond}
use mathlib.Core.Logic.{◌⊎◌, inl, inr}
use lib.Ieee.{Float, binary32, neg, lt, le, ne, eq, is_nan, of_bits}
use lib.Ieee.Bits.{of_bits-fits}
use lib.Ieee.Fits.{neg-fits}
use Rattle.types.specs.declared.shape.Vec2.{Vec2}
use Rattle.types.specs.declared.shape.Aabb2.{Aabb2}
use Rattle.slabs.specs.declared.Interval.{Interval}
use Rattle.slabs.specs.declared.Interval.TheVariants.{Miss, Hit}
use Rattle.float.specs.Rounded.{◌⊖◌, +0, one}
use Rattle.float.proofs.Order.{lt_not, lt_one_way}
use Rattle.float.proofs.Tests.{either, or_true}
use Rattle.edge2_measure.specs.Measure.{length_of}
use Rattle.slabs.specs.declared.Slab.{Slab}
use Rattle.slabs.specs.Clip.{largest, lowest, all_finite_of, narrowed_of, narrow_all, ordered_of, clip_over}
use Rattle.aabb.specs.Clip.{intersections_against_line_of}
use Rattle.aabb.specs.Inside.{is_include_point_of}
use Rattle.rounded.proofs.Down.{both}
use Rattle.rounded.proofs.Signed.{le_not}
use Rattle.rounded.proofs.Order.{le_numbers, le_of, level_itself, level_turned, level_sub}
use Rattle.rounded.proofs.Numbers.{sized_number, sub_number}
use Rattle.rounded.proofs.Exact.{sub_itself}
use Rattle.stroke_check.specs.Check.{same_ends_of}
use Rattle.stroke_check.proofs.Accepted.{Coordinate, Bounded, difference_size}
use Rattle.stroke_ink.specs.Ink.{clipped_of, bounded_of, length_over_of, drawn_of}
use Rattle.stroke_ink.specs.Promise.{beyond_one, beyond_an_edge}
use Rattle.stroke_ink.proofs.Ends.{Number}
use Rattle.stroke_ink.proofs.Narrowed.{Numbers, Spans, Outside, numbers_kept, outside_kept, slab_of, spans_kept, outside_made}
use Rattle.stroke_ink.proofs.Positions.{Level, level_at, length_none}
use Rattle.stroke_ink.proofs.Exact.{spans_length, outside_none}
use Rattle.stroke_ink.proofs.Length.{Length, bounded_length}

-- ---- the interval at the start

largest_held : Number largest
largest_held = record { fit = of_bits-fits binary32 0x7f7f_ffff; number = unfold is_nan of_bits in refl }

lowest_held : Number lowest
lowest_held = record { fit = neg-fits binary32 largest largest_held.fit; number = unfold is_nan neg of_bits in refl }

start_spans : Spans all_finite_of
start_spans = (
  record { held = lowest_held; not_past = unfold lt neg of_bits in refl },
  record { held = largest_held; not_past = unfold lt of_bits in refl },
)

-- ---- intervals whose ends are in order

ordered_case : (P : Interval → Type 0) (i : Interval) → P Miss → P i → P (ordered_of i)
unfolding ordered_of
ordered_case P Miss m h = h
ordered_case P (Hit t u) m h = go (le t u)
  where
    go : (v : Bool) → P (cond v (Hit t u) Miss)
    go true = h
    go false = m

spans_ordered : (i : Interval) → Spans i → Spans (ordered_of i)
unfolding ordered_of
spans_ordered Miss h = h
spans_ordered (Hit t u) h = rw (le_of t u h.0.held.number h.1.held.number apart) h
  where
    apart : lt u t ≡ false
    apart =
        lt_not u one t (unfold is_nan of_bits in refl) h.1.not_past
        (lt_not one +0 t (unfold is_nan of_bits in refl) (unfold lt of_bits in refl) h.0.not_past)

-- ---- one dimension

module _ (low high p q : Float) (P : Coordinate p) (Q : Coordinate q) where
  inside_kept : (le low p && le p high) ≡ true → (le low q && le q high) ≡ true → (i : Interval) → Spans i → Spans (narrowed_of (slab_of low high p q) i)
  inside_kept h k =
      let a = both (le low p) (le p high) h in
      let b = both (le low q) (le q high) k in
      spans_kept low high p q 65536 131072 P.size (difference_size P Q) (le_numbers low p a.0).0 (le_numbers p high a.1).1
      (le_not low p (rw a.0 tt)) (le_not p high (rw a.1 tt)) (le_not low q (rw b.0 tt)) (le_not q high (rw b.1 tt))

  beyond_made : le low high ≡ true → beyond_one low high p q ≡ true → (i : Interval) → Numbers i → Outside (narrowed_of (slab_of low high p q) i)
  beyond_made o h =
      let n = le_numbers low high o in
      let back = le_not low high (rw o tt) in
      let made = outside_made low high p q 65536 131072 P.size (difference_size P Q) n.0 n.1 in
      elim (either (lt p low && lt q low) (lt high p && lt high q) h) [
        | inl e ↦
            let a = both (lt p low) (lt q low) e in
            let lp = lt_one_way p low a.0 in
            let lq = lt_one_way q low a.1 in
            made false lp lq (lt_not high low p n.0 back lp) (lt_not high low q n.0 back lq) (rw a.0)
        | inr e ↦
            let a = both (lt high p) (lt high q) e in
            let hp = lt_one_way high p a.0 in
            let hq = lt_one_way high q a.1 in
            made true (lt_not p high low n.1 hp back) (lt_not q high low n.1 hq back) hp hq (or_true (lt p low) (lt high p) (inr a.0))
      ]

-- ---- equal ends

-- a direction of zero leaves the interval or nothing
abbrev SpansIfHit : Interval → Type 0
SpansIfHit Miss = Unit
SpansIfHit (Hit t u) = Spans (Hit t u)

still_kept : (s : Slab) → ne s.direction +0 ≡ false → (i : Interval) → SpansIfHit i → SpansIfHit (narrowed_of s i)
unfolding narrowed_of
still_kept s e Miss h = tt
still_kept s e (Hit t u) h = rw e (go (lt s.origin s.low || lt s.high s.origin))
  where
    go : (v : Bool) → SpansIfHit (cond v Miss (Hit t u))
    go true = tt
    go false = h

no_direction : {x y : Float} → Coordinate x → Coordinate y → eq x y ≡ true → ne (y ⊖ x) +0 ≡ false
unfolding ne
no_direction {x} {y} X Y h =
    let nx = sized_number 65536 x X.size in
    let ny = sized_number 65536 y Y.size in
    let same = level_sub y x x x (level_turned x y nx ny h) (level_itself x nx) (sub_number 65536 y x ny X.size) (sub_number 65536 x x nx X.size) in
    rw (rw (sub_itself 65536 x X.size) at same)

-- no length lies between equal ends
length_same : {p q : Vec2} → Bounded p q → eq p.x q.x ≡ true → eq p.y q.y ≡ true → length_of p q ≡ +0
length_same {p} {q} w h k = length_none (itself w.x0, itself w.y0) (turned w.x0 w.x1 h, turned w.y0 w.y1 k)
  where
    itself : {x : Float} → Coordinate x → Level x x
    itself {x} X = level_at X X (level_itself x (sized_number 65536 x X.size))

    turned : {x y : Float} → Coordinate x → Coordinate y → eq x y ≡ true → Level y x
    turned {x} {y} X Y h = level_at Y X (level_turned x y (sized_number 65536 x X.size) (sized_number 65536 y Y.size) h)

missed_none : (p q : Vec2) → length_over_of p q (bounded_of Miss) ≡ +0
unfolding bounded_of length_over_of
missed_none p q = refl

-- ---- the whole box

module _ {p q : Vec2} (w : Bounded p q) (b : Aabb2) where
  abbrev slab_x : Slab
  slab_x = slab_of b.min_x b.max_x p.x q.x

  abbrev slab_y : Slab
  slab_y = slab_of b.min_y b.max_y p.y q.y

  -- what the first slab leaves of every finite number, and the second of that
  abbrev after_x : Interval
  after_x = narrowed_of slab_x all_finite_of

  abbrev after_y : Interval
  after_y = narrowed_of slab_y after_x

  drawn_is : drawn_of p q b ≡ length_over_of p q (bounded_of (ordered_of after_y))
  unfolding drawn_of intersections_against_line_of clip_over narrow_all
  drawn_is = refl

  numbers_x : Numbers after_x
  numbers_x = numbers_kept slab_x all_finite_of (lowest_held, largest_held)

  pub is_length : Length (drawn_of p q b)
  is_length = rw drawn_is (bounded_length w (ordered_of after_y) (ordered_case Numbers after_y tt (numbers_kept slab_y after_x numbers_x)))

  pub whole : is_include_point_of b p ≡ true → is_include_point_of b q ≡ true → drawn_of p q b ≡ length_of p q
  unfolding is_include_point_of
  whole h k =
      let a = both _ _ h in
      let c = both _ _ k in
      drawn_is
      ∙ spans_length w (ordered_of after_y)
      (spans_ordered after_y
      (inside_kept b.min_y b.max_y p.y q.y w.y0 w.y1 a.1 c.1 after_x
      (inside_kept b.min_x b.max_x p.x q.x w.x0 w.x1 a.0 c.0 all_finite_of start_spans)))

  pub missed : clipped_of p q b ≡ Miss → drawn_of p q b ≡ +0
  unfolding drawn_of bounded_of length_over_of
  missed e = rw e

  abbrev beyond_x : Bool
  beyond_x = beyond_one b.min_x b.max_x p.x q.x

  abbrev beyond_y : Bool
  beyond_y = beyond_one b.min_y b.max_y p.y q.y

  pub outside : le b.min_x b.max_x ≡ true → le b.min_y b.max_y ≡ true → beyond_an_edge b p q ≡ true → drawn_of p q b ≡ +0
  outside ox oy h = drawn_is ∙ outside_none w (ordered_of after_y) (ordered_case Outside after_y tt (go (either beyond_x beyond_y h)))
    where
      go : (beyond_x ≡ true) ⊎ (beyond_y ≡ true) → Outside after_y
      go (inl e) =
          outside_kept slab_y after_x
          (beyond_made b.min_x b.max_x p.x q.x w.x0 w.x1 ox e all_finite_of (lowest_held, largest_held))
      go (inr e) = beyond_made b.min_y b.max_y p.y q.y w.y0 w.y1 oy e after_x numbers_x

  pub no_length : same_ends_of p q ≡ true → drawn_of p q b ≡ +0
  unfolding same_ends_of
  no_length h = drawn_is ∙ go (ordered_of after_y) (ordered_case SpansIfHit after_y tt
      (still_kept slab_y (no_direction w.y0 w.y1 e.1) after_x (still_kept slab_x (no_direction w.x0 w.x1 e.0) all_finite_of start_spans)))
    where
      e : (eq p.x q.x ≡ true) × (eq p.y q.y ≡ true)
      e = both (eq p.x q.x) (eq p.y q.y) h

      go : (i : Interval) → SpansIfHit i → length_over_of p q (bounded_of i) ≡ +0
      go Miss s = missed_none p q
      go (Hit t u) s = spans_length w (Hit t u) s ∙ length_same w e.0 e.1
