-- The walk to the first position in the image.
use Rattle.std.proofs.Common.{◌≡◌, ℕ, zero, suc, ◌+◌, ◌<◌, ◌≤◌, ◌⊎◌, ◌&&◌, Bool, true, false, [], ◌++◌, pos, length, sym, refl, ap, ◌∙◌, subst, inl, inr, append-nil, le_refl, zero-le, arith, true≢false}
use borrow.Author.Tests.{not-true}
use lib.Ieee.{Float, binary32, lt, le, of_int}
use denote.Floats.{passes}
use Rattle.float.specs.Rounded.{+0}
use Rattle.float.proofs.Order.{lt_not}
use Rattle.float.proofs.Tests.{neither, either}
use Rattle.rounded.proofs.Down.{both}
use Rattle.rounded.proofs.Order.{le_numbers}
use Rattle.rounded.proofs.Signed.{le_not}
use Rattle.types.specs.declared.shape.Vec2.{Vec2}
use Rattle.stroke.specs.declared.axis.Axis.{Axis}
use Rattle.stroke.specs.Image.{on_side_of, in_sides_of, on_image, one_if_of}
use Rattle.stroke.specs.Walk.{at, within, position, in_ranges_of, goes_on, most_steps, exit}
use Rattle.stroke.specs.Steps.{first, next}
use Rattle.stroke.proofs.Stops.{found_ge, goes_before}
use Rattle.stroke.proofs.Walking.{Walking, first_is, walking_none, walking_more, walking_out, walking_end}
use Rattle.pixels.specs.Entries.{number, keep_if}
use Rattle.pixels.specs.Limit.{misses_of}
use Rattle.pixels.specs.Post.{entered, inside, Entry}
use Rattle.pixels.proofs.Lists.{no_entries, entered_none, entered_suc, entered_more}

-- p is position k, and none of those before is in the image
pub record Entering (w h : ℕ) (a b : Axis) (p : Vec2) (k : ℕ) : Type 0 where
  pub walking : Walking a b p k
  pub none : length (entered w h a b k) ≡ 0

pub entering_none : (w h : ℕ) (a b : Axis) (p : Vec2) → p ≡ first a b → Entering w h a b p 0
entering_none w h a b p e = record { walking = walking_none a b p e; none = ap length (entered_none w h a b) }

module _ {w h : ℕ} {a b : Axis} {p : Vec2} {k : ℕ} (g : Entering w h a b p k) where
  pub entering_more : k < most_steps → in_ranges_of a b p ≡ true → on_image w h p ≡ false → (q : Vec2) → q ≡ next a b p → Entering w h a b q (k + 1)
  entering_more less on out q e =
      let i : k + 1 ≡ suc k = omega arith in
      record {
        walking = walking_more g.walking less on q e;
        none =
            ap (λ (i : ℕ). length (entered w h a b i)) i ∙ entered_more w h a b k
            ∙ omega (arith, g.none, ap (λ (q : Vec2). one_if_of (on_image w h q)) g.walking.position_is, ap one_if_of out);
      }

  entry_at_exit : k ≡ exit a b → entered w h a b (exit a b) ≡ []
  entry_at_exit e = no_entries (entered w h a b (exit a b)) (sym (ap (λ (i : ℕ). length (entered w h a b i)) (sym e) ∙ g.none))

  entry_if : k ≤ exit a b → (inside w h a b k ≡ false → entered w h a b (exit a b) ≡ []) → Entry w h a b (record { count = 0; steps = k; position = p })
  entry_if few left = record {
    reached = record { position_is = g.walking.position_is; count_is = sym g.none; few = few };
    none = refl;
    empty = left;
  }

  pub entry_out : in_ranges_of a b p ≡ false → Entry w h a b (record { count = 0; steps = k; position = p })
  entry_out out = let e = walking_out g.walking out in entry_if (omega (arith, e)) (λ z. entry_at_exit e)

  pub entry_end : k ≡ most_steps → Entry w h a b (record { count = 0; steps = most_steps; position = p })
  entry_end end =
      let e = walking_end g.walking end in
      subst (λ (i : ℕ). Entry w h a b (record { count = 0; steps = i; position = p })) end (entry_if (omega (arith, e)) (λ z. entry_at_exit (end ∙ e)))

  pub entry_lies : in_ranges_of a b p ≡ true → on_image w h p ≡ true → Entry w h a b (record { count = 0; steps = k; position = p })
  entry_lies on lies =
      let i : inside w h a b k ≡ true = rw (← g.walking.position_is, on, lies) in
      entry_if (subst (λ (i : ℕ). k ≤ i) (sym g.walking.exit_is) (found_ge a b _ k)) (λ z. absurd (true≢false (sym i ∙ z)))

-- ---- where the ranges tell that there is none

missed : (a : Axis) (side x : Float) → misses_of a side ≡ true → within a x ≡ true → on_side_of side x ≡ false
unfolding misses_of within on_side_of
missed a side x m w = go (le +0 x && lt x side) refl
  where
    n : (lt x a.low ≡ false) × (lt a.high x ≡ false)
    n = neither (lt x a.low) (lt a.high x) (not-true _ w)

    no : (le +0 x ≡ true) × (lt x side ≡ true) → (lt a.high +0 ≡ true) ⊎ (le side a.low ≡ true) → ⊥
    no o (inl h) = true≢false (sym h ∙ lt_not a.high x +0 (le_numbers +0 x o.0).1 n.1 (le_not +0 x (passes _ o.0)))
    no o (inr h) = true≢false (sym o.1 ∙ lt_not x a.low side (le_numbers side a.low h).1 n.0 (le_not side a.low (passes _ h)))

    go : (t : Bool) → (le +0 x && lt x side) ≡ t → t ≡ false
    go true e = absurd (no (both (le +0 x) (lt x side) e) (either (lt a.high +0) (le side a.low) m))
    go false e = refl

module _ (w h : ℕ) (a b : Axis)
    (m : (misses_of a (of_int binary32 (pos w)) ≡ true) ⊎ (misses_of b (of_int binary32 (pos h)) ≡ true)) where
  outside : (k : ℕ) → goes_on a b k ≡ true → on_image w h (position a b k) ≡ false
  unfolding in_ranges_of in_sides_of
  outside k g = go m
    where
      r : (within a (at a k) ≡ true) × (within b (at b k) ≡ true)
      r = both (within a (at a k)) (within b (at b k)) g

      last : (t : Bool) → t && false ≡ false
      last true = refl
      last false = refl

      go : (misses_of a (of_int binary32 (pos w)) ≡ true) ⊎ (misses_of b (of_int binary32 (pos h)) ≡ true) → on_image w h (position a b k) ≡ false
      go (inl n) = rw (missed a (of_int binary32 (pos w)) (at a k) n r.0) refl
      go (inr n) = rw (missed b (of_int binary32 (pos h)) (at b k) n r.1) (last _)

  none_entered : (k : ℕ) → k ≤ exit a b → entered w h a b k ≡ []
  none_entered zero l = entered_none w h a b
  none_entered (suc k) l =
      entered_suc w h a b k
      ∙ ap (λ (t : Bool). entered w h a b k ++ keep_if t (number w (position a b k)) []) (outside k (goes_before a b k l))
      ∙ append-nil (entered w h a b k) ∙ none_entered k (omega arith)

  pub entry_missed : (p : Vec2) → p ≡ first a b → Entry w h a b (record { count = 0; steps = 0; position = p })
  entry_missed p e = record {
    reached = record { position_is = first_is a b p e; count_is = sym (ap length (entered_none w h a b)); few = zero-le };
    none = refl;
    empty = λ z. none_entered (exit a b) (le_refl _);
  }
