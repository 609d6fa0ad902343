-- Each entry but the closing one is the number of a pixel of the image, in which a position of the walk lies.
use Rattle.std.proofs.Common.{◌≡◌, ℕ, zero, suc, ◌+◌, ◌*◌, ◌/◌, ◌^◌, ◌<◌, ◌≤◌, Bool, true, false, List, [], ◌∷◌, ◌++◌, length, get_or, drop, pos, ltb, sym, refl, ap, ◌∙◌, subst, le_refl, div-lt_iff_lt-mul, lt_of_mul-lt-mul_right, zero-mul, length-append, arith}
use Rattle.std.proofs.Math.Seq.{get_or-append_seam}
use borrow.Author.Tests.{ltb-true, ltb-false}
use lib.ListN.{get_or-append}
use lib.Ieee.{Float, nan, inf, fin, binary32, up, down, lt, le, of_int, to_unsigned}
use lib.Ieee.Fits.{down_pos}
use Rattle.float.specs.Rounded.{+0}
use Rattle.float.proofs.Casts.{of_int_lem}
use Rattle.lists.specs.Lent.{written}
use Rattle.rounded.proofs.Step.{base, Past}
use Rattle.rounded.proofs.Down.{both, Left, on_side}
use Rattle.stroke.specs.declared.axis.Axis.{Axis}
use Rattle.stroke.specs.Walk.{at, exit, position, positions}
use Rattle.stroke.specs.Image.{on_side_of, in_sides_of, on_image, one_if_of}
use Rattle.pixels.specs.Entries.{number, keep_if, entries}
use Rattle.pixels.specs.Promise.{IsPixel}
use Rattle.pixels.specs.Post.{entered}
use Rattle.pixels.proofs.Lists.{entered_none, entered_suc, entries_length}

-- what lies on a side is below it when it is cut
cut_below : (w : ℕ) (x : Float) → Past base x → Left w 0 x → to_unsigned 64 x < w
unfolding to_unsigned
cut_below w nan p l = absurd p
cut_below w (inf s) p l = absurd p
cut_below w (fin false m e) p l =
    let q : m * up e / down e < w = (div-lt_iff_lt-mul (down_pos e)).1 (omega (arith, zero-mul (down e))) in omega arith
cut_below w (fin true m e) p l =
    let g : 0 * down e < w * down e = omega arith in lt_of_mul-lt-mul_right (down e) g

cut_on_side : (w : ℕ) → w ≤ 2 ^ 24 → (x : Float) → on_side_of (of_int binary32 (pos w)) x ≡ true → to_unsigned 64 x < w
unfolding on_side_of
cut_on_side w wide x t =
    let side = of_int binary32 (pos w) in
    let b = both (le +0 x) (lt x side) t in
    let o = on_side w x side (of_int_lem w wide) b.0 b.1 in
    cut_below w x o.0 o.1

module _ (w h : ℕ) (wide : w ≤ 2 ^ 24) (high : h ≤ 2 ^ 24) (a b : Axis) where
  pixel : (k : ℕ) → k < exit a b → on_image w h (position a b k) ≡ true → IsPixel w h a b (number w (position a b k))
  unfolding in_sides_of number
  pixel k before t =
      let on = both (on_side_of (of_int binary32 (pos w)) (at a k)) (on_side_of (of_int binary32 (pos h)) (at b k)) t in
      record {
        step = k;
        before_exit = before;
        lies = t;
        column = cut_on_side w wide (at a k) on.0;
        row = cut_on_side h high (at b k) on.1;
        entry_is = refl;
      }

  entered_pixel : (k i : ℕ) → k ≤ exit a b → i < length (entered w h a b k) → IsPixel w h a b (get_or (entered w h a b k) i 0)
  entered_pixel zero i m l = absurd (let z : ⊥ = omega (arith, ap length (entered_none w h a b)) in z)
  entered_pixel (suc k) i m l =
      subst (λ (es : List ℕ). IsPixel w h a b (get_or es i 0)) (sym (entered_suc w h a b k))
      (go (entered_pixel k i (omega arith)) (on_image w h (position a b k)) refl (ltb i (length (entered w h a b k))) refl (subst (λ (es : List ℕ). i < length es) (entered_suc w h a b k) l))
    where
      es : List ℕ
      es = entered w h a b k

      e : ℕ
      e = number w (position a b k)

      go :
          (i < length es → IsPixel w h a b (get_or es i 0)) → (t : Bool) → on_image w h (position a b k) ≡ t → (u : Bool) → ltb i (length es) ≡ u → i < length (es ++ keep_if t e []) →
          IsPixel w h a b (get_or (es ++ keep_if t e []) i 0)
      go before t on true u l =
          let less : i < length es = ltb-true i (length es) u in
          subst (IsPixel w h a b) (sym (get_or-append es (keep_if t e []) 0 i less)) (before less)
      go before true on false u l =
          let last : i ≡ length es = omega (arith, ltb-false i (length es) u, length-append es (e ∷ [])) in
          subst (IsPixel w h a b) (sym (ap (λ (j : ℕ). get_or (es ++ (e ∷ [])) j 0) last ∙ get_or-append_seam es e [] 0)) (pixel k (omega arith) on)
      go before false on false u l = absurd (let z : ⊥ = omega (arith, ltb-false i (length es) u, length-append es []) in z)

  -- in the list into which they are written
  pub inside : (c : Bool) (l : List ℕ) (i : ℕ) → i + one_if_of c < length (entries c w h a b) → IsPixel w h a b (get_or (written (entries c w h a b) l) i 0)
  unfolding written entries positions
  inside c l i less =
      let es = entered w h a b (exit a b) in
      let close = keep_if c (number w (position a b (exit a b))) [] in
      let few : i < length es = omega (arith, entries_length c w h a b) in
      let more : i < length (es ++ close) = omega arith in
      subst (IsPixel w h a b)
      (sym (get_or-append (es ++ close) (drop (length (es ++ close)) l) 0 i more ∙ get_or-append es close 0 i few))
      (entered_pixel (exit a b) i (le_refl _) few)
