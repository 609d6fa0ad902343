-- The results of a list of lines: how many entries they are, and that one line more adds its own behind them.
use mathlib.Core.Path.{◌≡◌, refl, sym, ap, ◌∙◌}
use mathlib.Core.List.{List, [], ◌∷◌, ◌++◌, append_assoc, append-nil}
use Prim.Native.Nat.{ℕ, zero, suc, ◌+◌, ◌*◌, ◌<◌, ◌≤◌}
use native.Mathlib.Numerals.{add-one}
use native.Mathlib.Omega.{arith}
use lib.ListN.{length, take, drop, get_or, set, length-append}
use lib.Seq.{sets, take_all}
use lib.Ieee.{Float, nan}
use Rattle.std.specs.Prelude.{flat_map}
use Rattle.std.specs.Simd.{first_chunks}
use Rattle.types.specs.declared.shape.Aabb2.{Aabb2}
use Rattle.slabs.specs.declared.crossing.Crossing.{Crossing}
use Rattle.slabs.specs.declared.crossing.Crossing.TheVariants.{Miss, Hit}
use Rattle.lists.proofs.Fill.{store_all}
use Rattle.aabb.specs.Clip.{crossing_against_line_of}
use Rattle.aabb_lines.specs.Results.{vector, encoded_of, width, results_of}

-- a list of n times four floats, from the front
by_four : (P : ℕ → List Float → Type 0) → P 0 [] → ((n : ℕ) (x y u v : Float) (l : List Float) → P n l → P (suc n) (x ∷ y ∷ u ∷ v ∷ l))
    → (n : ℕ) (l : List Float) → length l ≡ 4 * n → P n l
by_four P none more zero [] e = none
by_four P none more zero (x ∷ l) e = absurd (omega (arith, e))
by_four P none more (suc n) [] e = absurd (omega (arith, e))
by_four P none more (suc n) (x ∷ []) e = absurd (omega (arith, e))
by_four P none more (suc n) (x ∷ y ∷ []) e = absurd (omega (arith, e))
by_four P none more (suc n) (x ∷ y ∷ u ∷ []) e = absurd (omega (arith, e))
by_four P none more (suc n) (x ∷ y ∷ u ∷ v ∷ l) e = more n x y u v l (by_four P none more n l (omega (arith, e)))

length_encoded : (c : Crossing) → length (encoded_of c) ≡ width
unfolding encoded_of
length_encoded Miss = refl
length_encoded (Hit tmin tmax edge) = refl

module _ (b : Aabb2) where
  abbrev first : Float → Float → Float → Float → List Float
  first x y u v = encoded_of (crossing_against_line_of b (vector x y) (vector u v))

  -- `width` entries a line
  pub length_results : (n : ℕ) (l : List Float) → length l ≡ 4 * n → length (results_of b l) ≡ width * n
  unfolding results_of
  length_results = by_four (λ (n : ℕ) (l : List Float). length (results_of b l) ≡ width * n) refl more
    where
      more : (n : ℕ) (x y u v : Float) (l : List Float) → length (results_of b l) ≡ width * n → length (results_of b (x ∷ y ∷ u ∷ v ∷ l)) ≡ width * suc n
      more n x y u v l h =
          omega (arith, h, length-append (first x y u v) (results_of b l), length_encoded (crossing_against_line_of b (vector x y) (vector u v)))

  -- c is what the single line routine answers of the line's four floats, and r is c's entries
  pub one_line : (l : List Float) (c : Crossing) (r : List Float) → length l ≡ 4 → r ≡ encoded_of c
      → c ≡ crossing_against_line_of b (vector (get_or l 0 nan) (get_or l 1 nan)) (vector (get_or l 2 nan) (get_or l 3 nan)) → r ≡ results_of b l
  unfolding results_of
  one_line [] c r e f g = absurd (omega (arith, e))
  one_line (x ∷ []) c r e f g = absurd (omega (arith, e))
  one_line (x ∷ y ∷ []) c r e f g = absurd (omega (arith, e))
  one_line (x ∷ y ∷ u ∷ []) c r e f g = absurd (omega (arith, e))
  one_line (x ∷ y ∷ u ∷ v ∷ []) c r e f g = f ∙ ap encoded_of g ∙ sym (append-nil (first x y u v))
  one_line (x ∷ y ∷ u ∷ v ∷ w ∷ l) c r e f g = absurd (omega (arith, e))

  -- the results of the lines, one by one
  pub all_lines : (n : ℕ) (l : List Float) → length l ≡ 4 * n → flat_map (results_of b) (first_chunks 4 n l) ≡ results_of b l
  unfolding results_of
  all_lines = by_four (λ (n : ℕ) (l : List Float). flat_map (results_of b) (first_chunks 4 n l) ≡ results_of b l) refl more
    where
      more : (n : ℕ) (x y u v : Float) (l : List Float) → flat_map (results_of b) (first_chunks 4 n l) ≡ results_of b l
          → flat_map (results_of b) (first_chunks 4 (suc n) (x ∷ y ∷ u ∷ v ∷ l)) ≡ results_of b (x ∷ y ∷ u ∷ v ∷ l)
      more n x y u v l h = ap (λ (r : List Float). r ++ flat_map (results_of b) (first_chunks 4 n l)) (append-nil (first x y u v)) ∙ ap (λ (r : List Float). first x y u v ++ r) h

  -- ---- a loop over the lines

  -- l is what the list held, and l' has the results of the first n lines in it
  pub record Written (lines : List (List Float)) (n : ℕ) (l l' : List Float) : Type 0 where
    pub written : l' ≡ flat_map (results_of b) (take n lines) ++ drop (width * n) l
    pub counted : length (flat_map (results_of b) (take n lines)) ≡ width * n

  pub none_yet : (lines : List (List Float)) (l : List Float) → Written lines 0 l l
  none_yet lines l = record { written = refl; counted = refl }

  one_more : (f : List Float → List Float) (lines : List (List Float)) (n : ℕ) (d : List Float) → n < length lines
      → flat_map f (take (suc n) lines) ≡ flat_map f (take n lines) ++ f (get_or lines n d)
  one_more f [] n d h = absurd (omega arith)
  one_more f (l ∷ lines) zero d h = append-nil (f l)
  one_more f (l ∷ lines) (suc n) d h =
      ap (λ (r : List Float). f l ++ r) (one_more f lines n d (omega arith)) ∙ sym (append_assoc (f l) (flat_map f (take n lines)) (f (get_or lines n d)))

  four : (l t : List Float) (at : ℕ) → length t ≡ width
      → set (set (set (set l at (get_or t 0 nan)) (at + 1) (get_or t 1 nan)) (at + 2) (get_or t 2 nan)) (at + 3) (get_or t 3 nan) ≡ sets l at t
  four l [] at e = absurd (omega (arith, e))
  four l (x ∷ []) at e = absurd (omega (arith, e))
  four l (x ∷ y ∷ []) at e = absurd (omega (arith, e))
  four l (x ∷ y ∷ z ∷ []) at e = absurd (omega (arith, e))
  four l (x ∷ y ∷ z ∷ w ∷ []) at e =
      let second : at + 1 ≡ suc at = omega arith in
      let third : at + 2 ≡ suc (suc at) = omega arith in
      let fourth : at + 3 ≡ suc (suc (suc at)) = omega arith in
      ap (λ (k : ℕ). set (set (set (set l at x) k y) (at + 2) z) (at + 3) w) second
      ∙ ap (λ (k : ℕ). set (set (set (set l at x) (suc at) y) k z) (at + 3) w) third
      ∙ ap (λ (k : ℕ). set (set (set (set l at x) (suc at) y) (suc (suc at)) z) k w) fourth
  four l (x ∷ y ∷ z ∷ w ∷ v ∷ t) at e = absurd (omega (arith, e))

  -- one line's result stored behind them
  pub next_line : (lines : List (List Float)) (n : ℕ) (l l' t d : List Float) → n < length lines → width * length lines ≤ length l → length t ≡ width
      → t ≡ results_of b (get_or lines n d) → Written lines n l l'
      → Written lines (n + 1) l
      (set (set (set (set l' (width * n) (get_or t 0 nan)) (width * n + 1) (get_or t 1 nan)) (width * n + 2) (get_or t 2 nan)) (width * n + 3) (get_or t 3 nan))
  next_line lines n l l' t d h room size is w =
      let done = flat_map (results_of b) (take n lines) in
      let more : flat_map (results_of b) (take (n + 1) lines) ≡ done ++ t =
      ap (λ (k : ℕ). flat_map (results_of b) (take k lines)) (add-one n) ∙ one_more (results_of b) lines n d h ∙ ap (λ (r : List Float). done ++ r) (sym is) in
      let place : width * n + length t ≡ width * (n + 1) = omega (arith, size) in
      record {
        written =
            four l' t (width * n) size
            ∙ ap (λ (r : List Float). sets r (width * n) t) w.written
            ∙ store_all t done l (width * n) w.counted (omega (arith, size, room, h))
            ∙ ap (λ (k : ℕ). (done ++ t) ++ drop k l) place
            ∙ ap (λ (r : List Float). r ++ drop (width * (n + 1)) l) (sym more);
        counted = ap length more ∙ omega (arith, size, w.counted, length-append done t);
      }

  pub all_done : (lines : List (List Float)) (n : ℕ) (l l' : List Float) → n ≡ length lines → Written lines n l l'
      → l' ≡ flat_map (results_of b) lines ++ drop (width * length lines) l
  all_done lines n l l' e w =
      w.written ∙ ap (λ (r : List (List Float)). flat_map (results_of b) r ++ drop (width * n) l) (take_all n lines (omega (arith, e)))
      ∙ ap (λ (k : ℕ). flat_map (results_of b) lines ++ drop (width * k) l) e
