-- The answer by its two tests, and the list afterwards.
use mathlib.Core.Path.{◌≡◌, sym, ap, ◌∙◌}
use mathlib.Core.Bool.{false}
use mathlib.Core.List.{List, ◌++◌}
use Prim.Native.Nat.{ℕ, ◌*◌, ◌/◌, ◌%◌, ◌<◌, ◌≤◌}
use native.Mathlib.Omega.{arith}
use lib.Dec.{eqb}
use lib.ListN.{length, drop}
use lib.Ieee.{Float}
use Rattle.std.specs.Prelude.{Ok, Err, flat_map}
use Rattle.std.specs.Simd.{first_chunks}
use borrow.Author.Tests.{eq-eqb, lt-ltb, le-ltb}
use Rattle.types.specs.declared.shape.Aabb2.{Aabb2}
use Rattle.types.specs.declared.refusal.Refusal.{Refusal}
use Rattle.types.specs.declared.refusal.Refusal.TheVariants.{Room, Lines}
use Rattle.lists.specs.Lent.{fitted, written, leaves}
use Rattle.aabb_lines.specs.Results.{width, results_of}
use Rattle.aabb_lines.specs.Answer.{intersections_against_lines_of}
use Rattle.aabb_lines.proofs.Results.{length_results, all_lines}

module _ (b : Aabb2) (lines : List Float) where
  pub part_of_a_line : (room part : ℕ) → part ≡ length lines % 4 → eqb part 0 ≡ false → Err Lines ≡ intersections_against_lines_of b lines room
  unfolding intersections_against_lines_of
  part_of_a_line room part e h = simp (ap (λ (n : ℕ). eqb n 0) (sym e) ∙ h)

  -- ---- n whole lines

  module _ (whole : length lines % 4 ≡ 0) {n : ℕ} (e : n ≡ length lines / 4) where
    counted : length (results_of b lines) ≡ width * n
    counted = length_results b n lines (omega (arith, whole, e))

    pub short : (room : ℕ) → room < width * n → Err Room ≡ intersections_against_lines_of b lines room
    unfolding intersections_against_lines_of fitted
    short room h = simp (eq-eqb (length lines % 4) 0 whole, counted, lt-ltb room (width * n) h)

    pub enough : (room : ℕ) → width * n ≤ room → Ok (width * n) ≡ intersections_against_lines_of b lines room
    unfolding intersections_against_lines_of fitted
    enough room h = simp (eq-eqb (length lines % 4) 0 whole, counted, le-ltb room (width * n) h)

    -- the results of all lines, and behind them what stood there
    pub all_written : (each : List (List Float)) (l : List Float) → each ≡ first_chunks 4 (length lines / 4) lines
        → flat_map (results_of b) each ++ drop (width * n) l ≡ leaves {E = Refusal} (Ok (width * n)) (results_of b lines) l
    unfolding leaves written
    all_written each l f =
        ap (λ (r : List (List Float)). flat_map (results_of b) r ++ drop (width * n) l) f
        ∙ ap (λ (r : List Float). r ++ drop (width * n) l) (all_lines b (length lines / 4) lines (omega (arith, whole)))
        ∙ ap (λ (k : ℕ). results_of b lines ++ drop k l) (sym counted)
