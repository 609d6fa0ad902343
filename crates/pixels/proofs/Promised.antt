-- The promise at each way to return: two kinds of refusal, and the walk's answer.
use Rattle.std.proofs.Common.{◌≡◌, ℕ, ◌≤◌, Bool, true, false, List, length, get_or, sym, refl, ap, ◌∙◌, subst, leb, leb-true, arith}
use Rattle.types.specs.declared.shape.Vec2.{Vec2}
use Rattle.std.specs.Prelude.{Result, Ok, Err}
use Rattle.types.specs.declared.refusal.Refusal.TheVariants.{Room}
use Rattle.types.specs.declared.refusal.RefusalAt.{RefusalAt}
use Rattle.types.specs.Refusal.{nowhere}
use Rattle.lists.specs.Lent.{leaves}
use Rattle.lists.proofs.Lent.{no_count, same_refusal, fitted_count, fitted_short}
use Rattle.stroke.specs.Walk.{exit, positions, along_x, along_y}
use Rattle.stroke_check.specs.Check.{accept_of}
use Rattle.stroke_check.specs.Answer.{if_accepted}
use Rattle.stroke_check.proofs.Accepted.{Passed, not_short}
use Rattle.stroke.proofs.Axes.{stroke_stops}
use Rattle.stroke_bound.specs.Bound.{most_entries_of}
use Rattle.stroke_bound.proofs.Positions.{exit_bound, larger_some}
use Rattle.pixels.specs.Entries.{entries, stroke_of}
use Rattle.pixels.specs.Answer.{walk_of}
use Rattle.pixels.specs.Promise.{IsPixel, Counts, WalkPromise}
use Rattle.pixels.specs.Post.{entered, Listing}
use Rattle.pixels.proofs.Lists.{entered_few, entries_length}
use Rattle.pixels.proofs.Sides.{few_by_sides}
use Rattle.pixels.proofs.Inside.{inside}

module _ (c : Bool) (w h : ℕ) (p q : Vec2) (l : List ℕ) where
  not_accepted : {A : Type 0} (at : RefusalAt) → accept_of w h p q ≡ Err at → accept_of w h p q ≡ Ok tt → A
  not_accepted at e z = absurd (let f = sym e ∙ z in let i : ◌≡◌ {A = ℕ} 0 1 = cc in let y : ⊥ = omega arith in y)

  -- a refusal of the stroke, which is not that of a short list
  pub refused : (at : RefusalAt) → accept_of w h p q ≡ Err at → WalkPromise c w h p q l (Err at) l
  unfolding leaves walk_of if_accepted
  refused at e = record {
    answers = rw e;
    leaves = refl;
    stops = λ n z. no_count at n z;
    counts = λ z. not_accepted at e z;
    few_by_ends = λ n z. no_count at n z;
    few_by_sides = λ n z. no_count at n z;
    enough = λ t z. not_short w h p q at e (ap (λ (r : RefusalAt). r.refusal) (same_refusal at (nowhere Room) z));
    inside = λ n z. no_count at n z;
  }

  module _ (v : Passed w h p q) where
    counts : (d : Bool) → Counts d w h p q
    unfolding stroke_of entries positions
    counts d =
        let a = along_x p q in
        let b = along_y p q in
        record {
          by_ends = omega (arith, entries_length d w h a b, entered_few w h a b (exit a b), exit_bound v.stroke, larger_some v.stroke);
          by_sides = few_by_sides v.stroke w h v.wide v.high d;
        }

    -- a list with room for the lesser bound
    pub ample : (room : ℕ) → leb (most_entries_of false w h p q) room ≡ true → length (entered w h (along_x p q) (along_y p q) (exit (along_x p q) (along_y p q))) ≤ room
    unfolding stroke_of
    ample room t =
        let least = counts false in
        omega (arith, leb-true (most_entries_of false w h p q) room t, least.by_ends, least.by_sides, entries_length false w h (along_x p q) (along_y p q))

    pub walked : accept_of w h p q ≡ Ok tt → (r : Result ℕ RefusalAt) (l' : List ℕ) → Listing (stroke_of c w h p q) l r l' → WalkPromise c w h p q l r l'
    unfolding leaves walk_of if_accepted stroke_of
    walked e r l' g =
        let es = stroke_of c w h p q in
        let most = counts c in
        record {
          answers = rw e g.0;
          leaves = g.1;
          stops = λ n z. stroke_stops v.stroke;
          counts = λ z. most;
          few_by_ends = λ n z. omega (arith, most.by_ends, fitted_count (nowhere Room) es (length l) n (sym g.0 ∙ z));
          few_by_sides = λ n z. omega (arith, most.by_sides, fitted_count (nowhere Room) es (length l) n (sym g.0 ∙ z));
          enough = λ t z. omega (arith, most.by_ends, most.by_sides, fitted_short (nowhere Room) es (length l) (nowhere Room) (sym g.0 ∙ z));
          inside = λ n z i less.
              let m = fitted_count (nowhere Room) es (length l) n (sym g.0 ∙ z) in
              subst (λ (k : List ℕ). IsPixel w h (along_x p q) (along_y p q) (get_or k i 0)) (sym (g.1 ∙ ap (λ (a : Result ℕ RefusalAt). leaves a es l) z))
              (inside w h (omega (arith, v.wide)) (omega (arith, v.high)) (along_x p q) (along_y p q) c l i (omega (arith, m)));
        }
