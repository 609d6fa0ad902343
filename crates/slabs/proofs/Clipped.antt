-- A clip's loop with the first k slabs behind it: where the interval starts and ends, and the edge of that start.
use Rattle.std.specs.Prelude.{◌≡◌, ℕ, ◌+◌, ◌*◌, ◌<◌, ◌≤◌, Bool, true, false, not, cond, List, [], ◌∷◌, ◌++◌, length, take, drop, get_or, Float}
use Rattle.std.specs.Float.Ieee.{lt, le, is_nan}
use Rattle.std.proofs.Common.{refl, sym, ap, ◌∙◌, subst, true≢false, arith}
use Rattle.std.proofs.lemmas.List.{take_more, take_all, length-take-le, drop_more}
use Rattle.std.proofs.lemmas.Grind.{common_steps}
use Rattle.float.specs.Values.{min_of, lesser_of, greater_of}
use Rattle.float.proofs.Laws.{lesser_min, greater_max, lesser_number}
use Rattle.slabs.specs.declared.Slab.{Slab}
use Rattle.slabs.specs.declared.crossing.Edge.{Edge}
use Rattle.slabs.specs.declared.crossing.Edge.TheVariants.{None}
use Rattle.slabs.specs.declared.crossing.Crossing.TheVariants as crossing
use Rattle.slabs.specs.declared.Interval.{Interval}
use Rattle.slabs.specs.declared.Interval.TheVariants.{Miss, Hit}
use Rattle.slabs.specs.Clip.{lowest, largest, all_finite_of, at_low, entry_of, exit_of, crosses, outside, narrowed_of, narrow_all, ordered_of, clip_over}
use Rattle.slabs.specs.Entry.{by_high, named, with_edge, IsEntered}
use Rattle.slabs.proofs.Promise.{largest_number, miss_all}
use Rattle.slabs.proofs.Entry.{Starts, by_high_is, none_started, still, raised, told}

-- the slabs that are left lead to what all of them do
pub record Clipped (ss : List Slab) (k : ℕ) (t u : Float) (e : Edge) : Type 0 where
  pub left : narrow_all (drop k ss) (Hit t u) ≡ narrow_all ss all_finite_of
  end : is_nan u ≡ false
  starts : Starts (take k ss) t e

pub none_clipped : (ss : List Slab) → Clipped ss 0 lowest largest None
none_clipped ss = record { left = refl; end = largest_number; starts = none_started }

low_or_high : (b : Bool) → cond {A = ℕ} b 1 2 ≡ cond (not b) 2 1
low_or_high true = refl
low_or_high false = refl

module _ (ss : List Slab) (k : ℕ) (d : Slab) (t u : Float) (e : Edge) (less : k < length ss) (c : Clipped ss k t u e) where
  abbrev s : Slab
  s = get_or ss k d

  -- what the next slab leaves, the others narrow
  next : {i : Interval} → narrowed_of s (Hit t u) ≡ i → narrow_all (drop (k + 1) ss) i ≡ narrow_all ss all_finite_of
  unfolding narrow_all
  next h =
      sym (ap (narrow_all (drop (k + 1) ss)) h) ∙ sym (ap (λ (l : List Slab). narrow_all l (Hit t u)) (drop_more ss k d less)) ∙ c.left

  crossed : (b : Bool) → crosses s ≡ true → lt t (entry_of s) ≡ b → narrowed_of s (Hit t u) ≡ Hit (cond b (entry_of s) t) (lesser_of u (exit_of s))
  unfolding narrowed_of greater_of
  crossed b h r =
      rw (← r, h, lesser_min u (exit_of s) c.end) (ap (λ (x : Float). Hit x (min_of u (exit_of s))) (sym (greater_max t (entry_of s) c.starts.start)))

  -- A slab that the line crosses: x is its entry, and v its exit.
  module _ (x v : Float) (h : crosses s ≡ true) (entry : x ≡ entry_of s) (exit : v ≡ exit_of s) where
    pub next_raised :
        {f : Edge} (low : Bool) → le (at_low s) x ≡ low → f ≡ named (2 * k + cond low 1 2) → lt t x ≡ true →
        Clipped ss (k + 1) (greater_of t x) (lesser_of u v) f
    unfolding greater_of
    next_raised low is_low side r =
        let raises : lt t (entry_of s) ≡ true = ap (lt t) (sym entry) ∙ r in
        let high : not low ≡ by_high s = ap not (sym is_low ∙ ap (le (at_low s)) entry) ∙ sym (by_high_is s) in
        let edge = side ∙ ap (λ (n : ℕ). named (2 * k + n)) (low_or_high low ∙ ap (λ (b : Bool). cond b 2 1) high) in
        rw (r, entry, exit)
        (record {
          left = next (crossed true h raises);
          end = lesser_number u (exit_of s) c.end;
          starts =
              rw (take_more ss k d less, edge)
              (subst (λ (n : ℕ). Starts (take k ss ++ s ∷ []) (entry_of s) (named (2 * n + cond (by_high s) 2 1))) (length-take-le k ss (omega (arith, less)))
              (raised (take k ss) s t e h raises c.starts));
        })

    pub next_still : lt t x ≡ false → Clipped ss (k + 1) (greater_of t x) (lesser_of u v) e
    unfolding greater_of
    next_still r =
        let rests : lt t (entry_of s) ≡ false = ap (lt t) (sym entry) ∙ r in
        rw (r, exit)
        (record {
          left = next (crossed false h rests);
          end = lesser_number u (exit_of s) c.end;
          starts = rw (take_more ss k d less) (still (take k ss) s t e (λ _. rests) c.starts);
        })

  along : (b : Bool) → crosses s ≡ false → outside s ≡ b → narrowed_of s (Hit t u) ≡ cond b Miss (Hit t u)
  unfolding narrowed_of
  along b h o = rw (h, o) refl

  pub next_along : crosses s ≡ false → outside s ≡ false → Clipped ss (k + 1) t u e
  next_along h o =
      record {
        left = next (along false h o);
        end = c.end;
        starts = rw (take_more ss k d less) (still (take k ss) s t e (λ g. absurd (true≢false (sym g ∙ h))) c.starts);
      }

  pub next_beside : crosses s ≡ false → outside s ≡ true → clip_over ss ≡ Miss
  unfolding clip_over ordered_of
  next_beside h o = ap ordered_of (sym (next (along true h o)) ∙ miss_all (drop (k + 1) ss))

-- no slab is left
module _ (ss : List Slab) (k : ℕ) (t u : Float) (e : Edge) (less : length ss ≤ k) (c : Clipped ss k t u e) where
  all_left : clip_over ss ≡ ordered_of (Hit t u)
  unfolding clip_over narrow_all
  all_left = grind (arith, common_steps, c.left)

  pub last_hit : le t u ≡ true → (crossing.Hit t u e ≡ with_edge ss (clip_over ss)) × (Hit t u ≡ clip_over ss) × IsEntered ss (crossing.Hit t u e)
  unfolding ordered_of
  last_hit h =
      let is : clip_over ss ≡ Hit t u = all_left ∙ rw h refl in
      let starts = subst (λ (l : List Slab). Starts l t e) (take_all k ss less) c.starts in
      (told ss t u e starts ∙ sym (ap (with_edge ss) is), sym is, starts.edge)

  pub last_miss : le t u ≡ false → clip_over ss ≡ Miss
  unfolding ordered_of
  last_miss h = all_left ∙ rw h refl
