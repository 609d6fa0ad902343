-- Axes that come in parts: a part decides for all unless it says yes, and then the rest decide.
use mathlib.Core.Path.{◌≡◌, refl, sym, ◌∙◌}
use mathlib.Core.Bool.{Bool, true, false, cond}
use mathlib.Core.List.{List, ◌++◌, map}
use Prim.Native.Nat.{ℕ, ◌+◌, ◌≤◌, ◌<◌}
use native.Mathlib.Numerals.{add-one}
use lib.ListN.{length, drop, get_or, drop_of_length-le}
use lib.Seq.{drop-cons}
use Rattle.std.specs.Prelude.{Result, Ok, Err}
use Rattle.types.specs.declared.refusal.Refusal.{Refusal}
use Rattle.types.specs.declared.shape.Obb3.{Obb3}
use Rattle.types.specs.declared.shape.Vec3.{Vec3}
use Rattle.vec3.specs.Values.{dot_of, cross_of}
use Rattle.axes.specs.Axes.{verdict_of}
use Rattle.axes.proofs.Decided.{is_yes_of, verdict_join}
use Rattle.obb3_corners.specs.Corners.{corners_of}
use Rattle.obb3_intersect.specs.Intersect.{units_of, crosses_of, axes_of, is_intersect_to_obb3_of}
use Rattle.obb3_intersect.specs.Promise.{IsIntersectToObb3Promise}
use Rattle.obb3_intersect.proofs.Nowhere.{nowhere}
use Rattle.obb3_intersect.proofs.Promised.{promised}

no_yes : (r : Result Bool Refusal) → (r ≡ Ok true → ⊥) → is_yes_of r ≡ false
unfolding is_yes_of
no_yes (Ok true) n = absurd (n refl)
no_yes (Ok false) n = refl
no_yes (Err refusal) n = refl

-- these axes decide as all do
pub record Decide (a b : Obb3) (axes : List Vec3) : Type 0 where
  pub same : verdict_of dot_of (corners_of a) (corners_of b) axes ≡ is_intersect_to_obb3_of a b

module _ (a b : Obb3) where
  -- what some of the axes say
  abbrev on : List Vec3 → Result Bool Refusal
  on axes = verdict_of dot_of (corners_of a) (corners_of b) axes

  module _ (part rest : List Vec3) (d : Decide a b (part ++ rest)) where
    joined : cond (is_yes_of (on part)) (on rest) (on part) ≡ is_intersect_to_obb3_of a b
    joined = sym (verdict_join dot_of (corners_of a) (corners_of b) part rest) ∙ d.same

    part_ends : (on part ≡ Ok true → ⊥) → IsIntersectToObb3Promise a b (on part)
    part_ends n = promised a b (on part) (rw (no_yes (on part) n) at joined)

    rest_decides : on part ≡ Ok true → Decide a b rest
    unfolding is_yes_of
    rest_decides y = record { same = rw y at joined }

  -- ---- the edges of the first box

  all_decide : Decide a b (units_of a ++ (units_of b ++ crosses_of (units_of a) (units_of b)))
  unfolding is_intersect_to_obb3_of axes_of
  all_decide = record { same = refl }

  pub first_ends : (on (units_of a) ≡ Ok true → ⊥) → IsIntersectToObb3Promise a b (on (units_of a))
  first_ends n = part_ends _ _ all_decide n

  -- ---- those of the second

  module _ (passed : on (units_of a) ≡ Ok true) where
    second_decide : Decide a b (units_of b ++ crosses_of (units_of a) (units_of b))
    second_decide = rest_decides _ _ all_decide passed

    pub second_ends : (on (units_of b) ≡ Ok true → ⊥) → IsIntersectToObb3Promise a b (on (units_of b))
    second_ends n = part_ends _ _ second_decide n

    pub crosses_decide : on (units_of b) ≡ Ok true → Decide a b (crosses_of (units_of a) (units_of b))
    crosses_decide y = rest_decides _ _ second_decide y

  -- ---- the cross products of the edges of the first from place i on

  module _ (us vs : List Vec3) (i : ℕ) (d : Decide a b (crosses_of (drop i us) vs)) where
    -- those of the edge at place i
    abbrev here : List Vec3
    here = map (cross_of (get_or us i nowhere)) vs

    edge_decides : i < length us → Decide a b (here ++ crosses_of (drop (i + 1) us) vs)
    unfolding crosses_of
    edge_decides h = record { same = rw add-one (rw (drop-cons us i nowhere h) at d.same) }

    pub edge_ends : i < length us → (on here ≡ Ok true → ⊥) → IsIntersectToObb3Promise a b (on here)
    edge_ends h n = part_ends _ _ (edge_decides h) n

    pub later_decide : i < length us → on here ≡ Ok true → Decide a b (crosses_of (drop (i + 1) us) vs)
    later_decide h y = rest_decides _ _ (edge_decides h) y

    pub none_left : length us ≤ i → IsIntersectToObb3Promise a b (Ok true)
    unfolding crosses_of verdict_of
    none_left h = promised a b (Ok true) (rw (drop_of_length-le us {i = i} h) at d.same)
