-- What the tests say of a stroke's ends where none of them refuses it.
use mathlib.Core.Path.{◌≡◌, refl, sym, ap, ◌∙◌}
use mathlib.Core.Bool.{Bool, true, false, ◌&&◌, cond, true≢false}
use mathlib.Core.Logic.{◌⊎◌, inl, inr}
use mathlib.Core.List.{List, [], ◌∷◌}
use Prim.Native.Nat.{ℕ, suc, ◌*◌, ◌≤◌}
use native.Mathlib.Nat.{mul-one}
use native.Mathlib.Omega.{arith}
use borrow.Author.Tests.{ltb-false}
use lib.IntN.{pos}
use lib.Dec.{T, ltb, lit≤}
use lib.Ieee.{Float, nan, inf, fin, binary32, up, lt, le, eq, fits, of_bits}
use Rattle.types.specs.declared.shape.Vec2.{Vec2}
use Rattle.float.specs.Rounded.{◌⊖◌}
use Rattle.float.specs.Values.{abs_of}
use Rattle.float.proofs.Tests.{neither}
use Rattle.rounded.specs.Size.{Size}
use Rattle.rounded.proofs.Round.{le_num}
use Rattle.rounded.proofs.Sizes.{sub_size}
use lib.Ieee.Scale.{finite}
use Rattle.std.specs.Prelude.{Option, None, Some, Result, Ok, Err}
use denote.Floats.{passes}
use Rattle.types.specs.declared.refusal.Refusal.TheVariants.{Room, SameEnds, Size as TooLarge, Coordinate as Large, NotFinite}
use Rattle.types.specs.declared.refusal.RefusalAt.{RefusalAt}
use Rattle.types.specs.Refusal.{refusal_at, nowhere}
use Rattle.types.specs.Side.{sides_too_large_of}
use Rattle.stroke_check.specs.Check.{within_limit_of, refusal_of, offender_from, first_offender_of, coordinates, same_ends_of, unless_offender, accept_of}

-- a coordinate that is accepted: an f32 of at most 65,536 in size
pub record Coordinate (x : Float) : Type 0 where
  pub fit : T (fits binary32 x)
  pub size : Size 65536 x

-- both ends have such coordinates
pub record Bounded (p q : Vec2) : Type 0 where
  pub x0 : Coordinate p.x
  pub y0 : Coordinate p.y
  pub x1 : Coordinate q.x
  pub y1 : Coordinate q.y

-- and differ
pub record Accepted (p q : Vec2) : Type 0 where
  pub ends : Bounded p q
  pub differ : (eq p.x q.x ≡ false) ⊎ (eq p.y q.y ≡ false)

-- all four coordinates are f32
pub record AreFloats (p q : Vec2) : Type 0 where
  pub x0 : fits binary32 p.x ≡ true
  pub y0 : fits binary32 p.y ≡ true
  pub x1 : fits binary32 q.x ≡ true
  pub y1 : fits binary32 q.y ≡ true

-- The coordinates of a parameter or a field are f32, as its type says. What is known of the two coordinates of an end says more, which is
-- not used here.
pub floats_of : {A B C D E F : Type 0} {p q : Vec2} → (A × (fits binary32 p.x ≡ true)) × ((B × (fits binary32 p.y ≡ true)) × C)
    → (D × (fits binary32 q.x ≡ true)) × ((E × (fits binary32 q.y ≡ true)) × F) → AreFloats p q
floats_of of_p of_q = record { x0 = of_p.0.1; y0 = of_p.1.0.1; x1 = of_q.0.1; y1 = of_q.1.0.1 }

either : (a b : Bool) → (a && b) ≡ false → (a ≡ false) ⊎ (b ≡ false)
either true b e = inr e
either false b e = inl refl

limit_size : (x : Float) → within_limit_of x ≡ true → Size 65536 x
unfolding within_limit_of abs_of of_bits le lt eq
limit_size nan t = absurd (true≢false (sym t))
limit_size (inf s) t = absurd (true≢false (sym t))
limit_size (fin s m e) t = omega (arith, le_num m e 1 (pos 16) (passes _ t), mul-one (m * up e))

coordinate : (x : Float) → fits binary32 x ≡ true → within_limit_of x ≡ true → Coordinate x
coordinate x f t = record { fit = passes _ f; size = limit_size x t }

-- none offends: the first is within the limit, and none of the others offends
within_more : (at : ℕ) (x : Float) (xs : List Float) → offender_from at (x ∷ xs) ≡ None
    → (within_limit_of x ≡ true) × (offender_from (suc at) xs ≡ None)
unfolding offender_from
within_more at x xs = go (within_limit_of x)
  where
    go : (t : Bool) → cond t (offender_from (suc at) xs) (Some (refusal_at (refusal_of x) at)) ≡ None → (t ≡ true) × (offender_from (suc at) xs ≡ None)
    go true e = (refl, e)
    go false e = absurd (let z : ◌≡◌ {A = ℕ} 0 1 = cc in let y : ⊥ = omega arith in y)

pub bounded : {p q : Vec2} → AreFloats p q → first_offender_of (coordinates p q) ≡ None → Bounded p q
bounded {p} {q} f t =
    let x0 = within_more 0 p.x (p.y ∷ q.x ∷ q.y ∷ []) t in
    let y0 = within_more 1 p.y (q.x ∷ q.y ∷ []) x0.1 in
    let x1 = within_more 2 q.x (q.y ∷ []) y0.1 in
    let y1 = within_more 3 q.y [] x1.1 in
    record {
      x0 = coordinate p.x f.x0 x0.0;
      y0 = coordinate p.y f.y0 y0.0;
      x1 = coordinate q.x f.x1 x1.0;
      y1 = coordinate q.y f.y1 y1.0;
    }

accepted : {p q : Vec2} → Bounded p q → same_ends_of p q ≡ false → Accepted p q
unfolding same_ends_of
accepted {p} {q} w d = record { ends = w; differ = either (eq p.x q.x) (eq p.y q.y) d }

-- a stroke that is walked, over an image w by h
pub record Passed (w h : ℕ) (p q : Vec2) : Type 0 where
  pub wide : w ≤ 16384
  pub high : h ≤ 16384
  pub stroke : Accepted p q

abbrev pub yes : Result Unit RefusalAt
yes = Ok tt

not_refused : {A : Type 0} (at : RefusalAt) → ◌≡◌ {A = Result Unit RefusalAt} (Err at) yes → A
not_refused at e = absurd (let z : ◌≡◌ {A = ℕ} 0 1 = cc in let y : ⊥ = omega arith in y)

-- coordinates that are let pass have none that offends
pub none_offends : {o : Option RefusalAt} → yes ≡ unless_offender o yes → o ≡ None
unfolding unless_offender
none_offends {o = Some at} e = not_refused at (sym e)
none_offends {o = None} e = refl

pub passed : {w h : ℕ} {p q : Vec2} → AreFloats p q → accept_of w h p q ≡ yes → Passed w h p q
unfolding accept_of unless_offender sides_too_large_of
passed {w} {h} {p} {q} f = go (sides_too_large_of w h) (first_offender_of (coordinates p q)) (same_ends_of p q) refl refl refl
  where
    go :
        (t : Bool) (o : Option RefusalAt) (u : Bool) → sides_too_large_of w h ≡ t → first_offender_of (coordinates p q) ≡ o → same_ends_of p q ≡ u →
        cond t (Err (nowhere TooLarge)) (unless_offender o (cond u (Err (nowhere SameEnds)) yes)) ≡ yes → Passed w h p q
    go true o u i j k e = not_refused (nowhere TooLarge) e
    go false (Some at) u i j k e = not_refused at e
    go false None true i j k e = not_refused (nowhere SameEnds) e
    go false None false i j k e =
        let s = neither (ltb 16384 w) (ltb 16384 h) i in
        record { wide = ltb-false 16384 w s.0; high = ltb-false 16384 h s.1; stroke = accepted (bounded f j) k }

-- a coordinate is not refused as a short list is
offends_otherwise : (n : ℕ) (xs : List Float) (at : RefusalAt) → offender_from n xs ≡ Some at → at.refusal ≡ Room → ⊥
unfolding offender_from refusal_of
offends_otherwise n [] at = λ e r. let z : ◌≡◌ {A = ℕ} 0 1 = cc in omega arith
offends_otherwise n (x ∷ xs) at = go (within_limit_of x) (finite x) (offends_otherwise (suc n) xs at)
  where
    go :
        (t u : Bool) → (offender_from (suc n) xs ≡ Some at → at.refusal ≡ Room → ⊥) →
        cond t (offender_from (suc n) xs) (Some (refusal_at (cond u Large NotFinite) n)) ≡ Some at → at.refusal ≡ Room → ⊥
    go true u more e r = more e r
    go false true more e r = let z : ◌≡◌ {A = ℕ} 0 1 = cc in omega arith
    go false false more e r = let z : ◌≡◌ {A = ℕ} 0 1 = cc in omega arith

-- none of the tests refuses a short list
pub not_short : (w h : ℕ) (p q : Vec2) (at : RefusalAt) → accept_of w h p q ≡ Err at → at.refusal ≡ Room → ⊥
unfolding accept_of unless_offender
not_short w h p q at = go (sides_too_large_of w h) (first_offender_of (coordinates p q)) (same_ends_of p q) refl
  where
    go :
        (t : Bool) (o : Option RefusalAt) (u : Bool) → first_offender_of (coordinates p q) ≡ o →
        cond t (Err (nowhere TooLarge)) (unless_offender o (cond u (Err (nowhere SameEnds)) yes)) ≡ Err at → at.refusal ≡ Room → ⊥
    go true o u j e r = let z : ◌≡◌ {A = ℕ} 0 1 = cc in omega arith
    go false (Some found) u j e r = offends_otherwise 0 (coordinates p q) at (let same : found ≡ at = cc in j ∙ ap Some same) r
    go false None true j e r = let z : ◌≡◌ {A = ℕ} 0 1 = cc in omega arith
    go false None false j e r = not_refused at (sym e)

-- ---- the difference between two such coordinates

pub difference_size : {x y : Float} → Coordinate x → Coordinate y → Size 131072 (y ⊖ x)
difference_size {x} {y} a b = sub_size 65536 65536 y x b.size a.size (lit≤ tt)
