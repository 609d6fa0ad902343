-- The sign of a float: it goes through rounding, turns the order, and turned twice is itself.
use mathlib.Core.Path.{◌≡◌, refl, sym, ap, ◌∙◌}
use mathlib.Core.Bool.{Bool, true, false, not, cond}
use Prim.Native.Nat.{ℕ, zero, suc, ◌+◌, ◌*◌, ◌^◌}
use native.Mathlib.Nat.{add_comm}
use lib.Dec.{ltb}
use lib.Ieee.{Float, nan, inf, fin, Format, prec, low, emax, up, down, lt, neg, round, units, odd, unlike}
use lib.Ieee.Fits.{round_is}

-- ---- through rounding

neg_odd : (d : ℕ) (s : Bool) (q k l : ℕ) → neg (odd d s q k l) ≡ odd d (not s) q k l
unfolding neg odd
neg_odd d s zero k l = refl
neg_odd d s (suc q) k l = refl

neg_units : (f : Format) (s : Bool) (q k : ℕ) → neg (units f s q k) ≡ units f (not s) q k
unfolding units
neg_units f s q k = go (ltb (q * 2 ^ k) (2 ^ (low f + suc (emax f))))
  where
    go : (b : Bool) → neg (cond b (odd (suc (prec f)) s q k (low f)) (inf s)) ≡ cond b (odd (suc (prec f)) (not s) q k (low f)) (inf (not s))
    go true = neg_odd (suc (prec f)) s q k (low f)
    go false = unfold neg in refl

pub neg_round : (f : Format) (s : Bool) (a c : ℕ) → neg (round f s a c) ≡ round f (not s) a c
neg_round f s a c = ap neg (round_is f s a c) ∙ neg_units f s _ _ ∙ sym (round_is f (not s) a c)

-- a quotient by a value above zero has the dividend's sign
pub unlike_plus : (s : Bool) → unlike s false ≡ s
unlike_plus true = refl
unlike_plus false = refl

-- ---- twice, and in the order

pub neg_neg : (x : Float) → x ≡ neg (neg x)
unfolding neg
neg_neg nan = refl
neg_neg (inf true) = refl
neg_neg (inf false) = refl
neg_neg (fin true m e) = refl
neg_neg (fin false m e) = refl

pub neg_lt : (x y : Float) → lt (neg x) (neg y) ≡ lt y x
unfolding lt neg
neg_lt nan nan = refl
neg_lt nan (inf t) = refl
neg_lt nan (fin t n d) = refl
neg_lt (inf s) nan = refl
neg_lt (inf true) (inf true) = refl
neg_lt (inf true) (inf false) = refl
neg_lt (inf false) (inf true) = refl
neg_lt (inf false) (inf false) = refl
neg_lt (inf s) (fin t n d) = refl
neg_lt (fin s m e) nan = refl
neg_lt (fin s m e) (inf true) = refl
neg_lt (fin s m e) (inf false) = refl
neg_lt (fin true m e) (fin true n d) = refl
neg_lt (fin true m e) (fin false n d) = refl
neg_lt (fin false m e) (fin true n d) = ap (ltb 0) (add_comm (m * up e * down d) (n * up d * down e))
neg_lt (fin false m e) (fin false n d) = refl
