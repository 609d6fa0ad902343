-- The order of whole numbers below and above zero.
use mathlib.Core.Logic.{◌⊎◌, inl, inr}
use mathlib.Core.Bool.{Bool, true, false, not}
use Prim.Native.Nat.{ℕ, ◌≤◌, ◌<◌}
use native.Mathlib.Nat.{le_of_lt}
use lib.Dec.{T, leb→le, le→leb, ltb→lt, lt→ltb}
use lib.IntN.{ℤ, pos, negsuc}
use lib.Signed.{le_z, lt_z, ◌≤ℤ◌, ◌<ℤ◌, <ℤ-≤ℤ_trans, clash_ℤ, le_z_yes, lt_z_yes, lt_z_no}

pub side : (a b : ℤ) → (a <ℤ b) ⊎ (b ≤ℤ a)
side a b = go (lt_z a b) lt_z_yes lt_z_no
  where
    go : (t : Bool) → (T t → a <ℤ b) → (T (not t) → b ≤ℤ a) → (a <ℤ b) ⊎ (b ≤ℤ a)
    go true l g = inl (l tt)
    go false l g = inr (g tt)

pub ≤ℤ-trans : {a b c : ℤ} → a ≤ℤ b → b ≤ℤ c → a ≤ℤ c
≤ℤ-trans {a} {b} {c} h k = elim (side c a) [ inl l ↦ clash_ℤ (<ℤ-≤ℤ_trans l h) k | inr l ↦ l ]

pub ≤ℤ-<ℤ-trans : {a b c : ℤ} → a ≤ℤ b → b <ℤ c → a <ℤ c
≤ℤ-<ℤ-trans {a} {b} {c} h k = elim (side a c) [ inl l ↦ l | inr l ↦ clash_ℤ (<ℤ-≤ℤ_trans k l) h ]

pub <→≤ℤ : {a b : ℤ} → a <ℤ b → a ≤ℤ b
<→≤ℤ {a} {b} h = le_z_yes (go a b h.lt)
  where
    go : (a b : ℤ) → T (lt_z a b) → T (le_z a b)
    go (pos a) (pos b) t = le→leb a b (le_of_lt (ltb→lt a b t))
    go (pos a) (negsuc b) t = t
    go (negsuc a) (pos b) t = tt
    go (negsuc a) (negsuc b) t = le→leb b a (le_of_lt (ltb→lt b a t))

pub pos_le : {a b : ℕ} → a ≤ b → pos a ≤ℤ pos b
pos_le {a} {b} h = le_z_yes (le→leb a b h)

pub pos_lt : {a b : ℕ} → a < b → pos a <ℤ pos b
pos_lt {a} {b} h = lt_z_yes (lt→ltb a b h)

pub le_pos : {a b : ℕ} → pos a ≤ℤ pos b → a ≤ b
le_pos {a} {b} h = leb→le a b h.le

pub lt_pos : {a b : ℕ} → pos a <ℤ pos b → a < b
lt_pos {a} {b} h = ltb→lt a b h.lt
