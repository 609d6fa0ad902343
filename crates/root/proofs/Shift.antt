-- A number of fewer than 24 digits, shifted until it has 24, and an exponent lowered by as many: the value stays.
use mathlib.Core.Path.{◌≡◌, sym, ap, ◌∙◌}
use Prim.Native.Nat.{ℕ, suc, ◌+◌, ◌-◌, ◌*◌, ◌%◌, ◌^◌, ◌≤◌, ◌<◌}
use native.Mathlib.Nat.{lt_of_lt_of_le, le_trans, le_of_eq, mul_assoc, mul_comm, mul-le-mul_right, mul-lt-mul_of_pos_right}
use native.Mathlib.Decide.{dec_le}
use native.Mathlib.Omega.{arith}
use lib.Count.{count_leading_zeros}
use lib.Pow.{pow-add, pow_mono, pow_pos}
use Rattle.std.proofs.lemmas.Nat.{leading_top}
use Rattle.root.specs.Steps.{Scaled}

module _ (t : ℕ) (some : 0 < t) (few : t < 2 ^ 23) where
  -- the place of the leading digit
  record Leads (j : ℕ) : Type 0 where
    pub place : j ≤ 22
    pub zeros : count_leading_zeros 32 t + suc j ≡ 32
    pub low : 2 ^ j ≤ t
    pub high : t < 2 ^ suc j

  leads : (j : ℕ) × Leads j
  leads = go (leading_top 32 t some (omega (arith, few)))
    where
      go : (j : ℕ) × (count_leading_zeros 32 t + suc j ≡ 32) × (2 ^ j ≤ t) × (t < 2 ^ suc j) → (j : ℕ) × Leads j
      go (j, zeros, low, high) = (
        j,
        record {
          place = elim (dec_le 23 j) [
            | yes a ↦ let m : 2 ^ 23 ≤ 2 ^ j = pow_mono a in absurd (omega (arith, m, low, few))
            | no b ↦ omega arith
          ];
          zeros = zeros;
          low = low;
          high = high;
        },
      )

  pub shift_some : 8 ≤ count_leading_zeros 32 t
  shift_some = let l = leads in omega (arith, l.1.place, l.1.zeros)

  -- shifted, it has 24 digits, and the leading one is taken off and added again
  pub shifted : Scaled (t * 2 ^ 149) (t * 2 ^ (count_leading_zeros 32 t - 8) % 2 ^ 32 % 2 ^ 23 + 2 ^ 23) (149 - (count_leading_zeros 32 t - 8))
  shifted = go (count_leading_zeros 32 t - 8) (let l = leads in omega (arith, l.1.place, l.1.zeros)) leads.1
    where
      go : (s : ℕ) → s + leads.0 ≡ 23 → Leads leads.0 → Scaled (t * 2 ^ 149) (t * 2 ^ s % 2 ^ 32 % 2 ^ 23 + 2 ^ 23) (149 - s)
      go s e l =
          let low : 2 ^ 23 ≤ t * 2 ^ s = le_trans (le_of_eq (ap (λ k. 2 ^ k) (sym e) ∙ pow-add 2 s leads.0 ∙ mul_comm (2 ^ s) (2 ^ leads.0))) (mul-le-mul_right (2 ^ s) l.low) in
          let top : suc leads.0 + s ≡ 24 = omega (arith, e) in
          let high : t * 2 ^ s < 2 ^ 24 = lt_of_lt_of_le (mul-lt-mul_of_pos_right l.high (pow_pos s)) (le_of_eq (sym (pow-add 2 (suc leads.0) s) ∙ ap (λ k. 2 ^ k) top)) in
          let same : t * 2 ^ s % 2 ^ 32 % 2 ^ 23 + 2 ^ 23 ≡ t * 2 ^ s = omega (arith, low, high) in
          let whole : s + (149 - s) ≡ 149 = omega (arith, e) in
          rw same (record {
            value = mul_assoc t (2 ^ s) (2 ^ (149 - s)) ∙ ap (λ k. t * k) (sym (pow-add 2 s (149 - s)) ∙ ap (λ k. 2 ^ k) whole);
            low = low;
            high = high;
            least = omega (arith, e);
            most = omega arith;
          })
