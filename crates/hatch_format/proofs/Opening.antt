-- What a header is, by the tests that the code makes.
use mathlib.Core.Path.{◌≡◌, refl, sym, ap, ◌∙◌}
use mathlib.Core.Bool.{true, false}
use mathlib.Core.List.{List}
use Prim.Native.Nat.{ℕ, ◌<◌, ◌≤◌}
use lib.ListN.{length}
use borrow.Author.Tests.{lt-ltb, le-ltb}
use Rattle.hatch_format.specs.Bytes.{starts_with_of, half_at}
use Rattle.hatch_format.specs.Format.{layout_of, wrong_length_of, versioned_of, head_of}
use Rattle.hatch_format.specs.declared.header.Row.{Row}
use Rattle.hatch_format.specs.declared.header.Head.{Head}
use Rattle.std.specs.Prelude.{Option, Result, Err}
use Rattle.types.specs.declared.refusal.Refusal.TheVariants.{Mark}
use Rattle.types.specs.declared.refusal.RefusalAt.{RefusalAt}
use Rattle.types.specs.Refusal.{refusal_at}

module _ (mark : List ℕ) (table : List Row) (b : List ℕ) where
  pub other_mark : starts_with_of mark b ≡ false → Err (refusal_at Mark 0) ≡ head_of mark table b
  unfolding head_of
  other_mark t = rw t

  pub too_short : starts_with_of mark b ≡ true → length b < 7 → Err (wrong_length_of (length b) 7) ≡ head_of mark table b
  unfolding head_of
  too_short t h = rw (t, lt-ltb (length b) 7 h)

  -- l is the layout of the version v, and h what it makes of the length and the count
  pub by_layout : starts_with_of mark b ≡ true → 7 ≤ length b → {v n : ℕ} {l : Option Row} {h : Result Head RefusalAt} → v ≡ half_at b 3 → n ≡ half_at b 5 → l ≡ layout_of table v
      → h ≡ versioned_of l (length b) n → h ≡ head_of mark table b
  unfolding head_of
  by_layout t s {v} {n} ev en el e =
      e
      ∙ ap (λ (k : Option Row). versioned_of k (length b) n) (el ∙ ap (layout_of table) ev)
      ∙ ap (versioned_of (layout_of table (half_at b 3)) (length b)) en
      ∙ sym (rw (t, le-ltb (length b) 7 s) refl)
