-- Small files and what is printed of each: a line that hits and one that misses, rising and falling, the sign of a zero, a NaN, no record, and
-- refusals. Definitions only.
use Rattle.std.specs.Prelude.{◌≡◌, List, [], ◌∷◌, ◌++◌, map, ℕ, ◌/◌, ◌%◌}
use Rattle.hatch_format.specs.Format.{hsl}
use Rattle.text.specs.Ascii.{ascii}
use Rattle.report.specs.Report.{report_of}

-- the four bytes of a float, from its bits
abbrev pub float : ℕ → List ℕ
float x = x % 256 ∷ x / 256 % 256 ∷ x / 65536 % 256 ∷ x / 16777216 ∷ []

-- a header of version 1 with fewer than 256 records
abbrev pub head : ℕ → List ℕ
head n = hsl ++ (1 ∷ 0 ∷ n ∷ 0 ∷ [])

-- box 0 0 4 2
abbrev pub box : List ℕ
box = float 0 ++ float 0 ++ float 0x4080_0000 ++ float 0x4000_0000

pub record Figure : Type 0 where
  pub bytes : List ℕ
  pub printed : List ℕ

unfoldable pub examples : List Figure
examples =
    -- point 6 -1, direction -1 1; then direction 1 1
    record {
      bytes =
          head 2
          ++ (box ++ float 0x40c0_0000 ++ float 0xbf80_0000 ++ float 0xbf80_0000 ++ float 0x3f80_0000)
          ++ (box ++ float 0x40c0_0000 ++ float 0xbf80_0000 ++ float 0x3f80_0000 ++ float 0x3f80_0000);
      printed = ascii "HSL 1 2\n1 hit 40000000 40400000 r\n2 miss\n";
    }
    -- the same with both lines mirrored in y = 1: point 6 3, direction -1 -1; then direction 1 -1
    ∷ record {
      bytes =
          head 2
          ++ (box ++ float 0x40c0_0000 ++ float 0x4040_0000 ++ float 0xbf80_0000 ++ float 0xbf80_0000)
          ++ (box ++ float 0x40c0_0000 ++ float 0x4040_0000 ++ float 0x3f80_0000 ++ float 0xbf80_0000);
      printed = ascii "HSL 1 2\n1 hit 40000000 40400000 r\n2 miss\n";
    }
    -- point 0 1, direction -1 0: from -4 to -0
    ∷ record {
      bytes = head 1 ++ (box ++ float 0 ++ float 0x3f80_0000 ++ float 0xbf80_0000 ++ float 0);
      printed = ascii "HSL 1 1\n1 hit c0800000 00000000 r\n";
    }
    -- a NaN leaves the interval of all finite numbers
    ∷ record {
      bytes = head 1 ++ (box ++ float 0xffc0_0001 ++ float 0x7f80_0001 ++ float 0x7fff_ffff ++ float 0x3f80_0000);
      printed = ascii "HSL 1 1\n1 hit ff7fffff 7f7fffff n\n";
    }
    ∷ record { bytes = head 0; printed = ascii "HSL 1 0\n" }
    ∷ record { bytes = []; printed = ascii "refused 10 0\n" }
    ∷ record { bytes = head 1; printed = ascii "refused 13 7\n" }
    ∷ []

-- the report on each is what is printed; proved in proofs/Example.antt
abbrev pub ExamplesHold : Type 0
ExamplesHold = map (λ (f : Figure). report_of f.bytes) examples ≡ map (λ (f : Figure). f.printed) examples
