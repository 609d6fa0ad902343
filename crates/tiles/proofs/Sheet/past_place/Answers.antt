use Rattle.std.proofs.Common.{◌≡◌, ℕ, suc, ◌≤◌, true, false, sym, ap, ◌∙◌, add-one, arith, pos}
use Rattle.std.specs.Prelude.{Float}
use Rattle.std.specs.Float.{binary32}
use Rattle.std.specs.Float.Ieee.{of_bits, of_int, fits}
use Rattle.float.specs.Rounded.{◌⊘◌}
use Rattle.tiles.specs.Answer.{bad_coordinate_of}
use Rattle.tiles.proofs.Accepted.{taken}
use Rattle.tiles.proofs.Divided.{small_quotient}
use Rattle.tiles.proofs.Cut.{Cut, cut}
use Rattle.tiles.proofs.Sheet.past_place.Goals as goal

-- the quotient's test and its cast give what proofs/Cut.antt says
quotient : (x : Float) (size : ℕ) → fits binary32 x ≡ true → bad_coordinate_of x ≡ false → 1 ≤ size → size ≤ 4096
    → Cut (x ⊘ of_int binary32 (pos size))
quotient x size f r low high = cut (x ⊘ of_int binary32 (pos size)) (small_quotient x size (taken x f r) low high)

pub returns-then-q : goal.returns-then-q
unfolding of_bits
returns-then-q c =
    let a = c.args in
    sym ((quotient a.x a.self.size c.well_formed.1.0.1 c.requires a.self.some_size a.self.size_high).minus_past c.if-q.true)

pub overflow_add-result : goal.overflow_add-result
overflow_add-result c =
    let a = c.args in
    omega (arith, c.to_usize.ensures, (quotient a.x a.self.size c.well_formed.1.0.1 c.requires a.self.some_size a.self.size_high).whole_le)

pub returns : goal.returns
unfolding of_bits
returns c =
    let n = c.to_usize in
    let a = c.args in
    add-one n.result ∙ ap suc n.ensures ∙ (quotient a.x a.self.size c.well_formed.1.0.1 c.requires a.self.some_size a.self.size_high).plus_past c.if-q.false
