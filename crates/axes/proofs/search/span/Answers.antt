use Rattle.std.proofs.Common.{refl, arith}
use Rattle.std.specs.Float.Ieee.{of_bits}
use Rattle.axes.proofs.Ranges.{widened_more, tested_more, spans}
use Rattle.axes.proofs.search.span.Goals as goal

pub loop-p-init : goal.loop-p-init
unfolding of_bits
loop-p-init g c = (record { held = refl }, record { said = refl })

pub loop-p-preserved : goal.loop-p-preserved
loop-p-preserved g c =
    let inv = c.loop-p.invariant in (
      widened_more _ (omega arith) inv.0 c.dot-x.ensures c.widened-span.ensures,
      tested_more _ (omega arith) inv.1 c.dot-x.ensures c.is_nan-has_nan.ensures.value,
    )

pub returns : goal.returns
returns g c = let inv = c.loop-p.invariant in spans (omega arith) inv.0 inv.1 c.if-has_nan.false
