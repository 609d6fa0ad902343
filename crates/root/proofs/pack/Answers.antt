use Rattle.root.proofs.Packed.{root_float, root_digits}
use Rattle.root.proofs.Patterns.{not_nan_bits}
use Rattle.root.proofs.pack.Goals as goal

pub float_from_bits-result : goal.float_from_bits-result
float_from_bits-result c =
    let p = c.args.parts in
    let root = root_float p.significand p.exponent c.number.result p.most c.number.ensures.answers c.rounded_root-r.ensures.0 in
    not_nan_bits _ (rw c.base.ensures root.0)

pub returns : goal.returns
returns c =
    let p = c.args.parts in
    let r = c.rounded_root-r.ensures in
    let root = root_float p.significand p.exponent c.number.result p.most c.number.ensures.answers r.0 in
    let digits = root_digits p.significand p.exponent c.number.result p.most c.number.ensures.answers r.0 r.1 in
    rw c.base.ensures (root.1, digits)
