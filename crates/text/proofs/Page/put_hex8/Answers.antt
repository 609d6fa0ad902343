use Rattle.std.proofs.Common.{◌≡◌, ap, ◌∙◌, arith, rules}
use Rattle.hex.specs.Hex.{encode_lower}
use Rattle.text.proofs.Laws.{same}
use Rattle.text.proofs.Hex.{hex8_is}
use Rattle.text.proofs.Page.put_hex8.Goals as goal

pub returns : goal.returns
returns c =
    let e = c.encode_to_slice.ensures in
    let written : c.encode_to_slice.new.output ≡ encode_lower c.to_be_bytes.result = search (rules, e.written, e.fits.1) in
    same (written ∙ ap encode_lower c.to_be_bytes.ensures ∙ hex8_is c.args.x (omega arith)) c.put.ensures
