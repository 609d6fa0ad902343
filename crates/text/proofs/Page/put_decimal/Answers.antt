use Rattle.std.proofs.Common.{◌∙◌, arith}
use Rattle.text.proofs.Laws.{same}
use Rattle.text.proofs.Decimal.{decimal_is}
use Rattle.text.proofs.Page.put_decimal.Goals as goal

pub returns : goal.returns
returns c = same (c.as_bytes.ensures.value ∙ c.format.ensures.text ∙ decimal_is c.args.n (omega arith)) c.put.ensures
