use Rattle.std.proofs.Common.{◌≡◌, ◌≤◌, ◌-◌, length, take, drop, ap, ◌∙◌, arith}
use Rattle.std.proofs.lemmas.List.{length-drop, take_all}
use Rattle.std.specs.Prelude.{Some}
use Rattle.hatch_format.proofs.Records.{words_in}
use Rattle.hatch_format.proofs.bytes.record_words.Goals as goal

-- the record's bytes are the first 32 of those that stand from its place on
pub returns : goal.returns
returns c =
    let b = c.args.bytes.now in
    let at = c.args.at in
    let rest = c.in_ok-get.field-0.now in
    let part = c.in_ok-get.ensures.lookup.0 in
    let first = c.in_ok-record.ensures.cases in
    let enough : 32 ≤ length rest = first.enough in
    let behind : rest ≡ drop at b = part.2 ∙ take_all (length b - at) (drop at b) (omega (arith, length-drop at b)) in
    ap Some c.words.ensures ∙ words_in b _ at (omega (arith, enough, part.0, ap length behind, length-drop at b)) (first.same ∙ ap (take 32) behind)
