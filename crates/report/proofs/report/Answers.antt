use Rattle.std.proofs.Common.{ap, ◌∙◌, arith, length, take, ◌≤◌, rules}
use Rattle.lists.specs.Lent.{written}
use Rattle.text.specs.Page.{puts}
use Rattle.report.specs.Report.{report_of}
use Rattle.report.proofs.Room.{size_is, list_is, size_below}
use Rattle.report.proofs.Prefix.{same_report}
use Rattle.report.proofs.report.Goals as goal

pub returns-clause-answers : goal.returns-clause-answers
returns-clause-answers c =
    let l = c.args.out.now in
    let short : length c.args.out.now ≤ 0xffff_ffff_ffff_ffff = omega arith in
    let text = c.put_report.ensures.text ∙ ap (λ p. puts p (report_of c.args.bytes.now)) c.new-page.ensures.text in
    c.size.ensures ∙ size_is c.args.bytes.now l _ _ short text

pub returns-clause-leaves : goal.returns-clause-leaves
returns-clause-leaves c =
    let short : length c.args.out.now ≤ 0xffff_ffff_ffff_ffff = omega arith in
    let text = c.put_report.ensures.text ∙ ap (λ p. puts p (report_of c.args.bytes.now)) c.new-page.ensures.text in
    search rules ∙ list_is c.args.bytes.now c.args.out.now c.put_report.new.page.bytes.now _ short text

pub returns-clause-fits : goal.returns-clause-fits
returns-clause-fits c =
    let short : length c.args.out.now ≤ 0xffff_ffff_ffff_ffff = omega arith in
    let text = c.put_report.ensures.text ∙ ap (λ p. puts p (report_of c.args.bytes.now)) c.new-page.ensures.text in
    omega (arith, size_below c.args.bytes.now c.args.out.now _ _ short text)

-- the report on the file is that on the bytes
pub returns-clause-means : goal.returns-clause-means
returns-clause-means c file same =
    let same = same_report file c.args.bytes.now same in
    (returns-clause-answers c ∙ ap length same, returns-clause-leaves c ∙ ap (λ t. written (take (length c.args.out.now) t) c.args.out.now) same)
