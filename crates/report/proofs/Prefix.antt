-- The report on a file is that on its first bytes.
use mathlib.Core.Path.{◌≡◌, sym, ap, ◌∙◌}
use mathlib.Core.List.{List}
use Prim.Native.Nat.{ℕ}
use lib.Dec.{lit<}
use lib.ListN.{take}
use Rattle.hatch_format.proofs.Prefix.{decode_take}
use Rattle.report.specs.Report.{text_of, report_of}
use Rattle.report.specs.Prefix.{PrefixDecides}
use Rattle.report.specs.declared.TheConstants.{PREFIX}

pub prefix_decides : PrefixDecides
unfolding report_of
prefix_decides file = ap text_of (decode_take file PREFIX (lit< tt))

pub same_report : (file b : List ℕ) → take PREFIX file ≡ take PREFIX b → report_of b ≡ report_of file
same_report file b same = sym (prefix_decides b) ∙ ap report_of (sym same) ∙ prefix_decides file
