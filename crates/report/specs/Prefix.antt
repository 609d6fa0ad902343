-- The report on a file is decided by its first bytes: a reader need not read on. Definitions only.
use Rattle.std.specs.Prelude.{◌≡◌, List, ℕ, length, take}
use Rattle.lists.specs.Lent.{written}
use Rattle.report.specs.Report.{report_of}
use Rattle.report.specs.declared.TheConstants.{PREFIX}

-- the report on the first PREFIX bytes is the report on the whole file; proved in proofs/Prefix.antt
abbrev pub PrefixDecides : Type 0
PrefixDecides = (file : List ℕ) → report_of (take PREFIX file) ≡ report_of file

-- For each file whose first PREFIX bytes are those of the call: what the call answered and left is the report on that file. `bytes` is what the call
-- was given, l the list before it and l' the list after it.
abbrev pub ReportsOnFile : List ℕ → ℕ → List ℕ → List ℕ → Type 0
ReportsOnFile bytes answer l l' =
    (file : List ℕ) → take PREFIX file ≡ take PREFIX bytes → (answer ≡ length (report_of file)) × (l' ≡ written (take (length l) (report_of file)) l)
