-- What a read or a merge of hatch lists answers, as C sees it: status 0 with version and count or with the bytes, or a refusal's number with its
-- byte, and of a merge with its list. Definitions only.
use Rattle.std.specs.Prelude.{ℕ, Result, Ok, Err}
use Rattle.types.specs.Refusal.{number_of}
use Rattle.types.specs.declared.refusal.RefusalAt.{RefusalAt}
use Rattle.c_answers.specs.Status.{answered}
use Rattle.hatch_read.specs.declared.Read.{Read}
use Rattle.hatch_merge.specs.declared.refusal.RefusalIn.{RefusalIn}
use Rattle.hatch_merge.specs.Refusal.{number_of_list}
use Rattle.c_hatch.specs.declared.answer.ReadAnswer.{ReadAnswer}
use Rattle.c_hatch.specs.declared.answer.MergeAnswer.{MergeAnswer}

abbrev pub read_answer_of : Result Read RefusalAt → ReadAnswer
read_answer_of (Ok r) = record { status = answered; version = r.version; count = r.count; place = 0 }
read_answer_of (Err at) = record { status = number_of at.refusal; version = 0; count = 0; place = at.place }

abbrev pub merge_answer_of : Result ℕ RefusalIn → MergeAnswer
merge_answer_of (Ok n) = record { status = answered; count = n; list = 0; place = 0 }
merge_answer_of (Err told) = record { status = number_of told.at.refusal; count = 0; list = number_of_list told.list; place = told.at.place }
