use Rattle.std.proofs.Common.{◌≡◌, refl, sym, ◌∙◌}
use Rattle.std.proofs.lemmas.Result.{err_from_is_err_and}
use Rattle.std.specs.Prelude.{None}
use Rattle.types.specs.declared.refusal.Refusal.TheVariants.{Version}
use Rattle.types.specs.Refusal.{refusal_at}
use Rattle.hatch_format.specs.Format.{rows, versioned_of}
use Rattle.hatch_format.proofs.Marks.{starts}
use Rattle.hatch_format.proofs.Table.{Fine, fine, found}
use Rattle.hatch_format.proofs.Opening.{other_mark, too_short, by_layout}
use Rattle.hatch_format.proofs.HatchLists.{exactly}
use Rattle.hatch_format.proofs.header.head_of.Goals as goal

-- each answer is what `head_of` picks by the tests that led there
pub returns-then-not-starts_with : goal.returns-then-not-starts_with
returns-then-not-starts_with c = rw c.at.ensures (exactly _ _ (other_mark _ rows _ (sym (c.if-not-starts_with.ensures.value ∙ starts _ _))))

pub returns-then-bytes-lt-RECORDS_AT : goal.returns-then-bytes-lt-RECORDS_AT
returns-then-bytes-lt-RECORDS_AT c =
    rw c.wrong_length.ensures
    (exactly _ _ (too_short _ rows _ (sym (c.if-not-starts_with.ensures.value ∙ starts _ _)) c.if-bytes-lt-RECORDS_AT.true))

pub returns-in_err-row : goal.returns-in_err-row
unfolding versioned_of
returns-in_err-row c =
    let told = err_from_is_err_and c.from_residual.result c.from_residual.ensures.1 in
    let unknown : c.layout_of.result ≡ None = c.in_err-row.ensures.ok_part in
    let value = rw (unknown, c.at-2.ensures) at c.in_err-row.ensures.value in
    let version : c.in_err-row.field-0.0 ≡ refusal_at Version 3 = cc in
    rw (told.1, told.2, version)
    (exactly _ _
    (by_layout _ rows _ (sym (c.if-not-starts_with.ensures.value ∙ starts _ _)) c.if-bytes-lt-RECORDS_AT.false c.half-version.ensures.0 c.half-count.ensures.0
    (sym unknown ∙ c.layout_of.ensures) refl))

pub sized-requires : goal.sized-requires
sized-requires c = ((found Fine rows _ _ fine (sym c.layout_of.ensures ∙ c.in_ok-row.ensures.ok_part)).0.narrow, c.half-count.ensures.1)

pub returns : goal.returns
unfolding versioned_of
returns c =
    exactly _ _
    (by_layout _ rows _ (sym (c.if-not-starts_with.ensures.value ∙ starts _ _)) c.if-bytes-lt-RECORDS_AT.false c.half-version.ensures.0 c.half-count.ensures.0
    (sym c.in_ok-row.ensures.ok_part ∙ c.layout_of.ensures) c.sized.ensures)
