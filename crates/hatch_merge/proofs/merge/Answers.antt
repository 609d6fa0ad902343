use Rattle.std.proofs.Common.{◌≡◌, ℕ, List, length, get_or, Fits, w8, refl, sym, ap, ◌∙◌, subst, arith}
use Rattle.std.specs.List.{All}
use Rattle.std.specs.Prelude.{Result, Ok, Err}
use Rattle.std.proofs.lemmas.Result.{err_from_is_err_and}
use Rattle.types.specs.declared.refusal.Refusal.{Refusal}
use Rattle.lists.specs.Lent.{leaves}
use Rattle.hatch_format.specs.Format.{hsl, rows, head_of}
use Rattle.hatch_format.specs.HatchList.{HatchList}
use Rattle.hatch_format.specs.declared.header.Head.{Head}
use Rattle.hatch_encode.specs.RoundTrip.{Below}
use Rattle.hatch_merge.specs.Merge.{in_merged, merge_of, merged_file}
use Rattle.hatch_merge.specs.Promise.{MergesRecords, EmptySecond}
use Rattle.hatch_merge.specs.Parts.{head_in_of}
use Rattle.hatch_merge.specs.declared.refusal.MergeList.{MergeList}
use Rattle.hatch_merge.specs.declared.refusal.MergeList.TheVariants.{First, Second}
use Rattle.hatch_merge.specs.declared.refusal.RefusalIn.{RefusalIn}
use Rattle.hatch_merge.proofs.Chunks.{Wide, count_parts, wide_parts}
use Rattle.hatch_merge.proofs.MergeLaws.{in_ok, in_err, listed_file, answer_is, file_is, first_refused, second_refused, merges_records, empty_second}
use Rattle.hatch_merge.proofs.merge.Goals as goal

bytes_below : (l : List ℕ) → ((i : ℕ) → Fits w8 (get_or l i 0)) → Below 256 l
bytes_below l fits k = let h = fits k in omega arith

-- what the call has found to be a hatch list
in_list : (list : MergeList) (b : List ℕ) {h : Head} → Ok h ≡ head_in_of list (head_of hsl rows b) → HatchList hsl b h.count
in_list list b {h} e = listed_file b h (in_ok list (head_of hsl rows b) e)

-- all that is promised follows from the answer and from what the list holds
module _ (a b l l' : List ℕ) (sa : (i : ℕ) → Fits w8 (get_or a i 0)) (sb : (i : ℕ) → Fits w8 (get_or b i 0)) (r : Result ℕ RefusalIn) where
  promised : r ≡ merge_of a b l → l' ≡ leaves r (merged_file a b) l
      → record { answers : r ≡ merge_of a b l; leaves : l' ≡ leaves r (merged_file a b) l; merges : MergesRecords a b r l'; empty_second : EmptySecond a b r l l' }
  promised e f = record {
    answers = e;
    leaves = f;
    merges = merges_records a b (bytes_below a sa) (bytes_below b sb) l l' r e f;
    empty_second = empty_second a b (bytes_below a sa) (bytes_below b sb) l l' r e f;
  }

-- a refusal of the first list
pub returns-in_err-head_in : goal.returns-in_err-head_in
unfolding leaves
returns-in_err-head_in c =
    let told = err_from_is_err_and c.from_residual.result c.from_residual.ensures.1 in
    let a = c.args.first.now in
    promised a c.args.second.now c.args.out.now c.args.out.now c.type_inv.first c.type_inv.second c.from_residual.result
    (told.1 ∙ ap Err told.2 ∙ first_refused a c.args.second.now c.args.out.now (in_err First (head_of hsl rows a) c.in_err-head_in.ensures)) (rw told.1 refl)

-- of the second
pub returns-in_err-head_in-2 : goal.returns-in_err-head_in-2
unfolding leaves
returns-in_err-head_in-2 c =
    let told = err_from_is_err_and c.from_residual-in_err-head_in-2.result c.from_residual-in_err-head_in-2.ensures.1 in
    let a = c.args.first.now in
    let b = c.args.second.now in
    let is = in_ok First (head_of hsl rows a) c.in_ok-head_in.ensures in
    promised a b c.args.out.now c.args.out.now c.type_inv.first c.type_inv.second c.from_residual-in_err-head_in-2.result
    (told.1 ∙ ap Err told.2 ∙ second_refused a b c.args.out.now c.in_ok-head_in.field-0 is (in_err Second (head_of hsl rows b) c.in_err-head_in-2.ensures))
    (rw told.1 refl)

-- both are hatch lists
pub records-requires : goal.records-requires
records-requires c = let list = in_list First c.args.first.now c.in_ok-head_in.ensures in omega (arith, list.whole)

pub records-requires-2 : goal.records-requires-2
records-requires-2 c = let list = in_list Second c.args.second.now c.in_ok-head_in-2.ensures in omega (arith, list.whole)

pub invariant_of-both : goal.invariant_of-both
invariant_of-both c =
    let la = in_list First c.args.first.now c.in_ok-head_in.ensures in
    let lb = in_list Second c.args.second.now c.in_ok-head_in-2.ensures in
    record {
      firsts = omega (arith, ap length c.records.ensures, count_parts c.args.first.now c.in_ok-head_in.field-0.count la, la.few);
      seconds = omega (arith, ap length c.records-2.ensures, count_parts c.args.second.now c.in_ok-head_in-2.field-0.count lb, lb.few);
      wide_firsts = subst (All Wide) (sym c.records.ensures) (wide_parts c.args.first.now c.in_ok-head_in.field-0.count la);
      wide_seconds = subst (All Wide) (sym c.records-2.ensures) (wide_parts c.args.second.now c.in_ok-head_in-2.field-0.count lb);
    }

-- a refusal of the merged list
pub returns-in_err-merge_records : goal.returns-in_err-merge_records
unfolding leaves
returns-in_err-merge_records c =
    let told = err_from_is_err_and c.from_residual-in_err-merge_records.result c.from_residual-in_err-merge_records.ensures.1 in
    let la = in_list First c.args.first.now c.in_ok-head_in.ensures in
    let lb = in_list Second c.args.second.now c.in_ok-head_in-2.ensures in
    let is = answer_is c.args.first.now c.args.second.now (bytes_below c.args.first.now c.type_inv.first) (bytes_below c.args.second.now c.type_inv.second) _ _ la lb _ _ c.records.ensures c.records-2.ensures c.args.out.now in
    promised c.args.first.now c.args.second.now c.args.out.now c.merge_records.new.out c.type_inv.first c.type_inv.second c.from_residual-in_err-merge_records.result
    (told.1 ∙ ap Err told.2 ∙ ap in_merged c.in_err-merge_records.ensures.answers ∙ is) (rw told.1 c.in_err-merge_records.ensures.leaves)

pub returns : goal.returns
unfolding leaves
returns c =
    let la = in_list First c.args.first.now c.in_ok-head_in.ensures in
    let lb = in_list Second c.args.second.now c.in_ok-head_in-2.ensures in
    let sa = bytes_below c.args.first.now c.type_inv.first in
    let sb = bytes_below c.args.second.now c.type_inv.second in
    promised c.args.first.now c.args.second.now c.args.out.now c.merge_records.new.out c.type_inv.first c.type_inv.second (Ok c.in_ok-merge_records.field-0)
    (ap in_merged c.in_ok-merge_records.ensures.answers ∙ answer_is c.args.first.now c.args.second.now sa sb _ _ la lb _ _ c.records.ensures c.records-2.ensures c.args.out.now)
    (c.in_ok-merge_records.ensures.leaves
    ∙ ap (λ (s : List ℕ). leaves {E = Refusal} (Ok c.in_ok-merge_records.field-0) s c.args.out.now)
    (file_is c.args.first.now c.args.second.now sa sb _ _ la lb _ _ c.records.ensures c.records-2.ensures))
