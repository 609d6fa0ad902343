use Rattle.std.proofs.Common.{◌≡◌, ◌+◌, ◌≤◌, ℕ, List, length, take, sym, ap, ◌∙◌, arith}
use lib.Seq.{length-take-le}
use Rattle.std.proofs.lemmas.Result.{err_from_is_err_and}
use Rattle.lists.specs.Lent.{leaves}
use Rattle.hatch_format.specs.Format.{version_one_of}
use Rattle.hatch_write.specs.Write.{size_of}
use Rattle.hatch_merge.specs.declared.both.Both.{Both}
use Rattle.hatch_merge.proofs.Assembled.{total, room, assembled}
use Rattle.hatch_merge.proofs.merge_records.Goals as goal

-- how many records are merged, by the numbers of those that are added
merged_count : (both : Both) (count : ℕ) (numbers : List ℕ) → count ≤ length both.second.now → length numbers ≡ 2000
    → length both.first.now + count ≡ length both.first.now + length (take count numbers)
merged_count both count numbers few long = ap (λ (k : ℕ). length both.first.now + k) (sym (length-take-le count numbers (omega (arith, few, long, both.seconds))))

pub returns-in_err-size-clause-answers : goal.returns-in_err-size-clause-answers
returns-in_err-size-clause-answers c =
    let told = err_from_is_err_and c.from_residual.result c.from_residual.ensures.1 in
    let e = merged_count c.args.both c.list-more.result c.list-more.new.numbers c.list-more.ensures.few c.list-more.array_long in
    rw (told.1, told.2) (c.in_err-size.ensures.answers ∙ ap (λ (n : ℕ). size_of version_one_of n (length c.args.out.now)) (e ∙ total c.args.both _ c.args.out.now c.list-more.ensures.adds))

pub returns-in_err-size-clause-leaves : goal.returns-in_err-size-clause-leaves
unfolding leaves
returns-in_err-size-clause-leaves c = rw (err_from_is_err_and c.from_residual.result c.from_residual.ensures.1).1 c.in_err-size.ensures.leaves

pub put_all-requires : goal.put_all-requires
put_all-requires c =
    let e = merged_count c.args.both c.list-more.result c.list-more.new.numbers c.list-more.ensures.few c.list-more.array_long in
    omega (arith, room c.args.both _ c.args.out.now c.list-more.ensures.adds c.in_ok-size.size _ e c.in_ok-size.ensures.answers, c.begin.auto.out)

pub put_numbered-requires-clause-room : goal.put_numbered-requires-clause-room
put_numbered-requires-clause-room c =
    let e = merged_count c.args.both c.list-more.result c.list-more.new.numbers c.list-more.ensures.few c.list-more.array_long in
    omega (arith, room c.args.both _ c.args.out.now c.list-more.ensures.adds c.in_ok-size.size _ e c.in_ok-size.ensures.answers, c.begin.auto.out, c.put_all.auto.out)

pub returns : goal.returns
returns c =
    let e = merged_count c.args.both c.list-more.result c.list-more.new.numbers c.list-more.ensures.few c.list-more.array_long in
    record {
      answers =
          c.in_ok-size.ensures.answers
          ∙ ap (λ (n : ℕ). size_of version_one_of n (length c.args.out.now)) (e ∙ total c.args.both _ c.args.out.now c.list-more.ensures.adds);
      leaves =
          assembled c.args.both _ c.args.out.now c.list-more.ensures.adds c.in_ok-size.size _ e c.in_ok-size.ensures.answers c.in_ok-size.ensures.leaves
          c.put_all.ensures c.put_numbered.ensures;
    }
