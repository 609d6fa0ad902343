use Rattle.std.proofs.Common.{ℕ, ◌++◌, length, sym, ap, ◌∙◌}
use native.Mathlib.Nat.{zero-add}
use Rattle.std.proofs.lemmas.List.Edits.{sets}
use Rattle.lists.proofs.Fill.{sets_append}
use Rattle.hatch_encode.specs.Encode.{half_bytes}
use Rattle.hatch_write.proofs.put.put_head.Goals as goal

-- mark, version and count, each right behind the one before
pub returns : goal.returns
returns c =
    let l = c.args.out.now in
    let m = c.args.mark.now in
    let v = half_bytes c.args.version in
    let n = half_bytes c.args.count in
    rw (c.put-3.ensures, c.to_le_bytes-2.ensures, c.put-2.ensures, c.to_le_bytes.ensures, c.put.ensures)
    (sets_append v n (sets l 0 m) 3
    ∙ ap (λ (k : ℕ). sets (sets l 0 m) k (v ++ n)) (sym (zero-add (length m) ∙ c.requires.0))
    ∙ sets_append m (v ++ n) l 0)
