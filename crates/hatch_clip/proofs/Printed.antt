-- What is read is the front of the input, and what is printed of it is the report on the input.
use Rattle.std.proofs.Common.{◌≡◌, ℕ, ◌+◌, ◌≤◌, List, ◌++◌, Option, None, Some, IfSome, sym, ap, ◌∙◌, subst, arith, length, take, drop, append_assoc}
use Rattle.std.specs.Io.KnownBytes.{Consumes, Appends}
use lib.Seq.{take_all, take_at, take-append-le, take-append-add, length-take-le}
use borrow.Rule.Slice.PartMut.{put_mid, post_of}
use Rattle.lists.specs.Lent.{written}
use Rattle.report.specs.Report.{report_of}
use Rattle.report.specs.Prefix.{ReportsOnFile}
use Rattle.report.specs.declared.TheConstants.{PREFIX}

-- two reads, one after the other
consumes_both : (a b c : Option (List ℕ)) (s t : List ℕ) → Consumes a b s → Consumes b c t → Consumes a c (s ++ t)
consumes_both None b c s t p q = tt
consumes_both (Some x) None c s t p q = absurd p
consumes_both (Some x) (Some y) None s t p q = absurd q
consumes_both (Some x) (Some y) (Some z) s t p q = p ∙ ap (λ (l : List ℕ). s ++ l) q ∙ sym (append_assoc s t z)

-- m more bytes, read to the part of the buffer behind the n that were read before: `part` is what that part holds then
pub read_more : (a b c : Option (List ℕ)) (buffer part : List ℕ) (k n m : ℕ) → n ≤ length buffer → m ≤ length part → Consumes a b (take n buffer) → Consumes b c (take m part)
    → Consumes a c (take (n + m) (put_mid n k buffer part))
read_more a b c buffer part k n m within few p q =
    subst (Consumes a c) (sym both) (consumes_both a b c (take n buffer) (take m part) p q)
  where
    both : take (n + m) (put_mid n k buffer part) ≡ take n buffer ++ take m part
    both =
        let front : length (take n buffer) ≡ n = length-take-le n buffer within in
        ap (λ (j : ℕ). take (j + m) (put_mid n k buffer part)) (sym front)
        ∙ take-append-add (take n buffer) (part ++ post_of n k buffer) m
        ∙ ap (λ (t : List ℕ). take n buffer ++ t) (take-append-le m part (post_of n k buffer) few)

-- The first PREFIX bytes of the input are x, the report on x was put into a list, and the list's first m bytes were written.
pub printed : (input : Option (List ℕ)) (x l l' : List ℕ) (m : ℕ) → IfSome input (λ b. x ≡ take PREFIX b) → length x ≤ PREFIX → ReportsOnFile x m l l'
    → m ≤ length l → (old new : Option (List ℕ)) → Appends old new (take m l') → IfSome input (λ b. Appends old new (report_of b))
unfolding written
printed None x l l' m is few reports room old new writes = tt
printed (Some b) x l l' m is few reports room old new writes = subst (Appends old new) text writes
  where
    told : (m ≡ length (report_of b)) × (l' ≡ written (take (length l) (report_of b)) l)
    told = reports b (sym is ∙ sym (take_all PREFIX x few))

    text : take m l' ≡ report_of b
    text =
        let t = report_of b in
        let fits : take (length l) t ≡ t = take_all (length l) t (omega (arith, told.0, room)) in
        ap (take m) (told.1 ∙ ap (λ (s : List ℕ). written s l) fits) ∙ take_at t (drop (length t) l) m (sym told.0)
