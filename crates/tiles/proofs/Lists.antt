-- Lists into which runs of numbers are written, one after another.
use mathlib.Core.Path.{◌≡◌, refl, sym, ap, ◌∙◌}
use mathlib.Core.List.{List, [], ◌∷◌, ◌++◌, append_assoc, append-nil}
use Prim.Native.Nat.{ℕ, zero, suc, ◌+◌, ◌-◌, ◌*◌, ◌<◌, ◌≤◌}
use native.Mathlib.Nat.{le_trans, le_of_eq, mul-le-mul_right, add-zero, add-suc, suc-add, suc-mul, zero-mul}
use native.Mathlib.Numerals.{add-one}
use native.Mathlib.Omega.{arith}
use lib.ListN.{length, drop, set, length-append, length-drop, drop_of_length-le}
use borrow.Rule.Slice.PartMut.{put_mid, mid_of, mid_len}
use Rattle.lists.proofs.Fill.{store_all, store_next, part_stored}
use Rattle.tiles.specs.Tiles.{run, rows}

-- ---- one run

pub length_run : (a k : ℕ) → length (run a k) ≡ k
length_run a zero = refl
length_run a (suc k) = ap suc (length_run (suc a) k)

-- one number more behind it
run_suc : (a k : ℕ) → run a (suc k) ≡ run a k ++ ((a + k) ∷ [])
run_suc a zero = simp add-zero
run_suc a (suc k) = ap (λ (t : List ℕ). a ∷ t) (run_suc (suc a) k ∙ simp (add-suc, suc-add))

-- in l, whose first k entries are a run, the next number is stored
pub run_more : (l : List ℕ) (a k : ℕ) → k < length l → set (run a k ++ drop k l) k (a + k) ≡ run a (k + 1) ++ drop (k + 1) l
run_more l a k h =
    store_next (run a k) l k (a + k) (length_run a k) h
    ∙ ap (λ (t : List ℕ). t ++ drop (suc k) l) (sym (run_suc a k))
    ∙ ap (λ (n : ℕ). run a n ++ drop n l) (sym (add-one k))

-- in all of l
pub run_whole : (l : List ℕ) (a k : ℕ) → k ≡ length l → run a k ++ drop k l ≡ run a (length l)
run_whole l a k e = rw (e, drop_of_length-le l {i = length l} (omega arith)) (append-nil (run a (length l)))

-- ---- rows of runs

pub length_rows : (w c k r n : ℕ) → length (rows w c k r n) ≡ n * k
length_rows w c k r zero = sym (zero-mul k)
length_rows w c k r (suc n) = let e : suc n * k ≡ n * k + k = suc-mul n k in simp (length-append, length_run, length_rows w c k (suc r) n) (omega arith)

rows_snoc : (w c k r n : ℕ) → rows w c k r (suc n) ≡ rows w c k r n ++ run ((r + n) * w + c) k
rows_snoc w c k r zero = append-nil (run (r * w + c) k) ∙ simp add-zero
rows_snoc w c k r (suc n) =
    ap (λ (t : List ℕ). run (r * w + c) k ++ t) (rows_snoc w c k (suc r) n) ∙ simp (append_assoc, suc-add, add-suc)

next_row : (l : List ℕ) (w c k r n m : ℕ) → m ≡ k → n * k + k ≤ length l
    → put_mid (n * k) m (rows w c k r n ++ drop (n * k) l) (run ((r + n) * w + c) k) ≡ rows w c k r (n + 1) ++ drop ((n + 1) * k) l
next_row l w c k r n m e h =
    let es = rows w c k r n in
    let vs = run ((r + n) * w + c) k in
    let size = length_run ((r + n) * w + c) k in
    let done = length_rows w c k r n in
    let longer : n * k + k ≡ (n + 1) * k = sym (ap (λ (x : ℕ). x * k) (add-one n) ∙ suc-mul n k) in
    part_stored (n * k) m (es ++ drop (n * k) l) vs (e ∙ sym size) (omega (arith, h, size, done, length-append es (drop (n * k) l), length-drop (n * k) l))
    ∙ store_all vs es l (n * k) done (omega (arith, h, size))
    ∙ ap (λ (x : ℕ). (es ++ vs) ++ drop x l) (ap (λ (x : ℕ). n * k + x) size ∙ longer)
    ∙ ap (λ (t : List ℕ). t ++ drop ((n + 1) * k) l) (sym (ap (rows w c k r) (add-one n) ∙ rows_snoc w c k r n))

-- l is what the list held, l' has n of the m rows in it, and t is the next row, which is written into l' behind them
pub rows_more : (l l' t : List ℕ) (w c k r n m : ℕ) → n < m → m * k ≤ length l → l' ≡ rows w c k r n ++ drop (n * k) l
    → t ≡ run ((r + n) * w + c) (length (mid_of (n * k) (n * k + k - n * k) l'))
    → put_mid (n * k) (n * k + k - n * k) l' t ≡ rows w c k r (n + 1) ++ drop ((n + 1) * k) l
rows_more l l' t w c k r n m h room before row =
    let fits : n * k + k ≤ length l = le_trans (le_of_eq (sym (suc-mul n k))) (le_trans (mul-le-mul_right k h) room) in
    let same : length l' ≡ length l =
    ap length before ∙ omega (arith, fits, length_rows w c k r n, length-append (rows w c k r n) (drop (n * k) l), length-drop (n * k) l) in
    let part : length (mid_of (n * k) (n * k + k - n * k) l') ≡ k = mid_len (n * k) (n * k + k) l' (omega (arith, fits, same)) ∙ omega arith in
    rw (row, part, before) (next_row l w c k r n (n * k + k - n * k) (omega arith) fits)
