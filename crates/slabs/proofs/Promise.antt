-- A clip's answer means what specs/Promise.antt says: the slabs keep the last entry and the first exit.
use Rattle.std.specs.Prelude.{◌≡◌, ℕ, suc, ℤ, Bool, true, false, cond, T, ◌⊎◌, List, [], ◌∷◌, map, filter, All, Any, Contains, IsTrue, Float}
use Rattle.std.specs.Float.{nan, inf, fin, ◌<ᶠ◌, ◌≤ᶠ◌}
use Rattle.std.specs.Float.Ieee.{of_bits, neg, lt, le, eq, is_nan}
use Rattle.std.specs.Float.Ieee.Scale.{finite}
use Rattle.std.proofs.Common.{refl, sym, ap, ◌∙◌, subst, inl, inr, true≢false, arith}
use Rattle.std.proofs.lemmas.List.Elements.{All-nil, All-cons, All-head, All-contains}
use Rattle.float.specs.Rounded.{+0}
use Rattle.float.specs.Values.{min_of, max_of}
use Rattle.float.specs.Folds.{fold_min, fold_max}
use Rattle.float.proofs.Order.{lt_not}
use Rattle.rounded.proofs.Signed.{le_not}
use Rattle.rounded.proofs.Order.{le_numbers, le_of}
use Rattle.slabs.specs.declared.Slab.{Slab}
use Rattle.slabs.specs.declared.Interval.{Interval}
use Rattle.slabs.specs.declared.Interval.TheVariants.{Miss, Hit}
use Rattle.slabs.specs.Clip.{lowest, largest, entry_of, exit_of, crosses, outside, narrowed_of, narrow_all, ordered_of, clip_over, ahead_of}
use Rattle.slabs.specs.Promise.{IsBeside, IsNotBeside, entries, exits, IsHighest, IsLowest, IsPast, IsLineAnswer, IsRayAnswer, HitOrMiss, IsWithin, Narrows, AnswerLaws}
use Rattle.float.proofs.Folds.{contains_head, contains_tail, contains_cases, fold_min_first, fold_max_first, fold_min_number, fold_max_number}

-- ---- the fold over the slabs, as folds over their entries and exits

-- the entries and the exits but the first
abbrev crossed_at : (Slab → Float) → List Slab → List Float
crossed_at at ss = map at (filter crosses ss)

-- what the slabs leave of an interval
data Left (ss : List Slab) (t u : Float) : Interval → Type 0 where
  missed : Any IsBeside ss → Left ss t u Miss
  kept : (a b : Float) → All IsNotBeside ss → a ≡ fold_max t (crossed_at entry_of ss) → b ≡ fold_min u (crossed_at exit_of ss) → Left ss t u (Hit a b)

any_tail : {P : Slab → Type 0} (s : Slab) (ss : List Slab) → Any P ss → Any P (s ∷ ss)
any_tail s ss r = (suc r.0, r.1, omega (arith, r.2), r.3, r.4)

pub miss_all : (ss : List Slab) → narrow_all ss Miss ≡ Miss
unfolding narrow_all narrowed_of
miss_all [] = refl
miss_all (s ∷ ss) = miss_all ss

module _ (s : Slab) (ss : List Slab) (t u : Float) where
  along : crosses s ≡ false → outside s ≡ false → {i : Interval} → Left ss t u i → Left (s ∷ ss) t u i
  along c o (missed r) = missed (any_tail s ss r)
  along c o (kept a b r e f) = kept a b (All-cons IsNotBeside s ss (λ d. o) r) (rw c e) (rw c f)

  through : crosses s ≡ true → {i : Interval} → Left ss (max_of t (entry_of s)) (min_of u (exit_of s)) i → Left (s ∷ ss) t u i
  unfolding fold_max fold_min
  through c (missed r) = missed (any_tail s ss r)
  through c (kept a b r e f) = kept a b (All-cons IsNotBeside s ss (λ d. absurd (true≢false (sym c ∙ d))) r) (rw c e) (rw c f)

-- the law of the further slabs, as an argument
abbrev Law : List Slab → Type 0
Law ss = (t u : Float) → Left ss t u (narrow_all ss (Hit t u))

one_more : (s : Slab) (ss : List Slab) → Law ss → Law (s ∷ ss)
unfolding narrow_all narrowed_of
one_more s ss rest t u = go (crosses s) refl (outside s) refl
  where
    go : (p : Bool) → crosses s ≡ p → (q : Bool) → outside s ≡ q
        → Left (s ∷ ss) t u (narrow_all ss (cond p (Hit (max_of t (entry_of s)) (min_of u (exit_of s))) (cond q Miss (Hit t u))))
    go true c q o = through s ss t u c (rest (max_of t (entry_of s)) (min_of u (exit_of s)))
    go false c true o = subst (Left (s ∷ ss) t u) (sym (miss_all ss)) (missed (0, s, omega arith, refl, (c, o)))
    go false c false o = along s ss t u c o (rest t u)

left : (ss : List Slab) → Law ss
unfolding narrow_all fold_max fold_min
left [] t u = kept t u (All-nil IsNotBeside) refl refl
left (s ∷ ss) t u = one_more s ss (left ss) t u

-- ---- the answers

pub lowest_number : is_nan lowest ≡ false
unfolding is_nan neg of_bits
lowest_number = refl

pub largest_number : is_nan largest ≡ false
unfolding is_nan of_bits
largest_number = refl

zero_number : is_nan +0 ≡ false
unfolding is_nan of_bits
zero_number = refl

-- numbers that are not in order are in the other one
turned : (a b : Float) → is_nan a ≡ false → is_nan b ≡ false → le a b ≡ false → b <ᶠ a
turned a b g h k = go (lt b a) refl
  where
    go : (c : Bool) → lt b a ≡ c → T c
    go true l = tt
    go false l = absurd (true≢false (sym (le_of a b g h l) ∙ k))

-- between two finite numbers there are finite ones alone
finite_ends :
    (s : Bool) (m : ℕ) (e : ℤ) (t : Bool) (n : ℕ) (d : ℤ) (a b : Float) → lt a (fin s m e) ≡ false → lt (fin t n d) b ≡ false → le a b ≡ true →
    IsTrue (finite a) × IsTrue (finite b)
unfolding lt le eq
finite_ends s m e t n d nan b h k l = absurd (true≢false (sym l))
finite_ends s m e t n d (inf true) b h k l = absurd (true≢false h)
finite_ends s m e t n d (inf false) nan h k l = absurd (true≢false (sym l))
finite_ends s m e t n d (inf false) (inf true) h k l = absurd (true≢false (sym l))
finite_ends s m e t n d (inf false) (inf false) h k l = absurd (true≢false k)
finite_ends s m e t n d (inf false) (fin r o f) h k l = absurd (true≢false (sym l))
finite_ends s m e t n d (fin u c f) nan h k l = absurd (true≢false (sym l))
finite_ends s m e t n d (fin u c f) (inf true) h k l = absurd (true≢false (sym l))
finite_ends s m e t n d (fin u c f) (inf false) h k l = absurd (true≢false k)
finite_ends s m e t n d (fin u c f) (fin v o g) h k l = (refl, refl)

any_of : (P : Float → Type 0) (xs : List Float) (x : Float) → Contains xs x → P x → Any P xs
any_of P xs x h p = (h.0, x, h.1, h.2, p)

settled : (ss : List Slab) {i : Interval} → Left ss lowest largest i → IsLineAnswer ss (ordered_of i)
unfolding ordered_of neg of_bits
settled ss (missed r) = inl r
settled ss (kept a b r e f) =
    rw (e, f) (go (le m n) refl)
  where
    m : Float
    m = fold_max lowest (crossed_at entry_of ss)

    n : Float
    n = fold_min largest (crossed_at exit_of ss)

    entry : IsHighest (entries ss) m
    entry = fold_max_first (crossed_at entry_of ss) lowest lowest_number

    exit : IsLowest (exits ss) n
    exit = fold_min_first (crossed_at exit_of ss) largest largest_number

    go : (c : Bool) → le m n ≡ c → IsLineAnswer ss (cond c (Hit m n) Miss)
    go true k =
        let ends =
        finite_ends _ _ _ _ _ _ m n
        (All-head (λ x. lt m x ≡ false) lowest (crossed_at entry_of ss) entry.1)
        (All-head (λ x. lt x n ≡ false) largest (crossed_at exit_of ss) exit.1)
        k
        in record { inside = r; last_entry = entry; first_exit = exit; ordered = rw k tt; finite_entry = ends.0; finite_exit = ends.1 }
    go false k =
        let below = turned m n (fold_max_number (crossed_at entry_of ss) lowest lowest_number) (fold_min_number (crossed_at exit_of ss) largest largest_number) k in
        inr (any_of (λ x. Any (λ y. y <ᶠ x) (exits ss)) (entries ss) m entry.0 (any_of (λ y. y <ᶠ m) (exits ss) n exit.0 below))

pub line_answer : (ss : List Slab) (r : Interval) → r ≡ clip_over ss → IsLineAnswer ss r
unfolding clip_over
line_answer ss r e = rw e (settled ss (left ss lowest largest))

-- the numbers that an order speaks of
numbers : (a b : Float) → a ≤ᶠ b → (is_nan a ≡ false) × (is_nan b ≡ false)
numbers a b h = le_numbers a b (go (le a b) h)
  where
    go : (c : Bool) → T c → c ≡ true
    go true h = refl
    go false h = absurd h

pub ray_answer : (ss : List Slab) (i : Interval) → IsLineAnswer ss i → IsRayAnswer ss (ahead_of i)
unfolding ahead_of
ray_answer ss Miss p = inl p
ray_answer ss (Hit a b) t = go (le +0 b) refl
  where
    go : (c : Bool) → le +0 b ≡ c → IsRayAnswer ss (cond c (Hit a b) Miss)
    go true k = (t, rw k tt)
    go false k = inr (any_of (λ y. y <ᶠ +0) (exits ss) b t.first_exit.0 (turned +0 b zero_number (numbers a b t.ordered).1 k))

-- ---- what follows of any answers

-- a slab that the line goes along is either way, and an exit below an entry would lie below the first exit or above the last entry
pub hit_or_miss : HitOrMiss
hit_or_miss ss a b t (inl r) =
    let s = r.1 in
    true≢false (sym r.4.1 ∙ All-contains IsNotBeside ss s t.inside (r.0, r.2, r.3) r.4.0)
hit_or_miss ss a b t (inr r) =
    let x = r.1 in
    let q = r.4 in
    let y = q.1 in
    let n = numbers a b t.ordered in
    let last = All-contains (λ x. lt a x ≡ false) (entries ss) x t.last_entry.1 (r.0, r.2, r.3) in
    let first = All-contains (λ y. lt y b ≡ false) (exits ss) y t.first_exit.1 (q.0, q.2, q.3) in
    let before = lt_not y b a n.1 first (le_not a b t.ordered) in
    absurd (subst T (lt_not y a x n.0 before last) q.4)

-- ---- more slabs

-- an entry, or an exit, is that of a slab which the line crosses, and each such slab has one
its_slab : (at : Slab → Float) (ss : List Slab) (x : Float) → Contains (crossed_at at ss) x → (s : Slab) × Contains ss s × (crosses s ≡ true) × (at s ≡ x)
its_slab at [] x h = absurd (omega (arith, h.1))
its_slab at (s ∷ ss) x h = go (λ k. let r = its_slab at ss x k in (r.0, contains_tail s r.0 ss r.1, r.2, r.3)) (crosses s) refl h
  where
    go : (Contains (crossed_at at ss) x → (r : Slab) × Contains (s ∷ ss) r × (crosses r ≡ true) × (at r ≡ x))
        → (b : Bool) → crosses s ≡ b → Contains (map at (cond b (s ∷ filter crosses ss) (filter crosses ss))) x
        → (r : Slab) × Contains (s ∷ ss) r × (crosses r ≡ true) × (at r ≡ x)
    go later true c h = elim (contains_cases (at s) x (crossed_at at ss) h) [ inl e ↦ (s, contains_head s ss, c, e) | inr k ↦ later k ]
    go later false c h = later h

has_its : (at : Slab → Float) (ss : List Slab) (s : Slab) → Contains ss s → crosses s ≡ true → Contains (crossed_at at ss) (at s)
has_its at [] s h c = absurd (omega (arith, h.1))
has_its at (r ∷ ss) s h c = go (λ k. has_its at ss s k c) (contains_cases r s ss h) (crosses r) refl
  where
    go : (Contains ss s → Contains (crossed_at at ss) (at s)) → (r ≡ s) ⊎ Contains ss s → (b : Bool) → crosses r ≡ b → Contains (map at (cond b (r ∷ filter crosses ss) (filter crosses ss))) (at s)
    go later (inl e) true d = rw (← e) (contains_head (at r) (crossed_at at ss))
    go later (inl e) false d = absurd (true≢false (sym c ∙ sym (ap crosses e) ∙ d))
    go later (inr k) true d = contains_tail (at r) (at s) (crossed_at at ss) (later k)
    go later (inr k) false d = later k

module _ (ss ts : List Slab) (sub : (s : Slab) → Contains ss s → Contains ts s) where
  still : (at : Slab → Float) (start x : Float) → Contains (start ∷ crossed_at at ss) x → Contains (start ∷ crossed_at at ts) x
  still at start x h = elim (contains_cases start x (crossed_at at ss) h) [
    | inl e ↦ rw e (contains_head x (crossed_at at ts))
    | inr k ↦
        let r = its_slab at ss x k in
        rw (sym r.3) (contains_tail start (at r.0) (crossed_at at ts) (has_its at ts r.0 (sub r.0 r.1) r.2))
  ]

  still_past : IsPast ss → IsPast ts
  still_past (inl r) = let h = sub r.1 (r.0, r.2, r.3) in inl (h.0, r.1, h.1, h.2, r.4)
  still_past (inr r) =
      let x = r.1 in
      let q = r.4 in
      let y = q.1 in
      inr (any_of (λ x. Any (λ y. y <ᶠ x) (exits ts)) (entries ts) x (still entry_of lowest x (r.0, r.2, r.3))
      (any_of (λ y. y <ᶠ x) (exits ts) y (still exit_of largest y (q.0, q.2, q.3)) q.4))

  narrower : (i j : Interval) → IsLineAnswer ss i → IsLineAnswer ts j → IsWithin j i
  narrower i Miss p q = tt
  narrower Miss (Hit a b) p t = hit_or_miss ts a b t (still_past p)
  narrower (Hit c d) (Hit a b) u t =
      let n = numbers a b t.ordered in
      let m = numbers c d u.ordered in
      let low = All-contains (λ x. lt a x ≡ false) (entries ts) c t.last_entry.1 (still entry_of lowest c u.last_entry.0) in
      let high = All-contains (λ y. lt y b ≡ false) (exits ts) d t.first_exit.1 (still exit_of largest d u.first_exit.0) in
      (rw (le_of c a m.0 n.0 low) tt, rw (le_of b d n.1 m.1 high) tt)

pub narrows : Narrows
narrows ss ts sub = narrower ss ts sub

pub answer_laws : AnswerLaws
answer_laws = record { hit_or_miss = hit_or_miss; narrows = narrows }
