-- The edge of specs/Entry.antt, of slabs that come one by one.
use Rattle.std.specs.Prelude.{◌≡◌, ℕ, ◌+◌, ◌*◌, Bool, true, false, not, cond, ◌||◌, List, [], ◌∷◌, ◌++◌, All, length, get_or, Float}
use Rattle.std.specs.Float.Ieee.{lt, le, eq, is_nan}
use Rattle.std.proofs.Common.{refl, sym, ap, ◌∙◌, inl, inr, true≢false, append_assoc, arith}
use Rattle.std.proofs.lemmas.List.Elements.{All-nil, All-cons, All-head, All-tail, All-append}
use Rattle.std.proofs.lemmas.Bool.{false_from_ne_true}
use Rattle.float.specs.Rounded.{+0}
use Rattle.float.specs.Values.{min_of}
use Rattle.float.proofs.Laws.{above_number}
use Rattle.float.proofs.Order.{lt_one_way, lt_itself, lt_not}
use Rattle.float.proofs.Tests.{or_true}
use Rattle.rounded.proofs.Down.{both}
use Rattle.rounded.proofs.Signed.{le_not, eq_not}
use Rattle.rounded.proofs.Order.{le_numbers, le_of, level_itself}
use Rattle.slabs.specs.declared.Slab.{Slab}
use Rattle.slabs.specs.declared.Interval.{Interval}
use Rattle.slabs.specs.declared.Interval.TheVariants as interval
use Rattle.slabs.specs.declared.crossing.Edge.{Edge}
use Rattle.slabs.specs.declared.crossing.Edge.TheVariants.{None}
use Rattle.slabs.specs.declared.crossing.Crossing.TheVariants.{Miss, Hit}
use Rattle.slabs.specs.Clip.{lowest, at_low, at_high, entry_of, crosses, ahead_of}
use Rattle.slabs.specs.Entry.{by_high, starts_at, first_at, edge_over, IsEdge, named, with_edge, interval_of, crossing_ahead_of, IsEntered}
use Rattle.slabs.proofs.Promise.{lowest_number}

-- what equals something is a number
eq_number : (x y : Float) → eq x y ≡ true → is_nan x ≡ false
unfolding le
eq_number x y h = (le_numbers x y (or_true (lt x y) (eq x y) (inr h))).0

-- ---- which of the two edges

-- the low one exactly where its quotient is at most the smaller one
either_edge : (a b : Float) → (is_nan a || lt b a) ≡ not (le a (min_of a b))
unfolding min_of
either_edge a b = go (is_nan a) refl (lt b a) refl
  where
    go : (t : Bool) → is_nan a ≡ t → (u : Bool) → lt b a ≡ u → (t || u) ≡ not (le a (cond (t || u) b a))
    go true g u h = rw (false_from_ne_true (le a b) (λ k. true≢false (sym g ∙ (le_numbers a b k).0))) refl
    go false g true h = rw (false_from_ne_true (le a b) (λ k. true≢false (sym h ∙ le_not a b (rw k tt)))) refl
    go false g false h = rw (le_of a a g g (lt_itself a)) refl

pub by_high_is : (s : Slab) → by_high s ≡ not (le (at_low s) (entry_of s))
unfolding by_high
by_high_is s = either_edge (at_low s) (at_high s)

-- ---- the edge of a start

more_slabs : (ss : List Slab) (s : Slab) (t : Float) (n : ℕ) → IsEdge ss t n → IsEdge (ss ++ s ∷ []) t n
more_slabs ss s t n (inl e) = inl e
more_slabs ss s t n (inr e) =
    let b = e.1 in
    inr (
      e.0,
      record {
        before = b.before;
        slab = b.slab;
        after = b.after ++ s ∷ [];
        stands = ap (λ (l : List Slab). l ++ s ∷ []) b.stands ∙ append_assoc b.before (b.slab ∷ b.after) (s ∷ []);
        passed = b.passed;
        starts = b.starts;
        number = b.number;
      },
    )

-- the search finds it
first_found : (k : ℕ) (before : List Slab) (s : Slab) (after : List Slab) (t : Float) → All (λ r. starts_at r t ≡ false) before → starts_at s t ≡ true
    → first_at k (before ++ s ∷ after) t ≡ k + (2 * length before + cond (by_high s) 2 1)
unfolding first_at
first_found k [] s after t p h = rw h (go (by_high s))
  where
    go : (b : Bool) → cond b (k + 2) (k + 1) ≡ k + (2 * 0 + cond b 2 1)
    go true = omega arith
    go false = omega arith
first_found k (r ∷ before) s after t p h =
    rw (All-head (λ r. starts_at r t ≡ false) r before p)
    (omega (arith, first_found (k + 2) before s after t (All-tail (λ r. starts_at r t ≡ false) r before p) h))

edge_found : (ss : List Slab) (t : Float) (n : ℕ) → IsEdge ss t n → n ≡ edge_over ss t
unfolding edge_over
edge_found ss t n (inl e) = rw (e.0, e.1) refl
edge_found ss t n (inr e) =
    let b = e.1 in
    rw (e.0, b.stands) (omega (arith, b.number, first_found 0 b.before b.slab b.after t b.passed b.starts))

-- ---- the slabs so far

-- the line comes into none of them after t, and e is the edge of that start
pub record Starts (ss : List Slab) (t : Float) (e : Edge) : Type 0 where
  pub start : is_nan t ≡ false
  not_lower : lt t lowest ≡ false
  last : All (λ s. crosses s ≡ true → lt t (entry_of s) ≡ false) ss
  pub edge : (n : ℕ) × (e ≡ named n) × IsEdge ss t n

pub none_started : Starts [] lowest None
unfolding named
none_started =
    record {
      start = lowest_number;
      not_lower = lt_itself lowest;
      last = All-nil (λ s. crosses s ≡ true → lt lowest (entry_of s) ≡ false);
      edge = (0, refl, inl (level_itself lowest lowest_number, refl));
    }

module _ (ss : List Slab) (s : Slab) (t : Float) (e : Edge) where
  -- a slab that leaves the start where it is
  pub still : (crosses s ≡ true → lt t (entry_of s) ≡ false) → Starts ss t e → Starts (ss ++ s ∷ []) t e
  still f k =
      record {
        start = k.start;
        not_lower = k.not_lower;
        last =
            let P = λ (s : Slab). crosses s ≡ true → lt t (entry_of s) ≡ false in
            All-append P ss (s ∷ []) k.last (All-cons P s [] f (All-nil P));
        edge = (k.edge.0, k.edge.1, more_slabs ss s t k.edge.0 k.edge.2);
      }

  -- a slab that raises it
  pub raised : crosses s ≡ true → lt t (entry_of s) ≡ true → Starts ss t e → Starts (ss ++ s ∷ []) (entry_of s) (named (2 * length ss + cond (by_high s) 2 1))
  unfolding starts_at
  raised c r k =
      let x = entry_of s in
      let number : is_nan x ≡ false = above_number t x r in
      let P = λ (s : Slab). crosses s ≡ true → lt x (entry_of s) ≡ false in
      let down = lt_one_way t x r in
      record {
        start = number;
        not_lower = lt_not x t lowest k.start down k.not_lower;
        last =
            All-append P ss (s ∷ [])
            (λ i d less q. lt_not x t _ k.start down (k.last i d less q))
            (All-cons P s [] (λ q. lt_itself x) (All-nil P));
        edge = (
          2 * length ss + cond (by_high s) 2 1,
          refl,
          inr (
            false_from_ne_true (eq x lowest) (λ q. true≢false (sym r ∙ lt_not t lowest x lowest_number k.not_lower (eq_not x lowest (rw q tt)).1)),
            record {
              before = ss;
              slab = s;
              after = [];
              stands = refl;
              passed =
                  λ i d less.
                  let y = entry_of (get_or ss i d) in
                  false_from_ne_true (starts_at (get_or ss i d) x)
                  (λ q.
                  let b = both (crosses (get_or ss i d)) (eq y x) q in
                  true≢false (sym r ∙ lt_not t y x (eq_number y x b.1) (k.last i d less b.0) (eq_not y x (rw b.1 tt)).0));
              starts = rw (c, level_itself x number) refl;
              number = refl;
            },
          ),
        );
      }

-- ---- the answers

-- a hit that starts so tells its edge
pub told : (ss : List Slab) (t u : Float) (e : Edge) → Starts ss t e → Hit t u e ≡ with_edge ss (interval.Hit t u)
unfolding with_edge
told ss t u e h = ap (Hit t u) (h.edge.1 ∙ ap named (edge_found ss t h.edge.0 h.edge.2))

pub told_miss : (ss : List Slab) {i : Interval} → i ≡ interval.Miss → Miss ≡ with_edge ss i
unfolding with_edge
told_miss ss h = rw h refl

pub without_edge : (ss : List Slab) (i : Interval) → interval_of (with_edge ss i) ≡ i
unfolding with_edge
without_edge ss interval.Miss = refl
without_edge ss (interval.Hit t u) = refl

-- ---- a ray's answer, from its line's

pub ahead_told : (ss : List Slab) (i : Interval) → crossing_ahead_of (with_edge ss i) ≡ with_edge ss (ahead_of i)
unfolding with_edge ahead_of crossing_ahead_of
ahead_told ss interval.Miss = refl
ahead_told ss (interval.Hit t u) = go (le +0 u)
  where
    go : (b : Bool) → cond b (Hit t u (named (edge_over ss t))) Miss ≡ with_edge ss (cond b (interval.Hit t u) interval.Miss)
    go true = refl
    go false = refl

pub ahead_entered : (ss : List Slab) (i : Interval) → IsEntered ss (with_edge ss i) → IsEntered ss (with_edge ss (ahead_of i))
unfolding with_edge ahead_of
ahead_entered ss interval.Miss e = tt
ahead_entered ss (interval.Hit t u) e = go (le +0 u)
  where
    go : (b : Bool) → IsEntered ss (with_edge ss (cond b (interval.Hit t u) interval.Miss))
    go true = e
    go false = tt
