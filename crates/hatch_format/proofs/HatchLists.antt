-- Exactly hatch lists are accepted.
use mathlib.Core.Path.{◌≡◌, refl, sym, ap, ◌∙◌, subst}
use mathlib.Core.List.{List}
use Prim.Native.Nat.{ℕ, ◌+◌, ◌*◌, ◌≤◌}
use native.Mathlib.Omega.{arith}
use Rattle.hatch_format.specs.Bytes.{half_at}
use Rattle.hatch_format.specs.Format.{version_one_of, rows, layout_of, head_of}
use Rattle.hatch_format.specs.HatchList.{Accepts, AcceptsOnly}
use Rattle.hatch_format.specs.declared.header.Row.{Row}
use Rattle.hatch_format.specs.declared.header.Head.{Head}
use Rattle.std.specs.Prelude.{Result}
use Rattle.types.specs.declared.refusal.RefusalAt.{RefusalAt}
use Rattle.hatch_format.proofs.Table.{Each, found}
use Rattle.hatch_format.proofs.Accepted.{accepted_file, file_accepted}

module _ (mark b : List ℕ) {answer : Result Head RefusalAt} (is : answer ≡ head_of mark rows b) where
  pub accepts : Accepts mark b answer
  unfolding layout_of
  accepts n h =
      is
      ∙ file_accepted mark rows b version_one_of n
      (record { marked = h.marked; row = ap (layout_of rows) h.version; count = h.count; few = omega (arith, h.few); whole = h.whole })

  pub accepts_only : AcceptsOnly mark b answer
  unfolding Each
  accepts_only h e =
      let n = h.count in
      let f = accepted_file mark rows b h.row n (sym is ∙ e) in
      let x = found (λ (q : Row). q ≡ version_one_of) rows (half_at b 3) h.row (refl, tt) f.row in
      let limit : n ≤ 2000 = subst (λ (q : Row). n ≤ q.limit) x.0 f.few in (
        x.0,
        record {
          marked = f.marked;
          version = subst (λ (q : Row). half_at b 3 ≡ q.version) x.0 (let z : h.row.version ≡ half_at b 3 = x.1 in cc);
          count = f.count;
          few = omega (arith, limit);
          whole = f.whole ∙ ap (λ (q : Row). 7 + q.width * n) x.0;
        },
      )

  -- the clauses of a call that answers this
  pub exactly : record { answers : answer ≡ head_of mark rows b; accepts : Accepts mark b answer; accepts_only : AcceptsOnly mark b answer }
  exactly = record { answers = is; accepts = accepts; accepts_only = accepts_only }
