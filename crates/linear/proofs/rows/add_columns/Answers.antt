-- `linear::rows::add_columns` meets its contract. The invariant: the first k words have their row's bytes added, and the others are as they were. Assumes nothing.
use mathlib.Core.Path.{◌≡◌, sym, subst, ◌∙◌}
use Prim.Native.Nat.{ℕ, ◌+◌, ◌-◌, ◌*◌, ◌<◌}
use native.Mathlib.Omega.{arith}
use lib.ListN.{length, get_or, set, take, drop, length-drop}
use lib.Seq.{length-take-le, get_or-set_same, get_or-set_other}
use borrow.Author.Count.{below_more}
use Rattle.std.proofs.lemmas.List.{get_or_default}
use Rattle.memory.proofs.Lists.{room}
use Rattle.linear.specs.Rows.{PairsFrom, RowAdded, RowsAdded}
use Rattle.linear.proofs.Added.{row_lent}
use Rattle.linear.proofs.rows.add_columns.Goals as goal

pub loop-k-preserved : goal.loop-k-preserved
loop-k-preserved g c =
    let v = g.W.Word.view in
    let n = g.row.N in
    let l = c.loop-k in
    let a = c.args in
    let t = a.table.bytes.now in
    let w = a.table.width in
    let from = l.k * w + a.at in
    let inside : l.k < length l.out = omega arith in
    let full = a.table.full in
    let r = room l.k a.table.rows w (omega arith) in
    let long : length (take (from + n - from) (drop from t)) ≡ n =
    length-take-le (from + n - from) (drop from t) (simp length-drop (omega arith)) ∙ (let e : from + n - from ≡ n = omega arith in e)
    in
    let place : from ≡ a.at + l.k * w = omega arith in
    let x = get_or l.out l.k c.index-out-k.result in
    let old = get_or_default l.out l.k c.index-out-k.result v.zero inside ∙ l.invariant.rest l.k (omega arith) in
    record {
      rest = λ j h. get_or-set_other l.out l.k j c.add_row.result v.zero (λ e. omega arith) ∙ l.invariant.rest j (omega arith);
      added = λ s i m.
          below_more
          (λ (j : ℕ). RowAdded v t ((a.at + j * w) * 2) s i (n * 2) (get_or a.out.now j v.zero) (get_or (set l.out l.k c.add_row.result) j v.zero)) l.k
          (λ j h.
          subst (RowAdded v t ((a.at + j * w) * 2) s i (n * 2) (get_or a.out.now j v.zero))
          (sym (get_or-set_other l.out l.k j c.add_row.result v.zero (λ e. omega arith)))
          (l.invariant.added s i m j h))
          (subst (RowAdded v t ((a.at + l.k * w) * 2) s i (n * 2) (get_or a.out.now l.k v.zero))
          (sym (get_or-set_same l.out l.k c.add_row.result v.zero inside))
          (subst (λ (o : g.row.W.Denot). RowAdded v t ((a.at + l.k * w) * 2) s i (n * 2) o c.add_row.result) old
          (subst (λ (f : ℕ). RowAdded v t (f * 2) s i (n * 2) x c.add_row.result) place
          (row_lent v t from n s i x c.add_row.result
          (subst (λ (k : ℕ). RowAdded v (take (from + n - from) (drop from t)) 0 s i (k * 2) x c.add_row.result) long
          (c.add_row.ensures s i (subst (λ (k : ℕ). PairsFrom v s i k a.sums.now) (sym long) m)))))));
    }

pub returns : goal.returns
unfolding RowsAdded
returns g c = let l = c.loop-k in λ s a m k h. l.invariant.added s a m k (omega arith)
