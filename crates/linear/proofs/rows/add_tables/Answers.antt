-- `linear::rows::add_tables` meets its contract. The invariant: the bytes of the first blocks of each row are added. Assumes nothing.
use mathlib.Core.Path.{◌≡◌, refl, sym, ap, subst}
use mathlib.Core.List.{List}
use Prim.Native.Nat.{ℕ, ◌+◌, ◌-◌, ◌*◌, ◌≤◌, ◌<◌}
use native.Mathlib.Nat.{zero-add}
use native.Mathlib.Omega.{arith}
use Rattle.std.proofs.Common.{min}
use Rattle.std.specs.Int.{div_ceil}
use Rattle.std.proofs.lemmas.Grind.{div_ceil_times}
use lib.ListN.{length}
use Rattle.memory.proofs.Lists.{room}
use Rattle.linear.specs.Word.{View}
use Rattle.linear.specs.Rows.{RowsAdded}
use Rattle.linear.proofs.Added.{rows_none, rows_on}
use Rattle.linear.proofs.rows.add_tables.Goals as goal

-- a block begins within the row
reached : (width B block blocks : ℕ) → 0 < B → blocks ≡ div_ceil width B → block < blocks → block * B ≤ width
reached width B block blocks some is inside =
    let e = ap (λ (k : ℕ). k * B) is in
    let ends = div_ceil_times width B some in
    let r = room block blocks B inside in
    omega arith

-- the first blocks, and one more
module _ {W : Type 0} (v : View W) (t : List ℕ) (w width B block count : ℕ) (s old mid new : List W)
    (begins : block * B ≤ width) (wide : count ≡ min B (width - block * B)) (same : length mid ≡ length old) where
  next : RowsAdded v t 0 w s 0 (min (block * B) width * 2) old mid → RowsAdded v t (block * B) w s (block * B * 2) (count * 2) mid new
      → RowsAdded v t 0 w s 0 (min ((block + 1) * B) width * 2) old new
  next done more =
      let at : min (block * B) width ≡ block * B = omega arith in
      let end : block * B + count ≡ min ((block + 1) * B) width = omega arith in
      subst (λ (k : ℕ). RowsAdded v t 0 w s 0 (k * 2) old new) end
      (rows_on v t 0 (block * B) (block * B) count w s 0 old mid new (sym (zero-add (block * B))) same
      (subst (λ (k : ℕ). RowsAdded v t 0 w s 0 (k * 2) old mid) at done)
      (subst (λ (k : ℕ). RowsAdded v t (block * B) w s k (count * 2) mid new) (sym (zero-add (block * B * 2))) more))

pub loop-block-init : goal.loop-block-init
loop-block-init g c =
    let v = g.W.Word.view in
    let t = c.args.tables.now in
    let s = c.args.words.now in
    let e : 0 ≡ min (0 * g.row.B) t.first.width * 2 = omega arith in
    record {
      wide = refl;
      first = subst (λ (k : ℕ). RowsAdded v t.first.bytes.now 0 t.first.width s 0 k c.args.x.now c.args.x.now) e (rows_none v t.first.bytes.now 0 t.first.width s 0 c.args.x.now);
      second = subst (λ (k : ℕ). RowsAdded v t.second.bytes.now 0 t.second.width s 0 k c.args.y.now c.args.y.now) e (rows_none v t.second.bytes.now 0 t.second.width s 0 c.args.y.now);
      third = subst (λ (k : ℕ). RowsAdded v t.third.bytes.now 0 t.third.width s 0 k c.args.z.now c.args.z.now) e (rows_none v t.third.bytes.now 0 t.third.width s 0 c.args.z.now);
    }

pub loop-block-preserved : goal.loop-block-preserved
loop-block-preserved g c =
    let v = g.W.Word.view in
    let B = g.row.B in
    let t = c.args.tables.now in
    let s = c.args.words.now in
    let l = c.loop-block in
    let n = c.lesser-count.result in
    let i = l.invariant in
    let pairs = c.fill.ensures in
    let h = reached t.first.width B l.block c.div_ceil-block-end.result c.requires.3 c.div_ceil-block-end.ensures c.loop-block-test.true in
    record {
      wide = refl;
      first = next v t.first.bytes.now t.first.width t.first.width B l.block n s c.args.x.now l.x c.add_rows.new.out h c.lesser-count.ensures l.auto.x i.first
          (c.add_rows.ensures s (l.block * B * 2) pairs);
      second = next v t.second.bytes.now t.second.width t.first.width B l.block n s c.args.y.now l.y c.add_rows-in-loop-block.new.out h c.lesser-count.ensures l.auto.y i.second
          (c.add_rows-in-loop-block.ensures s (l.block * B * 2) pairs);
      third = next v t.third.bytes.now t.third.width t.first.width B l.block n s c.args.z.now l.z c.add_rows-in-loop-block-2.new.out h c.lesser-count.ensures l.auto.z i.third
          (c.add_rows-in-loop-block-2.ensures s (l.block * B * 2) pairs);
    }
