-- `linear::rows::add_tables` meets its contract. The invariant: the bytes of the first blocks of each row are added. Assumes nothing.
use mathlib.Core.Path.{◌≡◌}
use Prim.Native.Nat.{◌*◌}
use Rattle.std.proofs.Common.{min}
use Rattle.linear.specs.Rows.{RowsAdded}
use Rattle.linear.proofs.rows.add_tables.Given as goal

abbrev pub invariant-loop-block : goal.invariant-loop-block
invariant-loop-block g l =
    let v = g.W.Word.view in
    let done = min (l.block * g.row.B) l.tables.first.width in record {
      wide : l.width ≡ l.tables.first.width;
      first : RowsAdded v l.tables.first.bytes.now 0 l.tables.first.width l.words 0 (done * 2) l.initial.x l.x;
      second : RowsAdded v l.tables.second.bytes.now 0 l.tables.second.width l.words 0 (done * 2) l.initial.y l.y;
      third : RowsAdded v l.tables.third.bytes.now 0 l.tables.third.width l.words 0 (done * 2) l.initial.z l.z;
    }
