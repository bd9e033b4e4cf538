-- `marks::store_words` meets its contract. Assumes nothing.
use mathlib.Core.Path.{refl, ◌∙◌}
use native.Mathlib.Omega.{arith}
use Rattle.marks.proofs.Stored.{stored_none, stored_more, behind_more, stored_all}
use Rattle.marks.proofs.store_words.Goals as goal

pub loop-k-init : goal.loop-k-init
loop-k-init c = (refl, stored_none _ _, refl)

pub loop-k-preserved : goal.loop-k-preserved
loop-k-preserved c =
    let l = c.loop-k in
    let words = c.args.words.now in (
      c.put_word.auto.bytes ∙ l.invariant.0,
      stored_more _ _ _ l.k (omega arith) c.put_word.ensures l.invariant.1,
      behind_more words _ l.bytes _ l.k (omega arith) (omega arith) c.put_word.ensures l.invariant.2,
    )

pub returns : goal.returns
returns c = stored_all _ _ _ _ (omega arith) c.loop-k.invariant.1 c.loop-k.invariant.2
