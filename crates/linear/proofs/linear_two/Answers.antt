-- `linear::linear_two` meets its contract: the three tables are added to pairs of zeros, and the sides are the two results. Assumes nothing.
use mathlib.Core.Path.{◌∙◌}
use Prim.Native.Nat.{◌+◌}
use Rattle.forms.specs.Circuit.{affine_length}
use Rattle.linear.specs.Word.{two_words}
use Rattle.linear.proofs.Shares.{TableAdded, zeros, length-zeros, side_values}
use Rattle.linear.proofs.Sides.{first, second}
use Rattle.linear.proofs.linear_two.Goals as goal

pub returns : goal.returns
returns c =
    let a = c.args in
    let t = c.of-tables.result in
    let p = c.of-tables.ensures in
    let pairs = c.join.new.pairs in
    let r = c.add_tables in
    let x = c.part in
    let y = c.part-2 in
    let z = c.part-3 in
    let l = length-zeros 121 a.m c.requires.1 in
    let tx : TableAdded two_words a.n a.m a.circuit.now pairs 0 (zeros 121 a.m) r.new.x =
    record { table = t.first.bytes.now; width = t.first.width; rows = t.first.rows; stands = p.first; before = l; after = r.auto.x ∙ l; added = r.ensures.0 }
    in
    let ty : TableAdded two_words a.n a.m a.circuit.now pairs (affine_length a.n a.m) (zeros 121 a.m) r.new.y =
    record { table = t.second.bytes.now; width = t.second.width; rows = t.second.rows; stands = p.second; before = l; after = r.auto.y ∙ l; added = r.ensures.1 }
    in
    let tz : TableAdded two_words a.n a.m a.circuit.now pairs (affine_length a.n a.m + affine_length a.n a.m) (zeros 121 a.m) r.new.z =
    record { table = t.third.bytes.now; width = t.third.width; rows = t.third.rows; stands = p.third; before = l; after = r.auto.z ∙ l; added = r.ensures.2 }
    in (
      λ f share circuit shares.
          side_values 121 a.m c.requires.1 (λ w. w.first) 0 first a.circuit.now a.n pairs a.shares.now c.join.ensures.0 share c.requires.3 shares
          r.new.x r.new.y r.new.z x.new.firsts y.new.firsts z.new.firsts tx ty tz x.ensures.0 y.ensures.0 z.ensures.0 f circuit,
      λ f share circuit shares.
          side_values 121 a.m c.requires.1 (λ w. w.second) 16 second a.circuit.now a.n pairs a.others.now c.join.ensures.1 share c.requires.4 shares
          r.new.x r.new.y r.new.z x.new.seconds y.new.seconds z.new.seconds tx ty tz x.ensures.1 y.ensures.1 z.ensures.1 f circuit,
    )
