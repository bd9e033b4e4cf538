-- `linear::tables::Tables::of` meets its contract: each table stands behind its constants, and all three within the circuit. Assumes nothing.
use mathlib.Core.Path.{◌≡◌, ap, ◌∙◌}
use mathlib.Core.List.{List}
use Prim.Native.Nat.{ℕ, ◌+◌, ◌*◌}
use native.Mathlib.Omega.{arith}
use lib.ListN.{length, drop}
use Rattle.std.specs.Int.{div_ceil}
use Rattle.field.specs.Packing.{packed_length}
use Rattle.forms.specs.Circuit.{affine_length}
use Rattle.forms.specs.Room.{circuit_length}
use Rattle.forms.proofs.Room.{affine_two, circuit_three}
use Rattle.linear.specs.Tables.{TableAt}
use Rattle.linear.proofs.tables.Tables.of.Goals as goal

half_up : (n k : ℕ) → k ≡ div_ceil n 2 → k ≡ packed_length n
unfolding packed_length
half_up n k e = omega arith

module _ (n m w f : ℕ) (wide : w ≡ div_ceil n 2) (front : f ≡ div_ceil m 2) where
  -- the bytes of a table and its constants
  size : f + m * w ≡ affine_length n m
  size =
      let r : m * w ≡ m * packed_length n = ap (λ (k : ℕ). m * k) (half_up n w wide) in
      let h = half_up m f front in
      let two = affine_two n m in
      omega arith

  -- the three tables end where the circuit does
  ends : (bytes : List ℕ) → length bytes ≡ circuit_length n m → f + m * w + (f + m * w) + (f + m * w) ≡ length bytes
  ends bytes sized = let s = size in let t = circuit_three n m in omega arith

  -- where the table at a place stands
  stands : (circuit bytes : List ℕ) (start at width rows : ℕ) → at ≡ start + f → (bytes ≡ drop at circuit) × (width ≡ w) × (rows ≡ m)
      → TableAt n m circuit start bytes width rows
  stands circuit bytes start at width rows e is =
      let h = half_up m f front in
      let p : at ≡ start + packed_length m = omega arith in
      record { wide = is.1 ∙ half_up n w wide; high = is.2; place = is.0 ∙ ap (λ (i : ℕ). drop i circuit) p }

pub table_at-requires : goal.table_at-requires
table_at-requires c =
    let a = c.args in
    let w = c.div_ceil-width in
    let f = c.div_ceil-constants in
    let e = ends a.n a.m w.result f.result w.ensures f.ensures a.circuit.now c.requires.2 in
    omega arith

pub table_at-requires-2 : goal.table_at-requires-2
table_at-requires-2 c =
    let a = c.args in
    let w = c.div_ceil-width in
    let f = c.div_ceil-constants in
    let e = ends a.n a.m w.result f.result w.ensures f.ensures a.circuit.now c.requires.2 in
    omega arith

pub table_at-requires-3 : goal.table_at-requires-3
table_at-requires-3 c =
    let a = c.args in
    let w = c.div_ceil-width in
    let f = c.div_ceil-constants in
    let e = ends a.n a.m w.result f.result w.ensures f.ensures a.circuit.now c.requires.2 in
    omega arith

pub returns : goal.returns
returns c =
    let a = c.args in
    let w = c.div_ceil-width in
    let f = c.div_ceil-constants in
    let s = size a.n a.m w.result f.result w.ensures f.ensures in
    let at = λ (start place : ℕ) (e : place ≡ start + f.result). λ (b : List ℕ) (k r : ℕ). stands a.n a.m w.result f.result w.ensures f.ensures a.circuit.now b start place k r e in
    record {
      first = at 0 f.result (omega arith) _ _ _ c.table_at.ensures;
      second = at (affine_length a.n a.m) _ (omega arith) _ _ _ c.table_at-2.ensures;
      third = at (affine_length a.n a.m + affine_length a.n a.m) _ (omega arith) _ _ _ c.table_at-3.ensures;
    }
