-- `turning::pack::write_windows` meets its contract. The invariant: the elements below 16 o stand in the bytes, 16 o is the place of element k of party q,
-- and what lies behind the bytes to write is kept.
-- Assumes nothing.
use mathlib.Core.Path.{◌≡◌, refl, sym, ap₂, subst, ◌∙◌}
use Prim.Native.Nat.{ℕ, ◌+◌, ◌*◌}
use native.Mathlib.Omega.{arith}
use lib.ListN.{length}
use Rattle.lanes.proofs.Bytes.{put-behind}
use Rattle.turning.proofs.Windows.{PackedTo, packed_none, packed_more, packed_all, party-lt, next_inside, next_across}
use Rattle.turning.proofs.pack.write_windows.Goals as goal
use Rattle.turning.proofs.pack.write_windows.Goals.{then-k-m, else-k-m}

pub loop-o-init : goal.loop-o-init
loop-o-init c = (refl, omega arith, omega arith, packed_none _ _, refl)

pub elements_from-requires : goal.elements_from-requires
elements_from-requires c =
    let l = c.loop-o in
    (c.requires.0, c.requires.1, c.requires.3, c.requires.4, party-lt (length c.args.words.now) l.q l.k l.o l.invariant.2 c.loop-o-test.true, l.invariant.1)

pub overflow_add-q : goal.overflow_add-q
overflow_add-q c =
    let l = c.loop-o in
    omega (arith, party-lt (length c.args.words.now) l.q l.k l.o l.invariant.2 c.loop-o-test.true)

pub loop-o-preserved : goal.loop-o-preserved
loop-o-preserved c =
    let l = c.loop-o in
    let w = c.put_word in
    let e = c.elements_from in
    let m = length c.args.words.now in (
      w.auto.bytes ∙ l.invariant.0,
      elim c.if-k-m.branch [ then-k-m v ↦ omega arith | else-k-m v ↦ omega arith ],
      elim c.if-k-m.branch [
        | then-k-m v ↦ next_across m l.q l.k l.o l.invariant.2 v.if-k-m.true ∙ sym (ap₂ (λ (a b : ℕ). m * a + b) v.q-is v.k-is)
        | else-k-m v ↦ next_inside m l.q l.k l.o l.invariant.2 ∙ sym (ap₂ (λ (a b : ℕ). m * a + b) v.q-is v.k-is)
      ],
      rw w.ensures (packed_more c.args.words.now l.out l.o l.q l.k e.result c.requires.0 (omega arith) l.invariant.2 l.invariant.1 l.invariant.3 e.ensures),
      rw w.ensures (put-behind l.out (8 * l.o) (8 * m) e.result (omega arith) (omega arith) ∙ l.invariant.4),
    )

pub returns : goal.returns
returns c =
    let l = c.loop-o in
    let e : 16 * l.o ≡ 16 * length c.args.words.now = omega arith in
    packed_all _ _ _ (subst (λ (n : ℕ). PackedTo n c.args.words.now l.out) e l.invariant.3) l.invariant.4
