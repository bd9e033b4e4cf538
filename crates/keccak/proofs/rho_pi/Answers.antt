-- `keccak::rho_pi` meets its contract: its lanes are those of π after ρ, as written, but for lane 0, which the code does not turn by its offset of 0; and both go over lanes that are turned over.
-- Assumes nothing.
use borrow.Author.Rules.{rules}
use mathlib.Core.Path.{◌≡◌, refl, sym, ap, ◌∙◌}
use mathlib.Core.List.{List, []}
use Prim.Native.Nat.{ℕ}
use lib.Dec.{lit≤}
use Rattle.keccak.specs.Keccak.{π, ρ, state, lane, offsets}
use Rattle.keccak.specs.Lanes.{listed, turned, moved}
use Rattle.keccak.proofs.Turned.{Fitted, cons, fitted_words, turned_π_ρ}
use Rattle.keccak.proofs.Steps.{rotated-zero, rotated-left}
use Rattle.keccak.proofs.rho_pi.Goals as goal

pub returns : goal.returns
unfolding listed π ρ state lane offsets
returns c =
    let s : Fitted (listed c.args.a) = search rules in
    let w = fitted_words (listed c.args.a) s in
    let none : ◌≡◌ {A = List ℕ} [] [] = refl in
    ap (turned moved)
    (cons (sym (rotated-zero _ (w 0))) (
    cons (rotated-left 44 (lit≤ tt) (w 6) c.rotate_left.ensures) (
    cons (rotated-left 43 (lit≤ tt) (w 12) c.rotate_left-2.ensures) (
    cons (rotated-left 21 (lit≤ tt) (w 18) c.rotate_left-3.ensures) (
    cons (rotated-left 14 (lit≤ tt) (w 24) c.rotate_left-4.ensures) (
    cons (rotated-left 28 (lit≤ tt) (w 3) c.rotate_left-5.ensures) (
    cons (rotated-left 20 (lit≤ tt) (w 9) c.rotate_left-6.ensures) (
    cons (rotated-left 3 (lit≤ tt) (w 10) c.rotate_left-7.ensures) (
    cons (rotated-left 45 (lit≤ tt) (w 16) c.rotate_left-8.ensures) (
    cons (rotated-left 61 (lit≤ tt) (w 22) c.rotate_left-9.ensures) (
    cons (rotated-left 1 (lit≤ tt) (w 1) c.rotate_left-10.ensures) (
    cons (rotated-left 6 (lit≤ tt) (w 7) c.rotate_left-11.ensures) (
    cons (rotated-left 25 (lit≤ tt) (w 13) c.rotate_left-12.ensures) (
    cons (rotated-left 8 (lit≤ tt) (w 19) c.rotate_left-13.ensures) (
    cons (rotated-left 18 (lit≤ tt) (w 20) c.rotate_left-14.ensures) (
    cons (rotated-left 27 (lit≤ tt) (w 4) c.rotate_left-15.ensures) (
    cons (rotated-left 36 (lit≤ tt) (w 5) c.rotate_left-16.ensures) (
    cons (rotated-left 10 (lit≤ tt) (w 11) c.rotate_left-17.ensures) (
    cons (rotated-left 15 (lit≤ tt) (w 17) c.rotate_left-18.ensures) (
    cons (rotated-left 56 (lit≤ tt) (w 23) c.rotate_left-19.ensures) (
    cons (rotated-left 62 (lit≤ tt) (w 2) c.rotate_left-20.ensures) (
    cons (rotated-left 55 (lit≤ tt) (w 8) c.rotate_left-21.ensures) (
    cons (rotated-left 39 (lit≤ tt) (w 14) c.rotate_left-22.ensures) (
    cons (rotated-left 41 (lit≤ tt) (w 15) c.rotate_left-23.ensures) (
    cons (rotated-left 2 (lit≤ tt) (w 21) c.rotate_left-24.ensures) (none))))))))))))))))))))))))))
    ∙ turned_π_ρ (listed c.args.a) s
