-- `keccak::theta` meets its contract: its 25 lanes are those of θ, as written, and θ goes over lanes that are turned over.
-- Assumes nothing.
use borrow.Author.Rules.{rules}
use mathlib.Core.Path.{◌≡◌}
use lib.Dec.{lit≤}
use Rattle.keccak.specs.Keccak.{θ, state, lane, C, D, rotated}
use Rattle.keccak.specs.Lanes.{listed}
use Rattle.keccak.proofs.Laws.{C-word}
use Rattle.keccak.proofs.Turned.{Fitted, fitted_words, turned_θ}
use Rattle.keccak.proofs.Steps.{rotated-left}
use Rattle.keccak.proofs.theta.Goals as goal

pub returns : goal.returns
unfolding listed θ state lane C D
returns c =
    let A = listed c.args.a in
    let s : Fitted A = search rules in
    let w = fitted_words A s in
    let e1 : c.rotate_left.result ≡ rotated (C A 1) 1 = rotated-left 1 (lit≤ tt) (C-word A w 1) c.rotate_left.ensures in
    let e2 : c.rotate_left-2.result ≡ rotated (C A 2) 1 = rotated-left 1 (lit≤ tt) (C-word A w 2) c.rotate_left-2.ensures in
    let e3 : c.rotate_left-3.result ≡ rotated (C A 3) 1 = rotated-left 1 (lit≤ tt) (C-word A w 3) c.rotate_left-3.ensures in
    let e4 : c.rotate_left-4.result ≡ rotated (C A 4) 1 = rotated-left 1 (lit≤ tt) (C-word A w 4) c.rotate_left-4.ensures in
    let e0 : c.rotate_left-5.result ≡ rotated (C A 0) 1 = rotated-left 1 (lit≤ tt) (C-word A w 0) c.rotate_left-5.ensures in
    rw (e1, e2, e3, e4, e0) (turned_θ A s)
