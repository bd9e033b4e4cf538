-- `turning::pack::turn_back` meets its contract: the blocks of the padded words are turned, and behind them the last sixteen words.
-- Assumes nothing.
use mathlib.Core.Path.{◌≡◌, refl, subst}
use mathlib.Core.List.{List, ◌++◌}
use Prim.Native.Nat.{ℕ, ◌+◌, ◌-◌, ◌*◌, ◌/◌}
use native.Mathlib.Omega.{arith}
use lib.ListN.{length, take, drop}
use Rattle.memory.specs.Lists.{over}
use Rattle.turning.specs.Turns.{Turned}
use Rattle.turning.proofs.Back.{turned_back}
use Rattle.turning.proofs.pack.turn_back.Goals as goal

pub returns : goal.returns
returns c =
    let copied = c.copy_words in
    let ending = c.copy_words-2 in
    let lanes = c.to_lanes in
    let words = c.args.words.now in
    let m = length words in
    let n = (m + 15) / 16 * 16 in
    let cs = ending.new.dst in
    let ys = lanes.new.out in
    let sixteen : length cs ≡ 16 = omega arith in
    let count : length ys ≡ n + 16 = omega arith in
    turned_back words c.args.padded.now c.args.turned.now cs ys n c.requires.0 c.requires.1 c.requires.2 c.requires.3 refl sixteen count
    (subst (λ (l : List ℕ). cs ≡ over (take (m - (m - 16)) (drop (m - 16) words)) (take (n + 16 - n) (drop n l))) copied.ensures ending.ensures)
    (subst (λ (l : List ℕ). Turned (take (n + 16 - 0) (drop 0 (take n l ++ (cs ++ drop (n + 16 - n) (drop n l))))) ys) copied.ensures lanes.ensures)
