-- `sponge::part::xor_words` meets its contract. The loop's invariant: the first j words are xored in. A turn is `words_turn`.
-- Assumes nothing.
use mathlib.Core.Path.{◌≡◌, refl, ap, ◌∙◌}
use mathlib.Core.List.{List, []}
use Prim.Native.Nat.{ℕ, ◌*◌, ◌/◌, ◌<◌}
use native.Mathlib.Omega.{arith}
use mir.Syntax.{w64}
use lib.ListN.{length, get_or, take, drop}
use Rattle.std.specs.Int.{from_le_bytes}
use Rattle.sponge.specs.Sponge.{little}
use Rattle.sponge.specs.Steps.{xor_bytes}
use Rattle.sponge.proofs.Words.{chunk-little}
use Rattle.sponge.proofs.Lanes.{words_turn}
use Rattle.sponge.proofs.part.xor_words.Goals as goal

pub loop-j-init : goal.loop-j-init
unfolding xor_bytes
loop-j-init c = refl

pub loop-j-preserved : goal.loop-j-preserved
loop-j-preserved c =
    let a = c.args in
    let l = c.loop-j in
    let bytes = a.bytes.now in
    let j : l.j < length bytes / 8 = omega arith in
    let word : c.from_le_bytes.result ≡ little (take 8 (drop (8 * l.j) bytes)) =
    c.from_le_bytes.ensures
    ∙ ap (λ (words : List (List ℕ)). from_le_bytes w64 (get_or words l.j [])) c.as_chunks.ensures.front
    ∙ chunk-little (length bytes / 8) l.j bytes [] j (omega arith) (λ i. (c.type_inv.bytes i).fits) in
    words_turn _ a.k bytes l.j l.lanes _ (omega arith) l.invariant word
