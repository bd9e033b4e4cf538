-- Words of lanes: the laws of one word and of two side by side. Assumes nothing.
use Rattle.std.proofs.Common.{◌≡◌, ◌-◌, cond, ltb, true, false}
use lib.Bits.{bit_xor}
use Rattle.lanes.specs.Lanes.{lane}
use Rattle.lanes.proofs.Laws.{lane_xor}
use Rattle.linear.specs.Word.{Adds, one_word, two_words}

pub one_adds : Adds one_word
one_adds = lane_xor

pub two_adds : Adds two_words
two_adds q x y =
    elim (ltb q 16) as (λ b. cond b (lane q (bit_xor x.first y.first)) (lane (q - 16) (bit_xor x.second y.second))
    ≡ bit_xor (cond b (lane q x.first) (lane (q - 16) x.second)) (cond b (lane q y.first) (lane (q - 16) y.second))) [
      | true ↦ lane_xor q x.first y.first
      | false ↦ lane_xor (q - 16) x.second y.second
    ]
