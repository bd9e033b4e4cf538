-- What is said of a word of lanes, whether it is one word of 64 bits or two side by side. Assumes nothing.
use Rattle.std.specs.Prelude.{List, ◌≡◌, ℕ, ◌-◌, ◌<◌, cond, ltb, get_or}
use Rattle.std.specs.Int.Bits.{bit_xor}
use Rattle.field.specs.Field.{mul}
use Rattle.lanes.specs.Lanes.{lane}
use Rattle.linear.specs.declared.word.Pair.{Pair}

-- how many lanes a word has, the element in each, the word that stands past the end of a list, and the sum of two words
pub record View (W : Type 0) : Type 0 where
  pub lanes : ℕ
  pub lane : ℕ → W → ℕ
  pub zero : W
  pub sum : W → W → W

-- the lanes of a sum are the sums of the lanes
abbrev pub Adds : {W : Type 0} → View W → Type 0
Adds {W} v = (q : ℕ) (x y : W) → v.lane q (v.sum x y) ≡ bit_xor (v.lane q x) (v.lane q y)

-- entry e of the words is e times w, lane by lane
unfoldable pub MultiplesOf : {W : Type 0} → View W → W → List W → Type 0
MultiplesOf v w t = (e q : ℕ) → e < 16 → q < v.lanes → v.lane q (get_or t e v.zero) ≡ mul e (v.lane q w)

-- a word of sixteen lanes
abbrev pub one_word : View ℕ
one_word = record { lanes = 16; lane = lane; zero = 0; sum = bit_xor }

-- two words side by side: the lanes of the first, then those of the second
abbrev pub two_words : View Pair
two_words = record {
  lanes = 32;
  lane = λ q w. cond (ltb q 16) (lane q w.first) (lane (q - 16) w.second);
  zero = record { first = 0; second = 0 };
  sum = λ v w. record { first = bit_xor v.first w.first; second = bit_xor v.second w.second };
}
