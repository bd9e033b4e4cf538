-- SHAKE256 of FIPS 202 in the standard's own blocks: padding, the sponge construction and the function of a message and an output length.
-- A string of whole bytes is the list of its bytes, a state the list of its 25 lanes; an entry that is no byte counts modulo 256.
-- Assumes nothing.
use Rattle.std.specs.Prelude.{List, [], ◌∷◌, ◌++◌, ℕ, zero, suc, ◌+◌, ◌-◌, ◌*◌, ◌/◌, ◌%◌, ◌^◌, length, get_or, take, drop, replicate}
use Rattle.std.specs.Int.Bits.{bit_xor}
use Rattle.memory.specs.Lists.{table}
use Rattle.keccak.specs.Keccak.{keccak_f}

-- 5.2 and 6.2: r = 1600 - c bits, c = 512, in bytes
abbrev pub rate : ℕ
rate = 136

-- B.1: the n lowest bits of a number, the least significant first
unfoldable pub low_bits : ℕ → ℕ → List ℕ
low_bits zero x = []
low_bits (suc n) x = x % 2 ∷ low_bits n (x / 2)

-- B.1: the bits of a string of bytes
unfoldable pub bits : List ℕ → List ℕ
bits [] = []
bits (b ∷ s) = low_bits 8 b ++ bits s

-- 5.1, algorithm 9: pad10*1(x, m) is 1, then (-m - 2) mod x zeros, then 1
unfoldable pub pad10*1 : ℕ → ℕ → List ℕ
pad10*1 x m = 1 ∷ (replicate ((x - (m + 2) % x) % x) 0 ++ (1 ∷ []))

-- the n + 1 bytes that hold 1111 of 6.2 and the padding of 5.1, least significant bit first (B.1), as B.2 does for the hash functions
unfoldable pub suffix : ℕ → List ℕ
suffix zero = 0x9f ∷ []
suffix (suc n) = 0x1f ∷ (replicate n 0 ++ (0x80 ∷ []))

-- 6.2 and algorithm 8, step 1: P, the message, 1111 and the padding. The law `bits-padded` of proofs/ has it in bits, by 5.1
unfoldable pub padded : List ℕ → List ℕ
padded M = M ++ suffix (rate - 1 - length M % rate)

-- B.1 and 3.1.2: a lane's word, whose first byte is the least significant
unfoldable pub little : List ℕ → ℕ
little [] = 0
little (b ∷ s) = b % 256 + 256 * little s

-- algorithm 8, step 6: S xor (p || 0^c), eight bytes of p to a lane
unfoldable pub xored : List ℕ → List ℕ → List ℕ
xored [] p = []
xored (x ∷ S) p = bit_xor x (little (take 8 p)) ∷ xored S (drop 8 p)

-- algorithm 8, step 6: S after n blocks of P
unfoldable pub absorbing : ℕ → List ℕ → List ℕ → List ℕ
absorbing zero S P = S
absorbing (suc n) S P = absorbing n (keccak_f (xored S (take rate P))) (drop rate P)

-- B.1 and 3.1.3: byte i of a state as a string
unfoldable pub byte_at : List ℕ → ℕ → ℕ
byte_at S i = get_or S (i / 8) 0 / 2 ^ (8 * (i % 8)) % 256

-- algorithm 8, steps 8 and 10: Z after n turns, each of Trunc_r(S) and S = f(S)
unfoldable pub squeezing : ℕ → List ℕ → List ℕ
squeezing zero S = []
squeezing (suc n) S = table rate (byte_at S) ++ squeezing n (keccak_f S)

-- algorithm 8 and 6.2: SHAKE256(M, 8d). Step 9 ends with the first turn n of at least one for which d is at most r n
unfoldable pub shake256 : List ℕ → ℕ → List ℕ
shake256 M d = take d (squeezing ((d - 1) / rate + 1) (absorbing (length (padded M) / rate) (replicate 25 0) (padded M)))
