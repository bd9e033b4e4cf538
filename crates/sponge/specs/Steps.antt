-- SHAKE256 byte by byte, as a state that is handed on: what the contracts of this crate cite. The laws of proofs/Laws.antt tie it to the blocks of FIPS 202.
-- Every definition is total: a place past the block is read modulo the rate in a sponge, and as the end of the block in a tape.
-- Assumes nothing.
use Rattle.std.specs.Prelude.{cond, List, [], ◌∷◌, ◌++◌, ℕ, zero, suc, ◌+◌, ◌-◌, ◌*◌, ◌/◌, ◌%◌, ◌^◌, ltb, get_or, set, replicate}
use Rattle.std.specs.Int.Bits.{bit_xor}
use Rattle.memory.specs.Lists.{table}
use Rattle.keccak.specs.Keccak.{keccak_f}
use Rattle.sponge.specs.declared.Sponge.{Sponge}
use Rattle.sponge.specs.declared.Tape.{Tape}
use Rattle.sponge.specs.Sponge.{rate, byte_at}

-- a state and a place, for absorbing and for giving
abbrev pub sponge : List ℕ → ℕ → Sponge
sponge S at = record { lanes = S; at = at }

abbrev pub tape : List ℕ → ℕ → Tape
tape S at = record { lanes = S; at = at }

-- nothing is absorbed yet
unfoldable pub fresh : Sponge
fresh = sponge (replicate 25 0) 0

-- byte i of a state xored with b
unfoldable pub xor_byte : List ℕ → ℕ → ℕ → List ℕ
xor_byte S i b = set S (i / 8) (bit_xor (get_or S (i / 8) 0) (b % 256 * 2 ^ (8 * (i % 8))))

-- bytes xored into a state from byte i on
unfoldable pub xor_bytes : List ℕ → ℕ → List ℕ → List ℕ
xor_bytes S i [] = S
xor_bytes S i (b ∷ bytes) = xor_bytes (xor_byte S i b) (i + 1) bytes

-- a sponge at a place; at the end of a block the state is permuted and the next block begins
unfoldable pub turned : List ℕ → ℕ → Sponge
turned S at = cond (ltb at rate) (sponge S at) (sponge (keccak_f S) 0)

-- one byte more
unfoldable pub taken : Sponge → ℕ → Sponge
taken s b = turned (xor_byte s.lanes s.at b) (s.at + 1)

-- a sponge's place, within the block
unfoldable pub within : Sponge → Sponge
within s = sponge s.lanes (s.at % rate)

-- the sponge after these bytes
unfoldable pub absorbed : Sponge → List ℕ → Sponge
absorbed s [] = within s
absorbed s (b ∷ bytes) = absorbed (taken (within s) b) bytes

-- 1111 and the padding are absorbed, and the state is permuted: nothing is given yet
unfoldable pub finished : Sponge → Tape
finished s = tape (keccak_f (xor_byte (xor_byte s.lanes (s.at % rate) 0x1f) (rate - 1) 0x80)) 0

-- a tape that has a byte to give: at the end of a block the state is permuted and the next block begins
unfoldable pub ready : Tape → Tape
ready t = cond (ltb t.at rate) t (tape (keccak_f t.lanes) 0)

-- the next byte
unfoldable pub next : Tape → ℕ
next t = byte_at (ready t).lanes (ready t).at

-- the tape after n bytes
unfoldable pub moved : Tape → ℕ → Tape
moved t zero = t
moved t (suc n) = tape (ready (moved t n)).lanes ((ready (moved t n)).at + 1)

-- the next n bytes
unfoldable pub given : Tape → ℕ → List ℕ
given t zero = []
given t (suc n) = given t n ++ (next (moved t n) ∷ [])

-- n bytes of a state from byte i on
unfoldable pub bytes_from : List ℕ → ℕ → ℕ → List ℕ
bytes_from S i n = table n (λ j. byte_at S (i + j))
