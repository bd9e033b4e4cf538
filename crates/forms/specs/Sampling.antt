-- Sampling from a tape (section 4.4.2 of the submission, algorithms 6 and 7, read by document 01). q is 16 and N a power of 2, so nothing is ever rejected.
-- A tape is SHAKE256(x, ∞): it is named by the bytes x that are hashed, and read from a place on, counted in bytes.
-- Assumes nothing.
use Rattle.std.specs.Prelude.{List, ℕ, ◌+◌, ◌-◌, ◌*◌, ◌/◌, ◌%◌, ◌^◌, drop}
use Rattle.field.specs.Packing.{packed_length, unpack}
use Rattle.sponge.specs.Sponge.{little, shake256}

-- section 4.4, SHAKE256(x, ∞): `count` bytes of the tape, from its byte `from` on
unfoldable pub tape_bytes : List ℕ → ℕ → ℕ → List ℕ
tape_bytes x from count = drop from (shake256 x (from + count))

-- algorithm 6, lines 10 to 22, Sample(tape, F_16, n): n elements of four bits, the low half of a byte first.
-- Whole bytes are taken, so the half byte behind an odd last element is dropped
unfoldable pub sample_elements : List ℕ → ℕ → ℕ → List ℕ
sample_elements x from n = unpack n (tape_bytes x from (packed_length n))

-- algorithm 6, line 4: the whole bytes that an index of l bits takes
unfoldable pub index_length : ℕ → ℕ
index_length l = (l + 7) / 8

-- algorithm 6, lines 3 to 9, Sample(tape, [N], 1) with N = 2^l: the low l bits, and map counts from 1
unfoldable pub sample_index : List ℕ → ℕ → ℕ → ℕ
sample_index x from l = little (tape_bytes x from (index_length l)) % 2 ^ l + 1

-- algorithm 7, Expand(seed, k, F_16, n): v^(i), for i from 1 to k
unfoldable pub expand_elements : List ℕ → ℕ → ℕ → List ℕ
expand_elements seed n i = sample_elements seed ((i - 1) * packed_length n) n

-- algorithm 7, Expand(seed, k, [N], 1) with N = 2^l: v^(i), for i from 1 to k
unfoldable pub expand_index : List ℕ → ℕ → ℕ → ℕ
expand_index seed l i = sample_index seed ((i - 1) * index_length l) l
