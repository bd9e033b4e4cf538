-- Lent bytes that hold a circuit, challenges or hidden parties: what stands where, and that the bytes of a tape hold what Expand gives.
-- Assumes nothing.
use mathlib.Core.Path.{◌≡◌, refl, sym, ap, ap₂, ◌∙◌}
use mathlib.Core.List.{List, [], ◌∷◌}
use Prim.Native.Nat.{ℕ, zero, suc, ◌+◌, ◌-◌, ◌*◌, ◌/◌, ◌%◌, ◌^◌, ◌≤◌, ◌<◌}
use native.Mathlib.Nat.{suc-mul, one-mul, mod-eq_of_lt, lt_of_le_of_lt}
use native.Mathlib.Omega.{arith}
use lib.Dec.{lit<}
use lib.ListN.{length, get_or, take, drop, drop_of_length-le}
use lib.Pow.{pow_mono}
use lib.Seq.{take_at, drop-drop, drop-cons, get_or-take}
use Rattle.std.specs.Int.{div_ceil}
use Rattle.memory.proofs.Lists.{room}
use Rattle.field.specs.Packing.{packed_length, nib, unpack}
use Rattle.field.specs.Vectors.{◌!◌}
use Rattle.field.proofs.Packing.{half_up, get_or-unpack, unpack-same, nib-take, nib-drop}
use Rattle.sponge.specs.Sponge.{little, shake256}
use Rattle.sponge.specs.Steps.{fresh, absorbed, finished, given, moved}
use Rattle.sponge.proofs.Laws.{given-append, given-shake256, length-given, length-shake256, shake256-bytes}
use Rattle.forms.specs.Sampling.{tape_bytes, sample_elements, index_length, sample_index, expand_elements, expand_index}
use Rattle.forms.specs.Circuit.{Affine, Circuit, sample_rows, sample_affine, affine_length, expand_circuit}
use Rattle.forms.specs.Room.{circuit_length, rows_in, affine_in, circuit_in, HoldsCircuit, challenge_in, hidden_in}

-- ---- a part of a tape

-- the first bytes of a tape do not go by how many are taken
pub take-shake256 : (x : List ℕ) (k n : ℕ) → k ≤ n → take k (shake256 x n) ≡ shake256 x k
take-shake256 x k n h =
    let t = finished (absorbed fresh x) in
    let e : n ≡ k + (n - k) = omega arith in
    ap (λ (j : ℕ). take k (shake256 x j)) e
    ∙ ap (take k) (sym (given-shake256 x (k + (n - k))) ∙ given-append t k (n - k))
    ∙ take_at (given t k) (given (moved t k) (n - k)) k (length-given t k)
    ∙ given-shake256 x k

-- elements that are sampled from a place on stand there
pub sample_part : (x : List ℕ) (from n total : ℕ) → from + packed_length n ≤ total → sample_elements x from n ≡ unpack n (drop from (shake256 x total))
unfolding sample_elements tape_bytes packed_length
sample_part x from n total h =
    unpack-same n (drop from (shake256 x (from + packed_length n))) (drop from (shake256 x total))
    (λ i l. nib-drop from (shake256 x (from + packed_length n)) i
    ∙ ap (λ (b : List ℕ). nib b (from * 2 + i)) (sym (take-shake256 x (from + packed_length n) total h))
    ∙ nib-take (from + packed_length n) (shake256 x total) (from * 2 + i) (omega arith)
    ∙ sym (nib-drop from (shake256 x total) i))

-- ---- the circuit

-- bytes hold the circuit that is read from them
pub holds_circuit : (n m : ℕ) (bytes : List ℕ) → HoldsCircuit n m (circuit_in n m bytes) bytes
unfolding HoldsCircuit
holds_circuit n m bytes = refl

-- the sizes as the code works them out
pub packed_holds : (n : ℕ) → n ≤ packed_length n * 2
unfolding packed_length
packed_holds n = omega arith

pub half_ceil : (n : ℕ) → div_ceil n 2 ≡ packed_length n
unfolding packed_length
half_ceil n = omega arith

pub rows_size : (n m : ℕ) → m * (n / 2 + n % 2) ≡ m * packed_length n
rows_size n m = ap (λ (w : ℕ). m * w) (half_up n)

pub affine_size : (n m : ℕ) → m / 2 + m % 2 + m * (n / 2 + n % 2) ≡ affine_length n m
unfolding affine_length
affine_size n m = ap₂ (λ (a b : ℕ). a + b) (half_up m) (rows_size n m)

pub affine_two : (n m : ℕ) → affine_length n m ≡ packed_length m + m * packed_length n
unfolding affine_length
affine_two n m = refl

-- row k of a table that has room: where it stands, as the code works it out, and that it has room
pub row_place : (start n m k size width first : ℕ) → start + affine_length n m ≤ size → k < m → width ≡ div_ceil n 2 → first ≡ div_ceil m 2
    → (start + first + k * width ≡ start + packed_length m + k * packed_length n) × (start + first + k * width + packed_length n ≤ size)
row_place start n m k size width first h l ew ef =
    let r = room k m (packed_length n) l in
    let t = affine_two n m in
    let w = ap (λ (x : ℕ). k * x) (ew ∙ half_ceil n) in
    let f = ef ∙ half_ceil m in
    (omega arith, omega arith)

pub circuit_three : (n m : ℕ) → circuit_length n m ≡ affine_length n m + affine_length n m + affine_length n m
unfolding circuit_length
circuit_three n m = refl

rows-part : (x : List ℕ) (from n m total : ℕ) → from + m * packed_length n ≤ total → rows_in n m (drop from (shake256 x total)) ≡ sample_rows x from n m
unfolding rows_in sample_rows
rows-part x from n zero total h = refl
rows-part x from n (suc m) total h =
    let e = suc-mul m (packed_length n) in
    ap₂ (λ (r : List ℕ) (l : List (List ℕ)). r ∷ l)
    (sym (sample_part x from n total (omega arith)))
    (ap (rows_in n m) (drop-drop (packed_length n) from (shake256 x total)) ∙ rows-part x (from + packed_length n) n m total (omega arith))

affine-part : (x : List ℕ) (from n m total : ℕ) → from + affine_length n m ≤ total → affine_in n m (drop from (shake256 x total)) ≡ sample_affine x from n m
unfolding affine_in sample_affine affine_length
affine-part x from n m total h =
    ap₂ (λ (c : List ℕ) (r : List (List ℕ)). record { constants = c; rows = r })
    (sym (sample_part x from m total (omega arith)))
    (ap (rows_in n m) (drop-drop (packed_length m) from (shake256 x total)) ∙ rows-part x (from + packed_length m) n m total (omega arith))

three : Affine → Affine → Affine → Circuit
three a b c = record { A1 = a; A2 = b; A0 = c }

-- a room filled from the tape of a seed holds the circuit that the seed expands to
pub expanded_circuit : (seed : List ℕ) (n m total : ℕ) → circuit_length n m ≤ total → HoldsCircuit n m (expand_circuit seed n m) (shake256 seed total)
unfolding HoldsCircuit circuit_in expand_circuit circuit_length three
expanded_circuit seed n m total h =
    ap (λ (a : Affine). three a (affine_in n m (drop (affine_length n m) (shake256 seed total))) (affine_in n m (drop (affine_length n m + affine_length n m) (shake256 seed total))))
    (affine-part seed 0 n m total (omega arith))
    ∙ ap₂ (three (sample_affine seed 0 n m)) (affine-part seed (affine_length n m) n m total (omega arith))
    (affine-part seed (affine_length n m + affine_length n m) n m total (omega arith))

-- the constant of form k
pub constant_in : (n m : ℕ) (bytes : List ℕ) (k : ℕ) → k < m → (affine_in n m bytes).constants ! k ≡ nib bytes k
unfolding affine_in
constant_in n m bytes k h = get_or-unpack m bytes k h

row_in_rows : (n m : ℕ) (bytes : List ℕ) (k : ℕ) → k < m → get_or (rows_in n m bytes) k [] ≡ unpack n (drop (k * packed_length n) bytes)
unfolding rows_in
row_in_rows n zero bytes k h = absurd (omega arith)
row_in_rows n (suc m) bytes zero h = ap (λ (j : ℕ). unpack n (drop j bytes)) (let e : 0 ≡ 0 * packed_length n = omega arith in e)
row_in_rows n (suc m) bytes (suc k) h =
    row_in_rows n m (drop (packed_length n) bytes) k (omega arith)
    ∙ ap (unpack n) (drop-drop (k * packed_length n) (packed_length n) bytes)
    ∙ ap (λ (j : ℕ). unpack n (drop j bytes)) (let g = suc-mul k (packed_length n) in let e : packed_length n + k * packed_length n ≡ suc k * packed_length n = omega arith in e)

-- the row of form k
pub row_in : (n m : ℕ) (bytes : List ℕ) (k : ℕ) → k < m → get_or (affine_in n m bytes).rows k [] ≡ unpack n (drop (packed_length m + k * packed_length n) bytes)
unfolding affine_in
row_in n m bytes k h =
    row_in_rows n m (drop (packed_length m) bytes) k h ∙ ap (unpack n) (drop-drop (k * packed_length n) (packed_length m) bytes)

pub length-rows_in : (n m : ℕ) (bytes : List ℕ) → length (rows_in n m bytes) ≡ m
unfolding rows_in
length-rows_in n zero bytes = refl
length-rows_in n (suc m) bytes = ap suc (length-rows_in n m (drop (packed_length n) bytes))

-- ---- challenges and hidden parties

-- element k of the challenge of repetition e
pub challenge_in_lem : (m : ℕ) (bytes : List ℕ) (e k : ℕ) → k < m → challenge_in m bytes e ! k ≡ nib bytes ((e - 1) * packed_length m * 2 + k)
unfolding challenge_in
challenge_in_lem m bytes e k h =
    get_or-unpack m (drop ((e - 1) * packed_length m) bytes) k h ∙ nib-drop ((e - 1) * packed_length m) bytes k

-- a room filled from the tape of the first hash holds the challenges that it expands to
pub expanded_challenge : (h1 : List ℕ) (m e total : ℕ) → (e - 1) * packed_length m + packed_length m ≤ total → challenge_in m (shake256 h1 total) e ≡ expand_elements h1 m e
unfolding challenge_in expand_elements
expanded_challenge h1 m e total h = sym (sample_part h1 ((e - 1) * packed_length m) m total h)

-- the byte of a tape at a place, as a list of one
byte_part : (x : List ℕ) (from total : ℕ) → from < total → tape_bytes x from 1 ≡ get_or (shake256 x total) from 0 ∷ []
unfolding tape_bytes
byte_part x from total h =
    let size = length-shake256 x (from + 1) in
    drop-cons (shake256 x (from + 1)) from 0 (omega arith)
    ∙ ap₂ (λ (b : ℕ) (l : List ℕ). b ∷ l)
    (ap (λ (l : List ℕ). get_or l from 0) (sym (take-shake256 x (from + 1) total (omega arith))) ∙ get_or-take (from + 1) (shake256 x total) from 0 (omega arith))
    (drop_of_length-le (shake256 x (from + 1)) {i = suc from} (omega arith))

-- a room filled from the tape of the second hash holds the hidden parties that it expands to
pub expanded_hidden : (h2 : List ℕ) (l e total : ℕ) → 1 ≤ l → l ≤ 8 → e - 1 < total → hidden_in l (shake256 h2 total) e ≡ expand_index h2 l e
unfolding hidden_in expand_index sample_index index_length little
expanded_hidden h2 l e total h k below =
    let one : (l + 7) / 8 ≡ 1 = omega arith in
    let b : ℕ = get_or (shake256 h2 total) (e - 1) 0 in
    let small : b < 256 = shake256-bytes h2 total (e - 1) in
    let whole : b % 256 + 256 * 0 ≡ b = omega arith in
    let place : (e - 1) * 1 ≡ e - 1 = omega arith in
    sym (ap (λ (i : ℕ). little (tape_bytes h2 ((e - 1) * i) i) % 2 ^ l + 1) one
    ∙ ap (λ (i : ℕ). little (tape_bytes h2 i 1) % 2 ^ l + 1) place
    ∙ ap (λ (bytes : List ℕ). little bytes % 2 ^ l + 1) (byte_part h2 (e - 1) total below)
    ∙ ap (λ (i : ℕ). i % 2 ^ l + 1) whole)

-- two to the number of bits, as the code shifts
pub shifted_one : (l : ℕ) → l ≤ 8 → 1 * 2 ^ l % 2 ^ 64 ≡ 2 ^ l
shifted_one l h = ap (λ (i : ℕ). i % 2 ^ 64) (one-mul (2 ^ l)) ∙ mod-eq_of_lt (lt_of_le_of_lt (pow_mono {i = l} {j = 8} h) (lit< tt))
