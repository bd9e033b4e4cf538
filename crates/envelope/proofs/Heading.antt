-- The header byte by byte: the form that code writes and reads, held to the fields of bits; what is written is read back, and what was read is written again.
-- Assumes nothing.
use mathlib.Core.Path.{◌≡◌, sym, ap, ap₂, ◌∙◌}
use mathlib.Core.List.{List, [], ◌∷◌, ◌++◌, append_assoc, append-nil}
use Prim.Native.Nat.{ℕ, ◌+◌, ◌*◌, ◌/◌, ◌%◌, ◌^◌, ◌<◌}
use native.Mathlib.Omega.{arith}
use lib.ListN.{length, take, drop, length-append}
use lib.Seq.{take_at, drop_at, take_all, take-append-le}
use Rattle.envelope.specs.Bits.{bits, spelled, bytes, bits_of, field}
use Rattle.envelope.specs.Envelope.{header, header_bytes, header_of}
use Rattle.envelope.proofs.Bits.{length-bits, spelled-bits, spelled-append, bits-append, bytes-append}

-- ---- two fields one behind the other

-- two fields of four bits are one byte
two_halves : (a b : ℕ) → length (bits 4 a ++ bits 4 b) ≡ 8
two_halves a b = length-append (bits 4 a) (bits 4 b) ∙ ap₂ (λ (x y : ℕ). x + y) (length-bits 4 a) (length-bits 4 b)

-- two fields spell their numbers in their places
spelled_two : (m n a b : ℕ) → spelled (bits m a ++ bits n b) ≡ a % 2 ^ m * 2 ^ n + b % 2 ^ n
spelled_two m n a b =
    spelled-append (bits m a) (bits n b)
    ∙ ap₂ (λ (x y : ℕ). x + y) (ap₂ (λ (x k : ℕ). x * 2 ^ k) (spelled-bits m a) (length-bits n b)) (spelled-bits n b)

-- the first of two fields, and the second
first_field : (m : ℕ) (a : ℕ) (x : List ℕ) → spelled (take m (bits m a ++ x)) ≡ a % 2 ^ m
first_field m a x = ap spelled (take_at (bits m a) x m (length-bits m a)) ∙ spelled-bits m a

-- ---- writing

-- version and set share a byte, and the length takes two, the upper first
pub header-bytes : (version set length : ℕ) → header_bytes (header version set length) ≡ (version % 16 * 16 + set % 16) ∷ (length / 256 % 256) ∷ (length % 256) ∷ []
unfolding header_bytes bytes
header-bytes version set length =
    ap (bytes 3) laid
    ∙ bytes-append 2 (bits 4 version ++ bits 4 set) (bits 8 (length / 256) ++ (bits 8 length ++ [])) (two_halves version set)
    ∙ ap (λ (x : List ℕ). spelled (bits 4 version ++ bits 4 set) ∷ x)
    (bytes-append 1 (bits 8 (length / 256)) (bits 8 length ++ []) (length-bits 8 (length / 256))
    ∙ ap (λ (x : List ℕ). spelled (bits 8 (length / 256)) ∷ x) (bytes-append 0 (bits 8 length) [] (length-bits 8 length)))
    ∙ ap₂ (λ (x : ℕ) (y : List ℕ). x ∷ y) (spelled_two 4 4 version set)
    (ap₂ (λ (x y : ℕ). x ∷ y ∷ []) (spelled-bits 8 (length / 256)) (spelled-bits 8 length))
  where
    laid : bits 4 version ++ (bits 4 set ++ bits 16 length) ≡ (bits 4 version ++ bits 4 set) ++ (bits 8 (length / 256) ++ (bits 8 length ++ []))
    laid = sym (append_assoc (bits 4 version) (bits 4 set) (bits 16 length))
        ∙ ap (λ (x : List ℕ). (bits 4 version ++ bits 4 set) ++ x) (bits-append 8 8 length ∙ ap (λ (x : List ℕ). bits 8 (length / 256) ++ x) (sym (append-nil (bits 8 length))))

-- ---- reading

-- the same bytes read: the last two are one number
pub header_of_lem : (a b c : ℕ) → header_of (a ∷ b ∷ c ∷ []) ≡ header (a / 16 % 16) (a % 16) (b % 256 * 256 + c % 256)
unfolding header_of field bits_of
header_of_lem a b c =
    let version = ap (λ (x : List ℕ). spelled (take 4 x)) split ∙ first_field 4 (a / 16) (bits 4 a ++ rest) in
    let set = ap (λ (x : List ℕ). spelled (take 4 (drop 4 x))) split ∙ ap (λ (x : List ℕ). spelled (take 4 x)) (drop_at (bits 4 (a / 16)) (bits 4 a ++ rest) 4 (length-bits 4 (a / 16))) ∙ first_field 4 a rest in
    let size = ap (λ (x : List ℕ). spelled (take 16 x)) (drop_at (bits 8 a) rest 8 (length-bits 8 a)) ∙ ap spelled whole ∙ spelled_two 8 8 b c in
    cc
  where
    rest : List ℕ
    rest = bits 8 b ++ (bits 8 c ++ [])

    split : bits 8 a ++ rest ≡ bits 4 (a / 16) ++ (bits 4 a ++ rest)
    split = ap (λ (x : List ℕ). x ++ rest) (bits-append 4 4 a) ∙ append_assoc (bits 4 (a / 16)) (bits 4 a) rest

    whole : take 16 rest ≡ bits 8 b ++ bits 8 c
    whole =
        ap (λ (x : List ℕ). take 16 (bits 8 b ++ x)) (append-nil (bits 8 c))
        ∙ take_all 16 (bits 8 b ++ bits 8 c) (let x = length-bits 8 b in let y = length-bits 8 c in simp length-append (omega arith))

-- of whole bytes
pub header_of_bytes : (a b c : ℕ) → a < 256 → b < 256 → c < 256 → header_of (a ∷ b ∷ c ∷ []) ≡ header (a / 16) (a % 16) (b * 256 + c)
header_of_bytes a b c f g h =
    let version : a / 16 % 16 ≡ a / 16 = omega arith in
    let length : b % 256 * 256 + c % 256 ≡ b * 256 + c = omega arith in
    header_of_lem a b c ∙ ap₂ (λ (x y : ℕ). header x (a % 16) y) version length

-- only the first three bytes count
pub header_of_append : (a x : List ℕ) → length a ≡ 3 → header_of (a ++ x) ≡ header_of a
unfolding header_of
header_of_append a x h =
    ap (λ (l : List ℕ). header (field 0 4 l) (field 4 4 l) (field 8 16 l)) (take-append-le 3 a x (omega arith))

-- ---- there and back

-- a header whose fields fit is read back from its bytes
pub header_read_back : (version set length : ℕ) → version < 16 → set < 16 → length < 65536 → header_of (header_bytes (header version set length)) ≡ header version set length
header_read_back version set length f g h =
    let first : (version % 16 * 16 + set % 16) / 16 % 16 ≡ version = omega arith in
    let second : (version % 16 * 16 + set % 16) % 16 ≡ set = omega arith in
    let third : length / 256 % 256 % 256 * 256 + length % 256 % 256 ≡ length = omega arith in
    ap header_of (header-bytes version set length)
    ∙ header_of_lem (version % 16 * 16 + set % 16) (length / 256 % 256) (length % 256)
    ∙ ap₂ (λ (x y : ℕ). header x y (length / 256 % 256 % 256 * 256 + length % 256 % 256)) first second
    ∙ ap (header version set) third

-- the bytes of the header that was read
pub header-written_back : (a b c : ℕ) → a < 256 → b < 256 → c < 256 → header_bytes (header_of (a ∷ b ∷ c ∷ [])) ≡ a ∷ b ∷ c ∷ []
header-written_back a b c f g h =
    let first : a / 16 % 16 * 16 + a % 16 % 16 ≡ a = omega arith in
    let second : (b * 256 + c) / 256 % 256 ≡ b = omega arith in
    let third : (b * 256 + c) % 256 ≡ c = omega arith in
    ap header_bytes (header_of_bytes a b c f g h)
    ∙ header-bytes (a / 16) (a % 16) (b * 256 + c)
    ∙ ap₂ (λ (x y : ℕ). x ∷ y ∷ ((b * 256 + c) % 256) ∷ []) first second
    ∙ ap (λ (x : ℕ). a ∷ b ∷ x ∷ []) third
