-- Sizes and numbers: the tests of writing and of reading answer 0 exactly where all is right, and the sizes of keys and signatures are small, so that no envelope is long.
-- Assumes nothing.
use mathlib.Core.Path.{◌≡◌}
use mathlib.Core.List.{List}
use Prim.Native.Nat.{ℕ, ◌+◌, ◌≤◌}
use native.Mathlib.Omega.{arith}
use lib.Dec.{lit≤}
use lib.ListN.{length}
use Rattle.std.proofs.lemmas.Bool.Decides.{nat_tests}
use Rattle.field.specs.Packing.{packed_length}
use Rattle.sets.specs.Sets.{S, rows, params_of, public_key_length, signature_length}
use Rattle.sets.specs.declared.Params.{Params}
use Rattle.sets.proofs.Laws.{each_set, each_row}
use Rattle.refusals.specs.Refusals.{message_limit, bad_set, differs}
use Rattle.refusals.proofs.Refusals.{KnownSet}
use Rattle.envelope.specs.declared.Header.{Header}
use Rattle.envelope.specs.Envelope.{the_version, header_length, header_of, write_sizes, header_number, read_number}

-- ---- sizes of keys and signatures

-- the largest public key, and the largest signature
pub public_key_small : (set : ℕ) → public_key_length (params_of set) ≤ 93
unfolding public_key_length S packed_length params_of rows
public_key_small =
    each_set (λ (P : Params). public_key_length P ≤ 93)
    (each_row (λ (i : ℕ). public_key_length (params_of i) ≤ 93) (lit≤ tt) (lit≤ tt) (lit≤ tt) (lit≤ tt) (lit≤ tt) (lit≤ tt) (lit≤ tt))

pub signature_small : (set : ℕ) → signature_length (params_of set) ≤ 27348
unfolding signature_length S packed_length params_of rows
signature_small =
    each_set (λ (P : Params). signature_length P ≤ 27348)
    (each_row (λ (i : ℕ). signature_length (params_of i) ≤ 27348) (lit≤ tt) (lit≤ tt) (lit≤ tt) (lit≤ tt) (lit≤ tt) (lit≤ tt) (lit≤ tt))

-- ---- writing

pub record WriteRight (set pk sig msg out : ℕ) : Type 0 where
  pub known : KnownSet set
  pub message : msg ≤ message_limit
  pub public_key : pk ≡ public_key_length (params_of set)
  pub signature : sig ≡ signature_length (params_of set)
  pub room : header_length + public_key_length (params_of set) + signature_length (params_of set) + msg ≤ out

pub write_right : (set public_key signature message room : ℕ) → write_sizes set public_key signature message room ≡ 0 → WriteRight set public_key signature message room
unfolding write_sizes differs bad_set
write_right set public_key signature message room e = grind (arith, nat_tests)

pub right_write : (set public_key signature message room : ℕ) → WriteRight set public_key signature message room → write_sizes set public_key signature message room ≡ 0
unfolding write_sizes differs bad_set
right_write set public_key signature message room r = grind (arith, nat_tests)

-- ---- reading

pub record HeaderRight (h : Header) (n : ℕ) : Type 0 where
  pub version : h.version ≡ the_version
  pub known : KnownSet h.set
  pub message : h.length ≤ message_limit
  pub total : n ≡ header_length + public_key_length (params_of h.set) + signature_length (params_of h.set) + h.length

pub header_right : (h : Header) (total : ℕ) → header_number h total ≡ 0 → HeaderRight h total
unfolding header_number differs bad_set
header_right h total e = grind (arith, nat_tests)

pub right_header : (h : Header) (total : ℕ) → HeaderRight h total → header_number h total ≡ 0
unfolding header_number differs bad_set
right_header h total r = grind (arith, nat_tests)

pub record ReadRight (e : List ℕ) : Type 0 where
  pub long : header_length ≤ length e
  pub right : HeaderRight (header_of e) (length e)

pub read_right : (e : List ℕ) → read_number e ≡ 0 → ReadRight e
unfolding read_number
read_right e z = grind (arith, nat_tests, header_right)

pub right_read : (e : List ℕ) → ReadRight e → read_number e ≡ 0
unfolding read_number
right_read e r = grind (arith, nat_tests, right_header)

-- no legal envelope is longer than one of set 6 with the longest message
abbrev pub longest : ℕ
longest = 60212

pub legal_at_most : (e : List ℕ) → read_number e ≡ 0 → length e ≤ longest
legal_at_most e z =
    let r = (read_right e z).right in
    let a = public_key_small (header_of e).set in
    let b = signature_small (header_of e).set in
    let m = r.message in
    let t = r.total in
    omega arith
