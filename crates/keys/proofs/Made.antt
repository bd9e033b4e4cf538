-- The making of keys: s from its seed, t and y from the circuit, and the bytes of a seed with packed vectors behind it.
-- Assumes nothing.
use mathlib.Core.Path.{◌≡◌, sym, ap, ap₂, ◌∙◌, subst}
use mathlib.Core.List.{List, ◌++◌, append_assoc}
use Prim.Native.Nat.{ℕ, ◌+◌, ◌-◌, ◌*◌, ◌≤◌}
use native.Mathlib.Nat.{zero-add}
use native.Mathlib.Omega.{arith}
use lib.ListN.{length, replicate, length-append, length-replicate}
use Rattle.field.specs.Packing.{pack, packed_length, unpack}
use Rattle.vectors.specs.Elements.{elements_put}
use Rattle.vectors.proofs.Writing.{elements-put-next, elements-put_zeros}
use Rattle.sponge.specs.Sponge.{shake256}
use Rattle.sets.specs.Sets.{S, secret_key_length, public_key_length}
use Rattle.sets.specs.declared.Params.{Params}
use Rattle.forms.specs.Circuit.{Circuit, Evaluation, expand_circuit, eval_circuit}
use Rattle.forms.specs.Room.{circuit_length, HoldsCircuit}
use Rattle.forms.specs.Sampling.{sample_elements, expand_elements}
use Rattle.forms.proofs.Room.{sample_part, expanded_circuit}
use Rattle.refusals.specs.Refusals.{work_length}
use Rattle.biscuit.specs.Keys.{circuit, secret_of, key_gen, secret_bytes, public_bytes, public_of, secret_key, public_key}
use Rattle.biscuit.specs.Room.{leaves_at, Fits}
use Rattle.biscuit.proofs.Room.{mapped}
use Rattle.keys.specs.Values.{KeyValues}

-- ---- room

-- the circuit has room in the work
pub circuit-room : (P : Params) → Fits P → circuit_length P.n P.m ≤ work_length
unfolding leaves_at
circuit-room P f = let m = mapped P in let enough = f.enough in omega arith

-- ---- values

-- the elements that stand in the first bytes of a seed's tape
pub expanded : (seed : List ℕ) (n k : ℕ) → k ≡ packed_length n → unpack n (shake256 seed k) ≡ expand_elements seed n 1
unfolding expand_elements
expanded seed n k e =
    let z : (1 - 1) * packed_length n ≡ 0 = omega arith in
    sym (ap (λ (from : ℕ). sample_elements seed from n) z ∙ sample_part seed 0 n k (omega arith))

-- what is expanded and worked out is what the key of the two seeds holds
pub key_values_lem : (P : Params) (seed_f seedS bytes s t y : List ℕ) → bytes ≡ shake256 seed_f (circuit_length P.n P.m) → s ≡ expand_elements seedS P.n 1
    → ((f : Circuit) → HoldsCircuit P.n P.m f bytes → eval_circuit s f ≡ record { y = y; t = t }) → KeyValues P seed_f seedS s t y
unfolding key_gen secret_of circuit
key_values_lem P seed_f seedS bytes s t y b e h = record { secret = e; target = sym (ap (λ (v : Evaluation). v.t) all); second = sym (ap (λ (v : Evaluation). v.y) all) }
  where
    f : Circuit
    f = expand_circuit seed_f P.n P.m

    held : HoldsCircuit P.n P.m (expand_circuit seed_f P.n P.m) bytes
    held = subst (λ (x : List ℕ). HoldsCircuit P.n P.m (expand_circuit seed_f P.n P.m) x) (sym b) (expanded_circuit seed_f P.n P.m (circuit_length P.n P.m) (omega arith))

    all : eval_circuit (expand_elements seedS P.n 1) (expand_circuit seed_f P.n P.m) ≡ record { y = y; t = t }
    all = ap (λ (x : List ℕ). eval_circuit x (expand_circuit seed_f P.n P.m)) (sym e) ∙ h (expand_circuit seed_f P.n P.m) held

-- ---- bytes

-- three vectors written one behind the other over zeros
pub three_packed : (s t y zeros one two three : List ℕ) (k : ℕ) → zeros ≡ replicate k 0 → k ≡ packed_length (length s + length t + length y)
    → one ≡ elements_put s 0 zeros → two ≡ elements_put t (length s) one → three ≡ elements_put y (length s + length t) two
    → three ≡ pack (s ++ (t ++ y))
unfolding packed_length
three_packed s t y zeros one two three k z e f g h =
    h ∙ ap (elements_put y (length s + length t)) (g ∙ ap (elements_put t (length s)) (f ∙ ap (elements_put s 0) z))
    ∙ ap (λ (i : ℕ). elements_put y (length s + length t) (elements_put t i (elements_put s 0 (replicate k 0)))) (sym (zero-add (length s)))
    ∙ ap (elements_put y (length s + length t)) (elements-put-next s t 0 (replicate k 0) (let r = room in omega arith))
    ∙ ap (λ (i : ℕ). elements_put y i (elements_put (s ++ t) 0 (replicate k 0))) (let c = length-append s t in let i : length s + length t ≡ 0 + length (s ++ t) = omega arith in i)
    ∙ elements-put-next (s ++ t) y 0 (replicate k 0) (let r = room in let c = length-append s t in omega arith)
    ∙ ap (λ (v : List ℕ). elements_put v 0 (replicate k 0)) (append_assoc s t y)
    ∙ elements-put_zeros (s ++ (t ++ y)) k (e ∙ ap packed_length count)
  where
    room : length s + length t + length y ≤ 2 * length {A = ℕ} (replicate k 0)
    room = let l = length-replicate {A = ℕ} k 0 in omega arith

    count : length s + length t + length y ≡ length (s ++ (t ++ y))
    count = simp length-append (omega arith)

-- the bytes of the two keys, of the values worked out
pub secret-bytes : (P : Params) (seed_f seedS s t y sk : List ℕ) → KeyValues P seed_f seedS s t y → sk ≡ seed_f ++ pack (s ++ (t ++ y)) → sk ≡ secret_key P seed_f seedS
unfolding secret_key secret_bytes key_gen
secret-bytes P seed_f seedS s t y sk v e =
    e ∙ ap₂ (λ (a b : List ℕ). seed_f ++ pack (a ++ b)) v.secret (ap₂ (λ (a b : List ℕ). a ++ b) v.target v.second)

pub public_bytes_lem : (P : Params) (seed_f seedS s t y pk : List ℕ) → KeyValues P seed_f seedS s t y → pk ≡ seed_f ++ pack t → pk ≡ public_key P seed_f seedS
unfolding public_key public_bytes public_of key_gen
public_bytes_lem P seed_f seedS s t y pk v e = e ∙ ap (λ (a : List ℕ). seed_f ++ pack a) v.target

-- the sizes of the two keys, of those of their parts
pub secret_size : (P : Params) (seed s t y sk : ℕ) → sk ≡ secret_key_length P → seed ≡ S P → s ≡ P.n → t ≡ P.m → y ≡ P.m → sk ≡ seed + packed_length (s + t + y)
unfolding secret_key_length packed_length
secret_size P seed s t y sk e a b c d = omega arith

pub public_size : (P : Params) (seed t pk : ℕ) → pk ≡ public_key_length P → seed ≡ S P → t ≡ P.m → pk ≡ seed + packed_length t
unfolding public_key_length packed_length
public_size P seed t pk e a b = omega arith

pub secret_small : (P : Params) → Fits P → secret_key_length P ≤ 65536
unfolding secret_key_length packed_length
secret_small P f = let a = f.seed in let b = f.variables in let c = f.equations in omega arith
