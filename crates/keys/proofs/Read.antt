-- What is read of a secret key's bytes: its elements, whether it is consistent, and its public half.
-- Assumes nothing.
use mathlib.Core.Path.{◌≡◌, sym, ap, ap₂, ◌∙◌, subst}
use mathlib.Core.Bool.{Bool, true, false, ◌&&◌, cond}
use mathlib.Core.List.{List, ◌++◌}
use Prim.Native.Nat.{ℕ, ◌+◌, ◌-◌, ◌/◌, ◌≤◌}
use native.Mathlib.Nat.{sub-zero}
use native.Mathlib.Omega.{arith}
use lib.ListN.{length, take, drop, length-drop}
use lib.Seq.{take_all, length-take-le}
use Rattle.memory.specs.Lists.{same}
use Rattle.field.specs.Packing.{pack, packed_length, unpack}
use Rattle.sponge.specs.Sponge.{shake256}
use Rattle.sets.specs.Sets.{S, secret_key_length, public_key_length}
use Rattle.sets.specs.declared.Params.{Params}
use Rattle.forms.specs.Circuit.{Circuit, Evaluation, expand_circuit, eval_circuit}
use Rattle.forms.specs.Room.{circuit_length, HoldsCircuit}
use Rattle.forms.proofs.Room.{expanded_circuit}
use Rattle.biscuit.specs.Keys.{circuit, packed_secret, secret_key_of, consistent, consistent_key, public_bytes, public_of, public_half}
use Rattle.biscuit.proofs.Keys.{length_packed}

-- ---- elements

-- the seed stands in the key
pub seed_inside : (P : Params) (sk : List ℕ) → length sk ≡ secret_key_length P → P.bits / 8 ≤ length sk
unfolding secret_key_length S
seed_inside P sk h = omega arith

pub elements_read : (P : Params) (sk : List ℕ) (n : ℕ) → n ≡ P.n + P.m + P.m
    → unpack n (take (length sk - P.bits / 8) (drop (P.bits / 8) sk)) ≡ packed_secret P sk
unfolding packed_secret S
elements_read P sk n e = ap₂ unpack e (take_all (length sk - P.bits / 8) (drop (P.bits / 8) sk) (simp length-drop (omega arith)))

-- ---- consistent

-- two comparisons with what the circuit gives, of parts as they are lent
pub compared : (n m : ℕ) (secret : List ℕ) (f : Circuit) (a b : Bool) (u v : List ℕ) → eval_circuit (take (n - 0) secret) f ≡ record { y = v; t = u }
    → a ≡ same (take (n + m - n) (drop n secret)) u → b ≡ same (take (n + m + m - (n + m)) (drop (n + m) secret)) v
    → a && b
    ≡ same (take m (drop n secret)) (eval_circuit (take n secret) f).t && same (take m (drop (n + m) secret)) (eval_circuit (take n secret) f).y
compared n m secret f a b u v e h k =
    ap₂ ◌&&◌ (h ∙ ap₂ (λ (i : ℕ) (x : List ℕ). same (take i (drop n secret)) x) first (sym (ap (λ (x : Evaluation). x.t) all)))
    (k ∙ ap₂ (λ (i : ℕ) (x : List ℕ). same (take i (drop (n + m) secret)) x) second (sym (ap (λ (x : Evaluation). x.y) all)))
  where
    first : n + m - n ≡ m
    first = omega arith

    second : n + m + m - (n + m) ≡ m
    second = omega arith

    all : eval_circuit (take n secret) f ≡ record { y = v; t = u }
    all = ap (λ (i : ℕ). eval_circuit (take i secret) f) (sym (sub-zero n)) ∙ e

-- the circuit's bytes, of the seed as it is lent
pub circuit-bytes : (P : Params) (sk bytes : List ℕ) (k : ℕ) → bytes ≡ shake256 (take (P.bits / 8 - 0) sk) k → k ≡ circuit_length P.n P.m
    → bytes ≡ shake256 (take (S P) sk) (circuit_length P.n P.m)
unfolding S
circuit-bytes P sk bytes k e h = e ∙ ap₂ (λ (i j : ℕ). shake256 (take i sk) j) (sub-zero (P.bits / 8)) h

-- of a key's elements and the circuit of its own seed
pub consistent_told : (P : Params) (sk secret bytes : List ℕ) (r : Bool) → secret ≡ packed_secret P sk
    → bytes ≡ shake256 (take (S P) sk) (circuit_length P.n P.m)
    → ((f : Circuit) → HoldsCircuit P.n P.m f bytes
    → r ≡ same (take P.m (drop P.n secret)) (eval_circuit (take P.n secret) f).t && same (take P.m (drop (P.n + P.m) secret)) (eval_circuit (take P.n secret) f).y)
    → r ≡ consistent_key P sk
unfolding consistent_key consistent secret_key_of circuit
consistent_told P sk secret bytes r e b h =
    h (expand_circuit (take (S P) sk) P.n P.m) held
    ∙ ap (λ (x : List ℕ). same (take P.m (drop P.n x)) (eval_circuit (take P.n x) f).t && same (take P.m (drop (P.n + P.m) x)) (eval_circuit (take P.n x) f).y) e
  where
    f : Circuit
    f = expand_circuit (take (S P) sk) P.n P.m

    held : HoldsCircuit P.n P.m (expand_circuit (take (S P) sk) P.n P.m) bytes
    held = subst (λ (x : List ℕ). HoldsCircuit P.n P.m (expand_circuit (take (S P) sk) P.n P.m) x) (sym b) (expanded_circuit (take (S P) sk) P.n P.m (circuit_length P.n P.m) (omega arith))

-- ---- the public half

pub half_size : (P : Params) (sk secret : List ℕ) (size : ℕ) → length sk ≡ secret_key_length P → secret ≡ packed_secret P sk → size ≡ public_key_length P
    → size ≡ length (take (P.bits / 8 - 0) sk) + packed_length (length (take (P.n + P.m - P.n) (drop P.n secret)))
unfolding public_key_length S
half_size P sk secret size h e g =
    g
    ∙ ap₂ (λ (a b : ℕ). a + packed_length b)
    (sym (length-take-le (P.bits / 8 - 0) sk (let i = seed_inside P sk h in omega arith) ∙ sub-zero (P.bits / 8)))
    (sym (length-take-le (P.n + P.m - P.n) (drop P.n secret) (let l = ap length e ∙ length_packed P sk in simp length-drop (omega arith)) ∙ count))
  where
    count : P.n + P.m - P.n ≡ P.m
    count = omega arith

pub half_bytes : (P : Params) (sk secret pk : List ℕ) → secret ≡ packed_secret P sk
    → pk ≡ take (P.bits / 8 - 0) sk ++ pack (take (P.n + P.m - P.n) (drop P.n secret)) → pk ≡ public_half P sk
unfolding public_half public_bytes public_of secret_key_of S
half_bytes P sk secret pk e h =
    h
    ∙ ap₂ (λ (i j : ℕ). take i sk ++ pack (take j (drop P.n secret))) (sub-zero (P.bits / 8)) (let c : P.n + P.m - P.n ≡ P.m = omega arith in c)
    ∙ ap (λ (x : List ℕ). take (P.bits / 8) sk ++ pack (take P.m (drop P.n x))) e

-- written where the key is consistent, and kept where it is not
pub half_written : (b : Bool) (new old pk : List ℕ) → b ≡ true → pk ≡ new → pk ≡ cond b new old
half_written b new old pk e h = h ∙ ap (λ (x : Bool). cond x new old) (sym e)

pub half_kept : (b : Bool) (new old : List ℕ) → b ≡ false → old ≡ cond b new old
half_kept b new old e = ap (λ (x : Bool). cond x new old) (sym e)
