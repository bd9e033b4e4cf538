-- A signer's secret and circuit, as they are read from a consistent secret key. Assumes nothing.
use mathlib.Core.Path.{◌≡◌, refl, sym, ap, ◌∙◌, subst}
use mathlib.Core.Bool.{Bool, true, false, cond}
use mathlib.Core.List.{List, ◌++◌}
use Prim.Native.Nat.{ℕ, ◌+◌, ◌-◌}
use native.Mathlib.Nat.{le_refl}
use lib.ListN.{length, take, drop}
use lib.Seq.{take_at}
use Rattle.field.specs.Packing.{Elements}
use Rattle.field.proofs.Packing.{unpack-elements}
use Rattle.sponge.specs.Sponge.{shake256}
use Rattle.sponge.proofs.Laws.{length-shake256}
use Rattle.sets.specs.Sets.{S}
use Rattle.sets.specs.declared.Params.{Params}
use Rattle.forms.specs.Room.{circuit_length, HoldsCircuit}
use Rattle.forms.proofs.Room.{expanded_circuit}
use Rattle.biscuit.specs.Keys as keys
use Rattle.biscuit.specs.Keys.{packed_secret, secret_key_of}
use Rattle.biscuit.specs.Room.{leaves_at}
use Rattle.biscuit.specs.Sign.{f, signed, signer_of, sign, signature}
use Rattle.biscuit.specs.Signature.{written}
use Rattle.passes.specs.Passes.{HoldsSecret, s_in, t_in, y_in}

module _ (P : Params) (sk rnd msg : List ℕ) where
  pub keyed-secret : (secret : List ℕ) → secret ≡ packed_secret P sk → HoldsSecret P (signer_of P sk rnd msg) (signer_of P sk rnd msg).salt secret
  unfolding signer_of secret_key_of s_in t_in y_in
  keyed-secret secret e = record {
    salted = refl;
    s = ap (take P.n) (sym e);
    t = ap (λ (v : List ℕ). take P.m (drop P.n v)) (sym e);
    y = ap (λ (v : List ℕ). take P.m (drop (P.n + P.m) v)) (sym e);
  }

  pub keyed-elements : (secret : List ℕ) → secret ≡ packed_secret P sk → Elements secret
  unfolding packed_secret
  keyed-elements secret e = subst Elements (sym e) (unpack-elements (P.n + P.m + P.m) (drop (S P) sk))

  pub keyed-circuit : (circuit work : List ℕ) (e : ℕ) → circuit ≡ shake256 (take (S P) sk) (circuit_length P.n P.m)
      → HoldsCircuit P.n P.m (f P (signer_of P sk rnd msg)) (take (leaves_at P) (circuit ++ drop (e - 0) work))
  unfolding leaves_at f keys.circuit signer_of secret_key_of
  keyed-circuit circuit work e h =
      subst (HoldsCircuit P.n P.m (keys.circuit P (take (S P) sk)))
      (sym (take_at circuit (drop (e - 0) work) (circuit_length P.n P.m) (ap length h ∙ length-shake256 _ _) ∙ h))
      (expanded_circuit (take (S P) sk) P.n P.m (circuit_length P.n P.m) (le_refl _))

  -- the bytes that algorithm 12 gives are those of what its signer signs
  pub signature-signed : written P (signed P (signer_of P sk rnd msg) msg) ≡ signature P sk rnd msg
  unfolding signature sign
  signature-signed = refl

  -- what was written is the signature, and what was not is as before
  pub wrote : (x old : List ℕ) (answer : Bool) → x ≡ signature P sk rnd msg → true ≡ answer → x ≡ cond answer (signature P sk rnd msg) old
  wrote x old answer e t = e ∙ ap (λ (b : Bool). cond b (signature P sk rnd msg) old) t

  pub left_alone : (old : List ℕ) (answer : Bool) → false ≡ answer → old ≡ cond answer (signature P sk rnd msg) old
  left_alone old answer t = ap (λ (b : Bool). cond b (signature P sk rnd msg) old) t
