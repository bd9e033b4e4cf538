-- How long a signature is: where every part has its size, the bytes of document 01's layout are as many as its table says.
-- Assumes nothing.
use mathlib.Core.Path.{◌≡◌, ap, ap₂, ◌∙◌}
use mathlib.Core.List.{◌++◌, flatten}
use Prim.Native.Nat.{ℕ, ◌+◌, ◌*◌, ◌≤◌}
use native.Mathlib.Omega.{arith}
use lib.ListN.{length, length-append}
use Rattle.memory.proofs.Sections.{Each, length-flatten}
use Rattle.field.specs.Packing.{Elements, packed_length}
use Rattle.field.proofs.Packing.{length-pack}
use Rattle.sets.specs.Sets.{S, signature_length}
use Rattle.sets.specs.declared.Params.{Params}
use Rattle.biscuit.specs.Signature.{Opening, Signature, repeated, shown, vectors, written, shown_length, vector_count}
use Rattle.biscuit.proofs.Repeated.{length-repeated, append-elements, repeated-elements}

-- an opening whose parts have their sizes, and whose vectors are of elements
pub record SizedOpening (P : Params) (o : Opening) : Type 0 where
  pub levels : length o.path ≡ P.l
  pub seeds : Each (S P) o.path
  pub commitment : length o.commitment ≡ 2 * S P
  pub Δs : length o.Δs ≡ P.n
  pub Δc : length o.Δc ≡ P.m
  pub α : length o.α ≡ P.m
  pub Δs-elements : Elements o.Δs
  pub Δc-elements : Elements o.Δc
  pub α-elements : Elements o.α

-- a signature whose parts have their sizes
pub record SizedSignature (P : Params) (σ : Signature) : Type 0 where
  pub salt : length σ.salt ≡ 2 * S P
  pub h₁ : length σ.h₁ ≡ 2 * S P
  pub h₂ : length σ.h₂ ≡ 2 * S P
  pub opening : (e : ℕ) → 1 ≤ e → e ≤ P.tau → SizedOpening P (σ.opening e)

pub length-shown : (P : Params) (o : Opening) → SizedOpening P o → length (shown o) ≡ shown_length P
unfolding shown shown_length
length-shown P o z =
    length-append (flatten o.path) o.commitment
    ∙ ap₂ (λ (a b : ℕ). a + b) (length-flatten z.seeds ∙ ap (λ (k : ℕ). k * S P) z.levels) z.commitment

-- the vectors, where those of each repetition have their sizes
module _ (P : Params) (σ : Signature) (pair : (e : ℕ) → 1 ≤ e → e ≤ P.tau → length ((σ.opening e).Δs ++ (σ.opening e).Δc) ≡ P.n + P.m)
    (alpha : (e : ℕ) → 1 ≤ e → e ≤ P.tau → length (σ.opening e).α ≡ P.m) where
  pub all_pairs : length (repeated P.tau (λ e. (σ.opening e).Δs ++ (σ.opening e).Δc)) ≡ P.tau * (P.n + P.m)
  all_pairs = length-repeated P.tau _ (P.n + P.m) pair

  pub all_vectors : length (vectors P σ) ≡ vector_count P
  unfolding vectors vector_count
  all_vectors =
      length-append (repeated P.tau (λ e. (σ.opening e).Δs ++ (σ.opening e).Δc)) (repeated P.tau (λ e. (σ.opening e).α))
      ∙ ap₂ (λ (x y : ℕ). x + y) all_pairs (length-repeated P.tau _ P.m alpha)

module _ (P : Params) (σ : Signature) (z : SizedSignature P σ) where
  pub length_pair : (e : ℕ) → 1 ≤ e → e ≤ P.tau → length ((σ.opening e).Δs ++ (σ.opening e).Δc) ≡ P.n + P.m
  length_pair e a b = length-append (σ.opening e).Δs (σ.opening e).Δc ∙ ap₂ (λ (x y : ℕ). x + y) (z.opening e a b).Δs (z.opening e a b).Δc

  pub length_pairs : length (repeated P.tau (λ e. (σ.opening e).Δs ++ (σ.opening e).Δc)) ≡ P.tau * (P.n + P.m)
  length_pairs = all_pairs P σ length_pair (λ e a b. (z.opening e a b).α)

  pub length-vectors : length (vectors P σ) ≡ vector_count P
  length-vectors = all_vectors P σ length_pair (λ e a b. (z.opening e a b).α)

  pub vectors-elements : Elements (vectors P σ)
  unfolding vectors
  vectors-elements =
      append-elements (repeated P.tau (λ e. (σ.opening e).Δs ++ (σ.opening e).Δc)) (repeated P.tau (λ e. (σ.opening e).α))
      (repeated-elements P.tau _
      (λ e a b. append-elements (σ.opening e).Δs (σ.opening e).Δc (z.opening e a b).Δs-elements (z.opening e a b).Δc-elements))
      (repeated-elements P.tau _ (λ e a b. (z.opening e a b).α-elements))

  pub length_body : length (repeated P.tau (λ e. shown (σ.opening e))) ≡ P.tau * shown_length P
  length_body = length-repeated P.tau _ (shown_length P) (λ e a b. length-shown P (σ.opening e) (z.opening e a b))

  -- A signature whose parts have their sizes has as many bytes as document 01's table says.
  pub length-written : length (written P σ) ≡ signature_length P
  unfolding written signature_length shown_length vector_count
  length-written =
      let a = z.salt in
      let b = z.h₁ in
      let c = z.h₂ in
      let d = length_body in
      let e = length-pack (vectors P σ) ∙ ap packed_length length-vectors in
      simp length-append (omega arith)
