-- What is laid out is read back: extracting from the bytes of a signature whose parts have their sizes gives its salt, its hashes and the opening of each repetition.
-- Assumes nothing.
use mathlib.Core.Path.{◌≡◌, sym, ap, ap₂, ◌∙◌, subst}
use mathlib.Core.List.{List, ◌++◌, flatten}
use Prim.Native.Nat.{ℕ, ◌+◌, ◌-◌, ◌*◌, ◌≤◌, ◌<◌}
use native.Mathlib.Nat.{zero-add}
use native.Mathlib.Omega.{arith}
use lib.ListN.{length, get_or, take, drop}
use Rattle.memory.specs.Sections.{pieces}
use Rattle.memory.proofs.Stands.{StandsAt, stands_self, stands_within, stands_left, stands_right, stands_read, stands_drop}
use Rattle.memory.proofs.Sections.{pieces-flatten, length-flatten}
use Rattle.field.specs.Packing.{pack, packed_length, unpack}
use Rattle.field.proofs.Packing.{length-pack, unpack-same, nib-append_left, unpack-pack}
use Rattle.sets.specs.Sets.{S}
use Rattle.sets.specs.declared.Params.{Params}
use Rattle.biscuit.specs.Signature.{Opening, Signature, repeated, shown, vectors, written, head_length, shown_length, shown_at, packing_at, vector_count, packed_vectors, opening_of, extracted}
use Rattle.biscuit.proofs.Repeated.{repeated_stands}
use Rattle.biscuit.proofs.Written.{SizedOpening, SizedSignature, length-shown, length_pair, length_pairs, length-vectors, vectors-elements, length_body}

-- two signatures that agree in all that is laid out
pub record Agree (P : Params) (σ σ' : Signature) : Type 0 where
  pub salt : σ.salt ≡ σ'.salt
  pub h₁ : σ.h₁ ≡ σ'.h₁
  pub h₂ : σ.h₂ ≡ σ'.h₂
  pub opening : (e : ℕ) → 1 ≤ e → e ≤ P.tau → σ.opening e ≡ σ'.opening e

-- an opening is its five parts
abbrev made : List (List ℕ) → List ℕ → List ℕ → List ℕ → List ℕ → Opening
made path commitment Δs Δc α = record { path = path; commitment = commitment; Δs = Δs; Δc = Δc; α = α }

pub same-opening : (o p : Opening) → o.path ≡ p.path → o.commitment ≡ p.commitment → o.Δs ≡ p.Δs → o.Δc ≡ p.Δc → o.α ≡ p.α → o ≡ p
same-opening o p a b c d e =
    let parts : made o.path o.commitment o.Δs o.Δc o.α ≡ made p.path p.commitment p.Δs p.Δc p.α = cc in
    parts

-- bytes behind a packing do not change what is read
unpack-front : (n : ℕ) (b c : List ℕ) → n ≤ length b * 2 → unpack n (b ++ c) ≡ unpack n b
unpack-front n b c h = unpack-same n (b ++ c) b (λ i g. nib-append_left b c i (omega arith))

-- what was packed is read back, whatever comes behind it
pub unpack-pack-front : (v c : List ℕ) (n : ℕ) → length v ≡ n → ((i : ℕ) → get_or v i 0 < 16) → unpack n (pack v ++ c) ≡ v
unfolding packed_length
unpack-pack-front v c n e h =
    unpack-front n (pack v) c (let l = length-pack v in omega arith) ∙ ap (λ (k : ℕ). unpack k (pack v)) (sym e) ∙ unpack-pack v h

module _ (P : Params) (σ : Signature) (z : SizedSignature P σ) where
  -- the bytes, and their tails
  x : List ℕ
  x = written P σ

  from_body : List ℕ
  from_body = repeated P.tau (λ e. shown (σ.opening e)) ++ pack (vectors P σ)

  whole : StandsAt (written P σ) 0 (σ.salt ++ (σ.h₁ ++ (σ.h₂ ++ from_body)))
  unfolding written from_body
  whole = stands_self (written P σ)

  salt_at : StandsAt (written P σ) 0 σ.salt
  salt_at = stands_left (written P σ) 0 σ.salt (σ.h₁ ++ (σ.h₂ ++ from_body)) whole

  after_salt : StandsAt (written P σ) (2 * S P) (σ.h₁ ++ (σ.h₂ ++ from_body))
  after_salt =
      subst (λ (k : ℕ). StandsAt (written P σ) k (σ.h₁ ++ (σ.h₂ ++ from_body))) (zero-add (length σ.salt) ∙ z.salt)
      (stands_right (written P σ) 0 σ.salt (σ.h₁ ++ (σ.h₂ ++ from_body)) whole)

  after_first : StandsAt (written P σ) (2 * S P + 2 * S P) (σ.h₂ ++ from_body)
  after_first =
      subst (λ (k : ℕ). StandsAt (written P σ) (2 * S P + k) (σ.h₂ ++ from_body)) z.h₁
      (stands_right (written P σ) (2 * S P) σ.h₁ (σ.h₂ ++ from_body) after_salt)

  after_second : StandsAt (written P σ) (head_length P) from_body
  unfolding head_length
  after_second =
      subst (λ (k : ℕ). StandsAt (written P σ) (2 * S P + 2 * S P + k) from_body) z.h₂
      (stands_right (written P σ) (2 * S P + 2 * S P) σ.h₂ from_body after_first)

  -- the packing of the vectors stands behind all that is shown
  packing_at_lem : StandsAt (written P σ) (packing_at P) (pack (vectors P σ))
  unfolding from_body packing_at
  packing_at_lem =
      subst (λ (k : ℕ). StandsAt (written P σ) (head_length P + k) (pack (vectors P σ))) (length_body P σ z)
      (stands_right (written P σ) (head_length P) (repeated P.tau (λ e. shown (σ.opening e))) (pack (vectors P σ)) after_second)

  pub vectors_read : packed_vectors P (written P σ) ≡ vectors P σ
  unfolding packed_vectors
  vectors_read =
      ap (unpack (vector_count P)) (stands_drop (written P σ) (packing_at P) (pack (vectors P σ)) packing_at_lem)
      ∙ unpack-pack-front (vectors P σ) _ (vector_count P) (length-vectors P σ z) (vectors-elements P σ z)

  module _ (e : ℕ) (from_one : 1 ≤ e) (within : e ≤ P.tau) where
    o : Opening
    o = σ.opening e

    sized : SizedOpening P (σ.opening e)
    sized = z.opening e from_one within

    shown_at_lem : StandsAt (written P σ) (shown_at P e) (shown (σ.opening e))
    unfolding from_body shown_at
    shown_at_lem =
        stands_within (written P σ) (head_length P) (repeated P.tau (λ i. shown (σ.opening i))) ((e - 1) * shown_length P) (shown (σ.opening e))
        (stands_left (written P σ) (head_length P) (repeated P.tau (λ i. shown (σ.opening i))) (pack (vectors P σ)) after_second)
        (repeated_stands P.tau (λ i. shown (σ.opening i)) (shown_length P) (λ i a b. length-shown P (σ.opening i) (z.opening i a b)) e from_one within)

    path_read : pieces (S P) P.l (drop (shown_at P e) (written P σ)) ≡ (σ.opening e).path
    unfolding shown
    path_read =
        let path = (σ.opening e).path in
        let at = stands_left (written P σ) (shown_at P e) (flatten path) (σ.opening e).commitment shown_at_lem in
        ap₂ (pieces (S P)) (sym sized.levels) (stands_drop (written P σ) (shown_at P e) (flatten path) at)
        ∙ pieces-flatten sized.seeds (drop (shown_at P e + length (flatten path)) (written P σ))

    commitment_read : take (2 * S P) (drop (shown_at P e + P.l * S P) (written P σ)) ≡ (σ.opening e).commitment
    unfolding shown
    commitment_read =
        let path = (σ.opening e).path in
        stands_read (written P σ) (shown_at P e + P.l * S P) (σ.opening e).commitment (2 * S P) sized.commitment
        (subst (λ (k : ℕ). StandsAt (written P σ) (shown_at P e + k) (σ.opening e).commitment)
        (length-flatten sized.seeds ∙ ap (λ (k : ℕ). k * S P) sized.levels)
        (stands_right (written P σ) (shown_at P e) (flatten path) (σ.opening e).commitment shown_at_lem))

    -- ---- in the vectors

    pairs : List ℕ
    pairs = repeated P.tau (λ i. (σ.opening i).Δs ++ (σ.opening i).Δc)

    alphas : List ℕ
    alphas = repeated P.tau (λ i. (σ.opening i).α)

    all : StandsAt (vectors P σ) 0 (pairs ++ alphas)
    unfolding vectors pairs alphas
    all = stands_self (vectors P σ)

    pair_at : StandsAt (vectors P σ) ((e - 1) * (P.n + P.m)) ((σ.opening e).Δs ++ (σ.opening e).Δc)
    unfolding pairs
    pair_at =
        subst (λ (k : ℕ). StandsAt (vectors P σ) k ((σ.opening e).Δs ++ (σ.opening e).Δc)) (zero-add ((e - 1) * (P.n + P.m)))
        (stands_within (vectors P σ) 0 pairs ((e - 1) * (P.n + P.m)) ((σ.opening e).Δs ++ (σ.opening e).Δc)
        (stands_left (vectors P σ) 0 pairs alphas all)
        (repeated_stands P.tau (λ i. (σ.opening i).Δs ++ (σ.opening i).Δc) (P.n + P.m) (length_pair P σ z) e from_one within))

    Δs-read : take P.n (drop ((e - 1) * (P.n + P.m)) (vectors P σ)) ≡ (σ.opening e).Δs
    Δs-read =
        stands_read (vectors P σ) ((e - 1) * (P.n + P.m)) (σ.opening e).Δs P.n sized.Δs
        (stands_left (vectors P σ) ((e - 1) * (P.n + P.m)) (σ.opening e).Δs (σ.opening e).Δc pair_at)

    Δc-read : take P.m (drop ((e - 1) * (P.n + P.m) + P.n) (vectors P σ)) ≡ (σ.opening e).Δc
    Δc-read =
        stands_read (vectors P σ) ((e - 1) * (P.n + P.m) + P.n) (σ.opening e).Δc P.m sized.Δc
        (subst (λ (k : ℕ). StandsAt (vectors P σ) ((e - 1) * (P.n + P.m) + k) (σ.opening e).Δc) sized.Δs
        (stands_right (vectors P σ) ((e - 1) * (P.n + P.m)) (σ.opening e).Δs (σ.opening e).Δc pair_at))

    alphas_at : StandsAt (vectors P σ) (P.tau * (P.n + P.m)) alphas
    unfolding pairs
    alphas_at =
        subst (λ (k : ℕ). StandsAt (vectors P σ) k alphas) (zero-add (length pairs) ∙ length_pairs P σ z)
        (stands_right (vectors P σ) 0 pairs alphas all)

    α-read : take P.m (drop (P.tau * (P.n + P.m) + (e - 1) * P.m) (vectors P σ)) ≡ (σ.opening e).α
    unfolding alphas
    α-read =
        stands_read (vectors P σ) (P.tau * (P.n + P.m) + (e - 1) * P.m) (σ.opening e).α P.m sized.α
        (stands_within (vectors P σ) (P.tau * (P.n + P.m)) alphas ((e - 1) * P.m) (σ.opening e).α alphas_at
        (repeated_stands P.tau (λ i. (σ.opening i).α) P.m (λ i a b. (z.opening i a b).α) e from_one within))

    pub opening_read : opening_of P (written P σ) e ≡ σ.opening e
    unfolding opening_of
    opening_read =
        same-opening _ _ path_read commitment_read
        (ap (λ (v : List ℕ). take P.n (drop ((e - 1) * (P.n + P.m)) v)) vectors_read ∙ Δs-read)
        (ap (λ (v : List ℕ). take P.m (drop ((e - 1) * (P.n + P.m) + P.n) v)) vectors_read ∙ Δc-read)
        (ap (λ (v : List ℕ). take P.m (drop (P.tau * (P.n + P.m) + (e - 1) * P.m) v)) vectors_read ∙ α-read)

  -- What is laid out is read back.
  pub extracted-written : Agree P (extracted P (written P σ)) σ
  unfolding extracted
  extracted-written = record {
    salt = stands_read (written P σ) 0 σ.salt (2 * S P) z.salt salt_at;
    h₁ = stands_read (written P σ) (2 * S P) σ.h₁ (2 * S P) z.h₁
        (stands_left (written P σ) (2 * S P) σ.h₁ (σ.h₂ ++ from_body) after_salt);
    h₂ = stands_read (written P σ) (2 * S P + 2 * S P) σ.h₂ (2 * S P) z.h₂
        (stands_left (written P σ) (2 * S P + 2 * S P) σ.h₂ from_body after_first);
    opening = λ e a b. opening_read e a b;
  }
