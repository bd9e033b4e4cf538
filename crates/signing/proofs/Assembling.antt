-- The sections of a signature one behind the other are its bytes; and a packing that holds every repetition's vectors at their places is the packing of all. Assumes nothing.
use mathlib.Core.Path.{◌≡◌, sym, ap, ap₂, ◌∙◌, subst}
use mathlib.Core.Bool.{Bool, cond}
use mathlib.Core.List.{List, ◌++◌, append_assoc}
use Prim.Native.Nat.{ℕ, ◌+◌, ◌-◌, ◌*◌, ◌%◌, ◌≤◌}
use native.Mathlib.Nat.{zero-add}
use native.Mathlib.Omega.{arith}
use lib.Dec.{eqb}
use lib.ListN.{length, get_or, take, drop, length-append}
use borrow.Author.Tests.{ne_eqb}
use Rattle.memory.specs.Lists.{put}
use Rattle.memory.proofs.Parts.{put_next, lent-put}
use Rattle.memory.proofs.Lists.{table_of}
use Rattle.memory.proofs.Stands.{StandsAt, stands_self, stands_joined, stands_same, part_stands}
use Rattle.field.specs.Packing.{Bytes, pack, packed_length, unpack}
use Rattle.field.proofs.Packing.{length-unpack}
use Rattle.field.proofs.Stray.{stray_cleared, pack-unpack}
use Rattle.vectors.specs.Elements.{elements_at}
use Rattle.vectors.proofs.Elements.{length-elements_at, elements_at_unpack}
use Rattle.sets.specs.declared.Params.{Params}
use Rattle.biscuit.specs.Signature.{Signature, repeated, shown, vectors, written, vector_count}
use Rattle.biscuit.proofs.Written.{all_pairs, all_vectors}
use Rattle.biscuit.proofs.Repeated.{among, stands_repeated}

-- salt, both hashes, what is shown and the packing, one behind the other
pub sections_written : (P : Params) (σ : Signature) (salt head body packing : List ℕ) → salt ≡ σ.salt → head ≡ σ.h₁ ++ σ.h₂ → body ≡ repeated P.tau (λ e. shown (σ.opening e))
    → packing ≡ pack (vectors P σ) → salt ++ (head ++ (body ++ packing)) ≡ written P σ
unfolding written
sections_written P σ salt head body packing a b c d =
    ap₂ (λ (x y : List ℕ). x ++ y) a
    (ap₂ (λ (x y : List ℕ). x ++ y) b (ap₂ (λ (x y : List ℕ). x ++ y) c d)
    ∙ append_assoc σ.h₁ σ.h₂ (repeated P.tau (λ e. shown (σ.opening e)) ++ pack (vectors P σ)))

-- packed bytes of an even number of elements are those that pack what is read from them
pack-unpack-even : (n : ℕ) (b : List ℕ) → n % 2 ≡ 0 → Bytes b → length b ≡ packed_length n → pack (unpack n b) ≡ b
unfolding stray_cleared
pack-unpack-even n b even h e =
    pack-unpack n b h
    ∙ sym (table_of b (packed_length n) (λ i. cond (eqb (i * 2 + 1) n) (get_or b i 0 % 16) (get_or b i 0)) e
    (λ i g. sym (ap (λ (t : Bool). cond t (get_or b i 0 % 16) (get_or b i 0)) (ne_eqb (i * 2 + 1) n (λ z. omega arith)))))

module _ (P : Params) (σ : Signature) (packing : List ℕ) (size : length packing ≡ packed_length (vector_count P)) (bytes : Bytes packing) (even : vector_count P % 2 ≡ 0)
    (pairs : (e : ℕ) → 1 ≤ e → e ≤ P.tau → elements_at packing ((e - 1) * (P.n + P.m)) (P.n + P.m) ≡ (σ.opening e).Δs ++ (σ.opening e).Δc)
    (hiddens : (e : ℕ) → 1 ≤ e → e ≤ P.tau → elements_at packing (P.tau * (P.n + P.m) + (e - 1) * P.m) P.m ≡ (σ.opening e).α) where
  length_pair : (e : ℕ) → 1 ≤ e → e ≤ P.tau → length ((σ.opening e).Δs ++ (σ.opening e).Δc) ≡ P.n + P.m
  length_pair e a b = ap length (sym (pairs e a b)) ∙ length-elements_at packing _ (P.n + P.m)

  length-hidden : (e : ℕ) → 1 ≤ e → e ≤ P.tau → length (σ.opening e).α ≡ P.m
  length-hidden e a b = ap length (sym (hiddens e a b)) ∙ length-elements_at packing _ P.m

  all : List ℕ
  all = unpack (vector_count P) packing

  count : length all ≡ vector_count P
  unfolding all
  count = length-unpack (vector_count P) packing

  -- elements that are read from a place on stand there
  read_stands : (k n : ℕ) (v : List ℕ) → k + n ≤ vector_count P → elements_at packing k n ≡ v → StandsAt all k v
  unfolding all
  read_stands k n v h e =
      subst (λ (u : List ℕ). StandsAt (unpack (vector_count P) packing) k u) (sym (elements_at_unpack packing k n (vector_count P) h) ∙ e)
      (part_stands (unpack (vector_count P) packing) k n (let c = count in omega arith))

  pair_stands : (e : ℕ) → 1 ≤ e → e ≤ P.tau → StandsAt all ((e - 1) * (P.n + P.m)) ((σ.opening e).Δs ++ (σ.opening e).Δc)
  unfolding vector_count
  pair_stands e a b =
      let r = among e P.tau (P.n + P.m) a b in
      read_stands ((e - 1) * (P.n + P.m)) (P.n + P.m) _ (omega arith) (pairs e a b)

  alpha_stands : (e : ℕ) → 1 ≤ e → e ≤ P.tau → StandsAt all (P.tau * (P.n + P.m) + (e - 1) * P.m) (σ.opening e).α
  unfolding vector_count
  alpha_stands e a b =
      let r = among e P.tau P.m a b in
      read_stands (P.tau * (P.n + P.m) + (e - 1) * P.m) P.m _ (omega arith) (hiddens e a b)

  vectors_stand : StandsAt all 0 (vectors P σ)
  unfolding vectors vector_count
  vectors_stand =
      let c = count in
      stands_joined all 0 (repeated P.tau (λ e. (σ.opening e).Δs ++ (σ.opening e).Δc)) (repeated P.tau (λ e. (σ.opening e).α))
      (stands_repeated all 0 P.tau (λ e. (σ.opening e).Δs ++ (σ.opening e).Δc) (P.n + P.m) (omega arith) length_pair
      (λ e a b. subst (λ (j : ℕ). StandsAt all j ((σ.opening e).Δs ++ (σ.opening e).Δc)) (sym (zero-add ((e - 1) * (P.n + P.m)))) (pair_stands e a b)))
      (subst (λ (j : ℕ). StandsAt all j (repeated P.tau (λ e. (σ.opening e).α))) (sym (zero-add _ ∙ all_pairs P σ length_pair length-hidden))
      (stands_repeated all (P.tau * (P.n + P.m)) P.tau (λ e. (σ.opening e).α) P.m (omega arith) length-hidden alpha_stands))

  -- the packing of all vectors
  pub packing_written : packing ≡ pack (vectors P σ)
  unfolding all
  packing_written =
      sym (pack-unpack-even (vector_count P) packing even bytes size)
      ∙ ap pack (stands_same all 0 all (vectors P σ) (count ∙ sym (all_vectors P σ length_pair length-hidden)) (stands_self all) vectors_stand)

-- a part that was overwritten whole
pub copied : (x : List ℕ) (a e : ℕ) (src new : List ℕ) → length src ≡ e - a → new ≡ src → take a x ++ (new ++ drop (e - a) (drop a x)) ≡ put x a src
copied x a e src new h n = ap (λ (l : List ℕ). take a x ++ (l ++ drop (e - a) (drop a x))) n ∙ lent-put x a e src h

-- three parts copied one behind the other to the start
pub three_copied : (x u v w x₁ x₂ x₃ : List ℕ) (a b : ℕ) → length u + length v + length w ≤ length x → a ≡ length u → b ≡ a + length v
    → x₁ ≡ put x 0 u → x₂ ≡ put x₁ a v → x₃ ≡ put x₂ b w → x₃ ≡ put x 0 (u ++ (v ++ w))
three_copied x u v w x₁ x₂ x₃ a b fits e d h₁ h₂ h₃ =
    h₃
    ∙ ap₂ (λ (l : List ℕ) (k : ℕ). put l k w)
    (h₂ ∙ ap₂ (λ (l : List ℕ) (k : ℕ). put l k v) h₁ (e ∙ sym (zero-add (length u))) ∙ put_next x 0 u (omega arith) v)
    (d ∙ ap (λ (k : ℕ). k + length v) e ∙ sym (length-append u v) ∙ sym (zero-add (length (u ++ v))))
    ∙ put_next x 0 (u ++ v) (let l = length-append u v in omega arith) w
    ∙ ap (put x 0) (append_assoc u v w)
