-- The elements that a repetition reads are those that algorithm 13 extracts; and laid one after another they are read off again.
-- Assumes nothing.
use mathlib.Core.Path.{◌≡◌, sym, ap, ap₂, ◌∙◌, subst}
use mathlib.Core.List.{List, ◌++◌, append_assoc}
use Prim.Native.Nat.{ℕ, ◌+◌, ◌-◌, ◌*◌, ◌/◌, ◌≤◌}
use native.Mathlib.Nat.{add_assoc}
use native.Mathlib.Omega.{arith}
use lib.ListN.{length, take, drop, length-append, length-drop}
use lib.Seq.{take_at, drop_at, drop-drop, take_all, length-take-le}
use Rattle.memory.specs.Lists.{table}
use Rattle.memory.proofs.Lists.{table-add, table_same}
use Rattle.field.specs.Packing.{Elements, nib, packed_length, unpack}
use Rattle.field.proofs.Packing.{length-unpack, get_or-unpack, nib-drop, unpack-elements}
use Rattle.sets.specs.Sets.{S}
use Rattle.sets.specs.declared.Params.{Params}
use Rattle.forms.specs.Sampling.{sample_elements, expand_elements}
use Rattle.forms.specs.Room.{challenge_in}
use Rattle.parties.specs.Repetition.{challenge}
use Rattle.biscuit.specs.Keys.{PublicKey, public_key_of}
use Rattle.biscuit.specs.Signature.{Signature, packing_at, vector_count, packed_vectors, opening_of, extracted}
use Rattle.biscuit.specs.Verify.{ε}
use Rattle.biscuit.proofs.Places.{Δs-at, Δc-at, α-at}
use Rattle.biscuit.proofs.Repeated.{among, append-elements, take-elements, drop-elements}
use Rattle.vectors.specs.Elements.{elements_at}
use Rattle.vectors.proofs.Elements.{elements_at_of, elements_at_first}
use Rattle.turns.specs.declared.claim.Repetition.{Repetition}
use Rattle.turns.specs.Turns.{key_of, signature_of, values_of}

read_two : (b : List ℕ) (at n m : ℕ) → elements_at b at (n + m) ≡ elements_at b at n ++ elements_at b (at + n) m
unfolding elements_at
read_two b at n m =
    table-add n m (λ k. nib b (at + k))
    ∙ ap (λ (x : List ℕ). table n (λ k. nib b (at + k)) ++ x)
    (table_same m (λ k. nib b (at + (n + k))) (λ k. nib b (at + n + k)) (λ k h. ap (nib b) (sym (add_assoc at n k))))

-- ---- the lengths of what is extracted

module _ (P : Params) (x : List ℕ) (e : ℕ) (from_one : 1 ≤ e) (within : e ≤ P.tau) where
  pub length_Δs : length (opening_of P x e).Δs ≡ P.n
  unfolding opening_of packed_vectors vector_count
  length_Δs =
      let r = among e P.tau (P.n + P.m) from_one within in
      let u = length-unpack (P.tau * (P.n + P.m) + P.tau * P.m) (drop (packing_at P) x) in
      length-take-le P.n _ (simp length-drop (omega arith))

  pub length_Δc : length (opening_of P x e).Δc ≡ P.m
  unfolding opening_of packed_vectors vector_count
  length_Δc =
      let r = among e P.tau (P.n + P.m) from_one within in
      let u = length-unpack (P.tau * (P.n + P.m) + P.tau * P.m) (drop (packing_at P) x) in
      length-take-le P.m _ (simp length-drop (omega arith))

  pub length_α : length (opening_of P x e).α ≡ P.m
  unfolding opening_of packed_vectors vector_count
  length_α =
      let r = among e P.tau P.m from_one within in
      let u = length-unpack (P.tau * (P.n + P.m) + P.tau * P.m) (drop (packing_at P) x) in
      length-take-le P.m _ (simp length-drop (omega arith))

  -- ---- what is read of a signature, from the packed vectors on

  pub corrections_read : (b : List ℕ) → b ≡ drop (packing_at P) x → elements_at b ((e - 1) * (P.n + P.m)) (P.n + P.m) ≡ (opening_of P x e).Δs ++ (opening_of P x e).Δc
  corrections_read b q =
      ap (λ (y : List ℕ). elements_at y ((e - 1) * (P.n + P.m)) (P.n + P.m)) q
      ∙ read_two (drop (packing_at P) x) ((e - 1) * (P.n + P.m)) P.n P.m
      ∙ ap₂ (λ (y z : List ℕ). y ++ z)
      (sym (elements_at_of (opening_of P x e).Δs (drop (packing_at P) x) ((e - 1) * (P.n + P.m)) P.n length_Δs (Δs-at P x e from_one within)))
      (sym (elements_at_of (opening_of P x e).Δc (drop (packing_at P) x) ((e - 1) * (P.n + P.m) + P.n) P.m length_Δc (Δc-at P x e from_one within)))

  pub alpha_read : (b : List ℕ) → b ≡ drop (packing_at P) x → elements_at b (P.tau * (P.n + P.m) + (e - 1) * P.m) P.m ≡ (opening_of P x e).α
  alpha_read b q =
      ap (λ (y : List ℕ). elements_at y (P.tau * (P.n + P.m) + (e - 1) * P.m) P.m) q
      ∙ sym (elements_at_of (opening_of P x e).α (drop (packing_at P) x) (P.tau * (P.n + P.m) + (e - 1) * P.m) P.m length_α (α-at P x e from_one within))

-- ---- the challenge and t

pub challenge_read : (m : ℕ) (b : List ℕ) (e : ℕ) → elements_at b ((e - 1) * ((m + 1) / 2) * 2) m ≡ challenge_in m b e
unfolding challenge_in packed_length
challenge_read m b e =
    sym (elements_at_of (unpack m (drop ((e - 1) * ((m + 1) / 2)) b)) b ((e - 1) * ((m + 1) / 2) * 2) m (length-unpack m (drop ((e - 1) * ((m + 1) / 2)) b))
    (λ k h. get_or-unpack m (drop ((e - 1) * ((m + 1) / 2)) b) k h ∙ nib-drop ((e - 1) * ((m + 1) / 2)) b k))

pub target_read : (P : Params) (x b : List ℕ) → b ≡ drop (S P) x → elements_at b 0 P.m ≡ (public_key_of P x).t
unfolding public_key_of
target_read P x b q =
    ap (λ (y : List ℕ). elements_at y 0 P.m) q ∙ elements_at_first (drop (S P) x) P.m

-- the rest of a list, lent as a part
pub lent-rest : (x : List ℕ) (a : ℕ) → take (length x - a) (drop a x) ≡ drop a x
lent-rest x a = take_all (length x - a) (drop a x) (simp length-drop (omega arith))

-- ---- five vectors one after another

pub record Cut (n m : ℕ) (v a b c d f : List ℕ) : Type 0 where
  pub first : take n v ≡ a
  pub second : take m (drop n v) ≡ b
  pub third : take m (drop (n + m) v) ≡ c
  pub fourth : take m (drop (n + m + m) v) ≡ d
  pub fifth : take m (drop (n + m + m + m) v) ≡ f

pub cut : (n m : ℕ) (v a b c d f : List ℕ) → length a ≡ n → length b ≡ m → length c ≡ m → length d ≡ m → length f ≡ m → v ≡ (a ++ b) ++ (c ++ (d ++ f)) → Cut n m v a b c d f
cut n m v a b c d f la lb lc ld lf is = record {
  first = ap (take n) all ∙ take_at a (b ++ (c ++ (d ++ f))) n la;
  second = ap (take m) behind-one ∙ take_at b (c ++ (d ++ f)) m lb;
  third = ap (take m) behind_two ∙ take_at c (d ++ f) m lc;
  fourth = ap (take m) behind_three ∙ take_at d f m ld;
  fifth = ap (take m) (sym (drop-drop m (n + m + m) v) ∙ ap (drop m) behind_three ∙ drop_at d f m ld) ∙ take_all m f (omega arith);
}
  where
    all : v ≡ a ++ (b ++ (c ++ (d ++ f)))
    all = is ∙ append_assoc a b (c ++ (d ++ f))

    behind-one : drop n v ≡ b ++ (c ++ (d ++ f))
    behind-one = ap (drop n) all ∙ drop_at a (b ++ (c ++ (d ++ f))) n la

    behind_two : drop (n + m) v ≡ c ++ (d ++ f)
    behind_two = sym (drop-drop m n v) ∙ ap (drop m) behind-one ∙ drop_at b (c ++ (d ++ f)) m lb

    behind_three : drop (n + m + m) v ≡ d ++ f
    behind_three = sym (drop-drop m (n + m) v) ∙ ap (drop m) behind_two ∙ drop_at c (d ++ f) m lc

-- ---- the values of a repetition

module _ (P : Params) (key : PublicKey) (σ : Signature) (e : ℕ) where
  length_ε : length (ε P key σ e) ≡ P.m
  unfolding ε challenge expand_elements sample_elements
  length_ε = length-unpack P.m _

  ε-elements : Elements (ε P key σ e)
  unfolding ε challenge expand_elements sample_elements
  ε-elements = unpack-elements P.m _

module _ (P : Params) (x : List ℕ) (e : ℕ) where
  all_elements : Elements (packed_vectors P x)
  unfolding packed_vectors
  all_elements = unpack-elements (vector_count P) (drop (packing_at P) x)

  Δs-elements : Elements (opening_of P x e).Δs
  unfolding opening_of
  Δs-elements = take-elements P.n (drop ((e - 1) * (P.n + P.m)) (packed_vectors P x)) (drop-elements ((e - 1) * (P.n + P.m)) (packed_vectors P x) all_elements)

  Δc-elements : Elements (opening_of P x e).Δc
  unfolding opening_of
  Δc-elements =
      take-elements P.m (drop ((e - 1) * (P.n + P.m) + P.n) (packed_vectors P x))
      (drop-elements ((e - 1) * (P.n + P.m) + P.n) (packed_vectors P x) all_elements)

  α-elements : Elements (opening_of P x e).α
  unfolding opening_of
  α-elements =
      take-elements P.m (drop (P.tau * (P.n + P.m) + (e - 1) * P.m) (packed_vectors P x))
      (drop-elements (P.tau * (P.n + P.m) + (e - 1) * P.m) (packed_vectors P x) all_elements)

module _ (P : Params) (pk : List ℕ) where
  length_t : length (public_key_of P pk).t ≡ P.m
  unfolding public_key_of
  length_t = length-unpack P.m (drop (S P) pk)

  t-elements : Elements (public_key_of P pk).t
  unfolding public_key_of
  t-elements = unpack-elements P.m (drop (S P) pk)

module _ (r : Repetition) (v : List ℕ) (is : v ≡ values_of r.claim.p (key_of r.claim) (signature_of r.claim) r.e) where
  -- they are five vectors
  pub values_cut : Cut r.claim.p.n r.claim.p.m v (opening_of r.claim.p r.claim.signature.now r.e).Δs (opening_of r.claim.p r.claim.signature.now r.e).Δc
      (ε r.claim.p (key_of r.claim) (signature_of r.claim) r.e) (key_of r.claim).t (opening_of r.claim.p r.claim.signature.now r.e).α
  unfolding values_of extracted
  values_cut =
      cut r.claim.p.n r.claim.p.m v _ _ _ _ _
      (length_Δs r.claim.p r.claim.signature.now r.e r.from_one r.within)
      (length_Δc r.claim.p r.claim.signature.now r.e r.from_one r.within)
      (length_ε r.claim.p (key_of r.claim) (signature_of r.claim) r.e)
      (length_t r.claim.p r.claim.pk.now)
      (length_α r.claim.p r.claim.signature.now r.e r.from_one r.within) is

  pub length_values : length v ≡ r.claim.p.n + 4 * r.claim.p.m
  unfolding values_of extracted
  length_values =
      let a = length_Δs r.claim.p r.claim.signature.now r.e r.from_one r.within in
      let b = length_Δc r.claim.p r.claim.signature.now r.e r.from_one r.within in
      let c = length_ε r.claim.p (key_of r.claim) (signature_of r.claim) r.e in
      let t = length_t r.claim.p r.claim.pk.now in
      let d = length_α r.claim.p r.claim.signature.now r.e r.from_one r.within in
      let l = simp length-append at (ap length is) in
      omega arith

  pub values-elements : Elements v
  unfolding values_of extracted
  values-elements =
      subst Elements (sym is)
      (append-elements _ _ (append-elements _ _ (Δs-elements r.claim.p r.claim.signature.now r.e) (Δc-elements r.claim.p r.claim.signature.now r.e))
      (append-elements _ _ (ε-elements r.claim.p (key_of r.claim) (signature_of r.claim) r.e)
      (append-elements _ _ (t-elements r.claim.p r.claim.pk.now) (α-elements r.claim.p r.claim.signature.now r.e))))

-- the values as they are read
pub values_read : (r : Repetition) (v c : List ℕ)
    → v ≡ ((opening_of r.claim.p r.claim.signature.now r.e).Δs ++ (opening_of r.claim.p r.claim.signature.now r.e).Δc) ++ (c ++ ((key_of r.claim).t ++ (opening_of r.claim.p r.claim.signature.now r.e).α))
    → c ≡ ε r.claim.p (key_of r.claim) (signature_of r.claim) r.e → v ≡ values_of r.claim.p (key_of r.claim) (signature_of r.claim) r.e
unfolding values_of extracted
values_read r v c is ec =
    is ∙ ap (λ (y : List ℕ). ((opening_of r.claim.p r.claim.signature.now r.e).Δs ++ (opening_of r.claim.p r.claim.signature.now r.e).Δc) ++ (y ++ ((key_of r.claim).t ++ (opening_of r.claim.p r.claim.signature.now r.e).α))) ec
