-- The laws of keys: how long they are, that a reader gets back what was written, that a made key is consistent, and that its public half is the public key made with it.
-- Assumes nothing.
use mathlib.Core.Path.{◌≡◌, refl, sym, ap, ap₂, ◌∙◌, subst}
use mathlib.Core.Bool.{Bool, true, false, ◌&&◌}
use mathlib.Core.List.{List, ◌++◌}
use Prim.Native.Nat.{ℕ, ◌+◌}
use native.Mathlib.Nat.{zero-add, add_assoc}
use native.Mathlib.Omega.{arith}
use lib.ListN.{length, take, drop, length-append, length-drop}
use lib.Seq.{take_at, drop_at, length-take-le}
use Rattle.memory.specs.Lists.{same}
use Rattle.memory.proofs.Comparing.{same_equal, equal_same}
use Rattle.memory.proofs.Stands.{StandsAt, stands_self, stands_left, stands_right, stands_read}
use Rattle.field.specs.Packing.{Elements, pack, packed_length, unpack}
use Rattle.field.proofs.Packing.{length-pack, length-unpack, unpack-elements, unpack-pack}
use Rattle.sets.specs.Sets.{S, secret_key_length, public_key_length}
use Rattle.sets.specs.declared.Params.{Params}
use Rattle.forms.specs.Circuit.{eval_circuit, Consistent}
use Rattle.forms.proofs.Sampling.{length-expand_elements, expand_elements-elements}
use Rattle.forms.proofs.Circuit.{Equations, ElementConstants, eval_circuit-t, eval_circuit-y, length-evaluate, length-affine, evaluate-elements, affine-elements, expand_circuit-equations, expand_circuit-elements}
use Rattle.biscuit.specs.Keys.{SecretKey, PublicKey, circuit, secret_of, key_gen, secret_bytes, public_bytes, public_of, secret_key, public_key, packed_secret, secret_key_of, public_key_of, consistent, consistent_key, public_half}
use Rattle.biscuit.proofs.Repeated.{append-elements, take-elements, drop-elements}

-- a key whose parts have their sizes
pub record SizedKey (P : Params) (key : SecretKey) : Type 0 where
  pub seed_f : length key.seed_f ≡ S P
  pub s : length key.s ≡ P.n
  pub t : length key.t ≡ P.m
  pub y : length key.y ≡ P.m
  pub s-elements : Elements key.s
  pub t-elements : Elements key.t
  pub y-elements : Elements key.y

-- ---- lengths

pub length-secret_bytes : (P : Params) (key : SecretKey) → SizedKey P key → length (secret_bytes key) ≡ secret_key_length P
unfolding secret_bytes secret_key_length
length-secret_bytes P key z =
    simp (length-append, length-pack, z.seed_f, z.s, z.t, z.y)
    (ap (λ (k : ℕ). S P + packed_length k) (sym (add_assoc P.n P.m P.m)))

pub length-public_bytes : (P : Params) (key : PublicKey) → length key.seed_f ≡ S P → length key.t ≡ P.m → length (public_bytes key) ≡ public_key_length P
unfolding public_bytes public_key_length
length-public_bytes P key f t =
    length-append key.seed_f (pack key.t) ∙ ap₂ (λ (a b : ℕ). a + b) f (length-pack key.t ∙ ap packed_length t)

-- ---- what is written is read back

abbrev of_parts : List ℕ → List ℕ → List ℕ → List ℕ → SecretKey
of_parts seed_f s t y = record { seed_f = seed_f; s = s; t = t; y = y }

same-secret : (k l : SecretKey) → k.seed_f ≡ l.seed_f → k.s ≡ l.s → k.t ≡ l.t → k.y ≡ l.y → k ≡ l
same-secret k l a b c d =
    let parts : of_parts k.seed_f k.s k.t k.y ≡ of_parts l.seed_f l.s l.t l.y = cc in
    parts

same_public : (k l : PublicKey) → k.seed_f ≡ l.seed_f → k.t ≡ l.t → k ≡ l
same_public k l a b = ap₂ {C = PublicKey} (λ (f t : List ℕ). record { seed_f = f; t = t }) a b

module _ (P : Params) (key : SecretKey) (z : SizedKey P key) where
  v : List ℕ
  v = key.s ++ (key.t ++ key.y)

  length_v : length v ≡ P.n + P.m + P.m
  unfolding v
  length_v = let a = z.s in let b = z.t in let c = z.y in simp length-append (omega arith)

  v_elements : Elements v
  unfolding v
  v_elements = append-elements key.s (key.t ++ key.y) z.s-elements (append-elements key.t key.y z.t-elements z.y-elements)

  packed_read : packed_secret P (secret_bytes key) ≡ v
  unfolding packed_secret secret_bytes v
  packed_read =
      ap (unpack (P.n + P.m + P.m)) (drop_at key.seed_f (pack v) (S P) z.seed_f)
      ∙ ap (λ (n : ℕ). unpack n (pack v)) (sym length_v) ∙ unpack-pack v v_elements

  all : StandsAt v 0 (key.s ++ (key.t ++ key.y))
  unfolding v
  all = stands_self v

  after_s : StandsAt v P.n (key.t ++ key.y)
  after_s =
      subst (λ (k : ℕ). StandsAt v k (key.t ++ key.y)) (zero-add (length key.s) ∙ z.s)
      (stands_right v 0 key.s (key.t ++ key.y) all)

  y_at : StandsAt v (P.n + P.m) key.y
  y_at = subst (λ (k : ℕ). StandsAt v (P.n + k) key.y) z.t (stands_right v P.n key.t key.y after_s)

  -- A secret key is read back as it was written.
  pub secret_key_of-secret_bytes : secret_key_of P (secret_bytes key) ≡ key
  unfolding secret_key_of secret_bytes
  secret_key_of-secret_bytes =
      same-secret _ _
      (take_at key.seed_f (pack (key.s ++ (key.t ++ key.y))) (S P) z.seed_f)
      (ap (take P.n) packed_read ∙ stands_read v 0 key.s P.n z.s (stands_left v 0 key.s (key.t ++ key.y) all))
      (ap (λ (l : List ℕ). take P.m (drop P.n l)) packed_read
      ∙ stands_read v P.n key.t P.m z.t (stands_left v P.n key.t key.y after_s))
      (ap (λ (l : List ℕ). take P.m (drop (P.n + P.m) l)) packed_read ∙ stands_read v (P.n + P.m) key.y P.m z.y y_at)

-- A public key is read back as it was written.
pub public_key_of-public_bytes : (P : Params) (key : PublicKey) → length key.seed_f ≡ S P → length key.t ≡ P.m → Elements key.t
    → public_key_of P (public_bytes key) ≡ key
unfolding public_key_of public_bytes
public_key_of-public_bytes P key f t h =
    same_public _ _ (take_at key.seed_f (pack key.t) (S P) f)
    (ap (unpack P.m) (drop_at key.seed_f (pack key.t) (S P) f) ∙ ap (λ (n : ℕ). unpack n (pack key.t)) (sym t) ∙ unpack-pack key.t h)

-- ---- what a reader gets has its sizes

module _ (P : Params) (sk : List ℕ) where
  pub length_packed : length (packed_secret P sk) ≡ P.n + P.m + P.m
  unfolding packed_secret
  length_packed = length-unpack (P.n + P.m + P.m) (drop (S P) sk)

  elements : Elements (packed_secret P sk)
  unfolding packed_secret
  elements = unpack-elements (P.n + P.m + P.m) (drop (S P) sk)

  -- Whatever the bytes of a secret key of the right length, a reader gets parts of the right sizes.
  pub secret_key_of-sized : length sk ≡ secret_key_length P → SizedKey P (secret_key_of P sk)
  unfolding secret_key_of secret_key_length
  secret_key_of-sized h = record {
    seed_f = length-take-le (S P) sk (omega arith);
    s = length-take-le P.n (packed_secret P sk) (let c = length_packed in omega arith);
    t = length-take-le P.m (drop P.n (packed_secret P sk)) (let c = length_packed in simp length-drop (omega arith));
    y = length-take-le P.m (drop (P.n + P.m) (packed_secret P sk)) (let c = length_packed in simp length-drop (omega arith));
    s-elements = take-elements P.n (packed_secret P sk) elements;
    t-elements = take-elements P.m (drop P.n (packed_secret P sk)) (drop-elements P.n (packed_secret P sk) elements);
    y-elements = take-elements P.m (drop (P.n + P.m) (packed_secret P sk)) (drop-elements (P.n + P.m) (packed_secret P sk) elements);
  }

  pub length-public_half : length sk ≡ secret_key_length P → length (public_half P sk) ≡ public_key_length P
  unfolding public_half public_of
  length-public_half h = let z = secret_key_of-sized h in length-public_bytes P (public_of (secret_key_of P sk)) z.seed_f z.t

  -- The public half of a secret key is read as the seed and the t of that key.
  pub public_key_of-public_half : length sk ≡ secret_key_length P → public_key_of P (public_half P sk) ≡ public_of (secret_key_of P sk)
  unfolding public_half public_of
  public_key_of-public_half h = let z = secret_key_of-sized h in public_key_of-public_bytes P (public_of (secret_key_of P sk)) z.seed_f z.t z.t-elements

-- ---- consistent keys

pub both_true : (a b : Bool) → a && b ≡ true → (a ≡ true) × (b ≡ true)
both_true true b e = (refl, e)
both_true false b e = let z : ◌≡◌ {A = ℕ} 0 1 = cc in absurd (omega arith)

-- the test is true exactly where t and y are the values that the key's own circuit seed and s give
pub consistent_true : (P : Params) (key : SecretKey) → consistent P key ≡ true → Consistent (circuit P key.seed_f) key.s key.t key.y
unfolding consistent
consistent_true P key h =
    let e = eval_circuit key.s (circuit P key.seed_f) in
    let b = both_true (same key.t e.t) (same key.y e.y) h in
    record { second_form = same_equal key.y e.y b.1; target = same_equal key.t e.t b.0 }

pub true_consistent : (P : Params) (key : SecretKey) → Consistent (circuit P key.seed_f) key.s key.t key.y → consistent P key ≡ true
unfolding consistent
true_consistent P key c = ap₂ ◌&&◌ (equal_same key.t _ c.target) (equal_same key.y _ c.second_form)

-- ---- made keys

module _ (P : Params) (seed_f seedS : List ℕ) (size : length seed_f ≡ S P) where
  equations : Equations P.m (circuit P seed_f)
  unfolding circuit
  equations = expand_circuit-equations seed_f P.n P.m

  constants : ElementConstants (circuit P seed_f)
  unfolding circuit
  constants = expand_circuit-elements seed_f P.n P.m

  pub key_gen-sized : SizedKey P (key_gen P seed_f seedS)
  unfolding key_gen secret_of
  key_gen-sized =
      let s = secret_of P seedS in
      let f = circuit P seed_f in
      record {
        seed_f = size;
        s = length-expand_elements seedS P.n 1;
        t = ap length (eval_circuit-t s f) ∙ length-evaluate P.m f s equations;
        y = ap length (eval_circuit-y s f) ∙ length-affine P.m f.A2 s equations.A2;
        s-elements = expand_elements-elements seedS P.n 1;
        t-elements = subst Elements (sym (eval_circuit-t s f)) (evaluate-elements f s constants.A0);
        y-elements = subst Elements (sym (eval_circuit-y s f)) (affine-elements f.A2 s constants.A2);
      }

  pub length-secret_key : length (secret_key P seed_f seedS) ≡ secret_key_length P
  unfolding secret_key
  length-secret_key = length-secret_bytes P (key_gen P seed_f seedS) key_gen-sized

  pub length-public_key : length (public_key P seed_f seedS) ≡ public_key_length P
  unfolding public_key public_of
  length-public_key = length-public_bytes P (public_of (key_gen P seed_f seedS)) key_gen-sized.seed_f key_gen-sized.t

  key_gen_values : let key = key_gen P seed_f seedS in Consistent (circuit P key.seed_f) key.s key.t key.y
  unfolding key_gen
  key_gen_values = record { second_form = refl; target = refl }

  -- A made key is consistent.
  pub made_key-consistent : consistent_key P (secret_key P seed_f seedS) ≡ true
  unfolding consistent_key secret_key
  made_key-consistent = ap (consistent P) (secret_key_of-secret_bytes P (key_gen P seed_f seedS) key_gen-sized) ∙ true_consistent P (key_gen P seed_f seedS) key_gen_values

  -- The public half of a made secret key is the public key that was made with it.
  pub public_half_of_made : public_half P (secret_key P seed_f seedS) ≡ public_key P seed_f seedS
  unfolding public_half secret_key public_key
  public_half_of_made = ap (λ (key : SecretKey). public_bytes (public_of key)) (secret_key_of-secret_bytes P (key_gen P seed_f seedS) key_gen-sized)
