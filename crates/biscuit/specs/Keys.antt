-- Keys: their making from two seeds (algorithm 11 of the submission), their bytes, what a reader extracts from those bytes, and when a secret key is consistent
-- (document 01, "Keys and forms"). Every definition is total: bytes of a wrong length are read as far as they go, and past the end as 0.
-- Assumes nothing.
use Rattle.std.specs.Prelude.{Bool, ◌&&◌, List, ◌++◌, ℕ, ◌+◌, take, drop}
use Rattle.memory.specs.Lists.{same}
use Rattle.field.specs.Packing.{pack, unpack}
use Rattle.sets.specs.Sets.{S}
use Rattle.sets.specs.declared.Params.{Params}
use Rattle.forms.specs.Sampling.{expand_elements}
use Rattle.forms.specs.Circuit.{Circuit, expand_circuit, eval_circuit}

-- what a secret key holds: the circuit seed, the secret s, the values t of f and y of the second form
pub record SecretKey : Type 0 where
  pub seed_f : List ℕ
  pub s : List ℕ
  pub t : List ℕ
  pub y : List ℕ

-- what a public key holds
pub record PublicKey : Type 0 where
  pub seed_f : List ℕ
  pub t : List ℕ

-- algorithm 11, line 3: the circuit of a seed
unfoldable pub circuit : Params → List ℕ → Circuit
circuit P seed_f = expand_circuit seed_f P.n P.m

-- algorithm 11, line 5: s ← Expand(seedS, 1, F_16, n)
unfoldable pub secret_of : Params → List ℕ → List ℕ
secret_of P seedS = expand_elements seedS P.n 1

-- algorithm 11, lines 3, 5 and 6: y, t ← EvalCircuit(s, f)
unfoldable pub key_gen : Params → List ℕ → List ℕ → SecretKey
key_gen P seed_f seedS = record {
  seed_f = seed_f;
  s = secret_of P seedS;
  t = (eval_circuit (secret_of P seedS) (circuit P seed_f)).t;
  y = (eval_circuit (secret_of P seedS) (circuit P seed_f)).y;
}

-- algorithm 11, line 7: sk ← seed_f, pack(s ‖ t ‖ y)
unfoldable pub secret_bytes : SecretKey → List ℕ
secret_bytes key = key.seed_f ++ pack (key.s ++ (key.t ++ key.y))

-- algorithm 11, line 8: pk ← seed_f, pack(t)
unfoldable pub public_bytes : PublicKey → List ℕ
public_bytes key = key.seed_f ++ pack key.t

-- the public part of what a secret key holds
unfoldable pub public_of : SecretKey → PublicKey
public_of key = record { seed_f = key.seed_f; t = key.t }

-- algorithm 11: the bytes of the two keys that two seeds make
unfoldable pub secret_key : Params → List ℕ → List ℕ → List ℕ
secret_key P seed_f seedS = secret_bytes (key_gen P seed_f seedS)

unfoldable pub public_key : Params → List ℕ → List ℕ → List ℕ
public_key P seed_f seedS = public_bytes (public_of (key_gen P seed_f seedS))

-- the elements s, t and y of a secret key, as they are packed together; the four bits behind an odd last element are not read
unfoldable pub packed_secret : Params → List ℕ → List ℕ
packed_secret P sk = unpack (P.n + P.m + P.m) (drop (S P) sk)

-- algorithm 12, line 2: extract seed_f, s, t, y from sk
unfoldable pub secret_key_of : Params → List ℕ → SecretKey
secret_key_of P sk = record {
  seed_f = take (S P) sk;
  s = take P.n (packed_secret P sk);
  t = take P.m (drop P.n (packed_secret P sk));
  y = take P.m (drop (P.n + P.m) (packed_secret P sk));
}

-- algorithm 13, line 2: extract seed_f, t from pk; the four bits behind an odd last element are not read
unfoldable pub public_key_of : Params → List ℕ → PublicKey
public_key_of P pk = record { seed_f = take (S P) pk; t = unpack P.m (drop (S P) pk) }

-- document 01: "A key is consistent when t and y are the values that its own circuit seed and s give"
unfoldable pub consistent : Params → SecretKey → Bool
consistent P key =
    same key.t (eval_circuit key.s (circuit P key.seed_f)).t
    && same key.y (eval_circuit key.s (circuit P key.seed_f)).y

-- the same of a secret key's bytes
unfoldable pub consistent_key : Params → List ℕ → Bool
consistent_key P sk = consistent P (secret_key_of P sk)

-- the public half of a secret key, bytes to bytes
unfoldable pub public_half : Params → List ℕ → List ℕ
public_half P sk = public_bytes (public_of (secret_key_of P sk))
