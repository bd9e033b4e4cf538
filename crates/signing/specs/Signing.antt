-- What a signer has at each step of algorithm 12, in the bytes that hold it: its secret, salt, circuit and roots, then the challenges, the corrections and both hashes. Assumes nothing.
use Rattle.std.specs.Prelude.{◌≡◌, List, ℕ, take, drop}
use Rattle.sets.specs.declared.Params.{Params}
use Rattle.forms.specs.Room.{HoldsCircuit}
use Rattle.biscuit.specs.Sign.{Signer, f, h₁, h₂}
use Rattle.biscuit.specs.Room.{leaves_at, roots_at}
use Rattle.passes.specs.Passes.{HoldsSecret, HoldsRoots}
use Rattle.replies.specs.Replies.{Challenged}

-- after line 5: the secret, the salt, the circuit and the roots
pub record HoldsSigner (P : Params) (signer : Signer) (salt secret work : List ℕ) : Type 0 where
  pub holds_secret : HoldsSecret P signer salt secret
  pub holds_roots : HoldsRoots P signer (drop (roots_at P) work)
  pub holds_circuit : HoldsCircuit P.n P.m (f P signer) (take (leaves_at P) work)

-- after line 35: both hashes, with all that came before
pub record HoldsHashes (P : Params) (signer : Signer) (msg salt secret h1 h2 packing work : List ℕ) : Type 0 where
  pub challenged : Challenged P signer msg salt secret packing work
  pub rooted : HoldsRoots P signer (drop (roots_at P) work)
  pub first : h1 ≡ h₁ P signer msg
  pub second : h2 ≡ h₂ P signer msg
