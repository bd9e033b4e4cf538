-- How the repetitions of verifying are taken, and how far the two hashes are (algorithm 13 of the submission).
-- Assumes nothing.
use Rattle.std.specs.Prelude.{cond, List, ◌≡◌, ℕ, ◌/◌, eqb}
use Rattle.sponge.specs.Steps.{fresh, absorbed}
use Rattle.sets.specs.declared.Params.{Params}
use Rattle.hashes.specs.Hashes.{first_fields, second_fields}
use Rattle.biscuit.specs.Keys.{PublicKey}
use Rattle.biscuit.specs.Signature.{Signature, repeated}
use Rattle.biscuit.specs.Room.{groups}
use Rattle.turns.specs.declared.Both.{Both}
use Rattle.turns.specs.Turns.{first_of, second_of}

-- how many pairs of repetitions are taken side by side: all where a repetition has sixteen parties, none otherwise
unfoldable pub pair_count : Params → ℕ
pair_count P = cond (eqb (groups P) 1) (P.tau / 2) 0

-- lines 33 and 35: both hashes after e repetitions, with the signature's h₁ in the second
pub record Hashed (P : Params) (key : PublicKey) (σ : Signature) (message : List ℕ) (e : ℕ) (both : Both) : Type 0 where
  pub first : both.first ≡ absorbed fresh (first_fields σ.salt message (repeated e (first_of P key σ)))
  pub second : both.second ≡ absorbed fresh (second_fields σ.salt σ.h₁ (repeated e (second_of P key σ)))
