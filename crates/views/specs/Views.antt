-- The sum of all parties' tapes, byte by byte, and where secret, mask and helper lie in it: what the contracts of this crate cite between the seeds of a
-- repetition and its corrections (algorithm 12 of the submission, lines 9 to 15). The laws of proofs/Sums.antt tie it to the parties' shares.
-- Assumes nothing.
use Rattle.std.specs.Prelude.{◌≡◌, Option, Some, None, List, ℕ, ◌+◌, drop, replicate}
use Rattle.field.specs.Packing.{packed_length, unpack}
use Rattle.field.specs.Vectors.{◌⊕◌, ◌⊙◌, total}
use Rattle.hashes.specs.Hashes.{expand_tape}
use Rattle.sponge.specs.Steps.{absorbed}
use Rattle.sponge.specs.declared.Sponge.{Sponge}
use Rattle.sets.specs.declared.Params.{Params}
use Rattle.parties.specs.Parties.{parties}
use Rattle.parties.specs.Repetition.{coms, delta_s, delta_c, first, given_at}
use Rattle.views.specs.declared.leaves.Given.{Given}

-- algorithm 12, line 9: the first bytes of every party's tape, by the seeds
unfoldable pub tapes : List ℕ → ℕ → ℕ → List (List ℕ) → List (List ℕ)
tapes salt e size seeds = parties (λ i seed. expand_tape salt e i seed size) seeds

-- their sum
unfoldable pub tape_sum : List ℕ → ℕ → ℕ → List (List ℕ) → List ℕ
tape_sum salt e size seeds = replicate size 0 ⊕ total (tapes salt e size seeds)

-- algorithm 12, line 14, with the secret's shares added up in the first elements of `sum`
unfoldable pub correction_s : ℕ → List ℕ → List ℕ → List ℕ
correction_s n s sum = s ⊕ unpack n sum

-- algorithm 12, line 15, with the shares of mask and helper added up behind them
unfoldable pub correction_c : ℕ → ℕ → List ℕ → List ℕ → List ℕ
correction_c n m y sum = y ⊙ unpack m (drop (packed_length n) sum) ⊕ unpack m (drop (packed_length n + packed_length m) sum)

-- algorithm 12, lines 9 to 22, for one repetition: the first hash before and after, and the corrections of the secret s and of y
pub record FirstPhase (P : Params) (salt : List ℕ) (e : ℕ) (s y : List ℕ) (seeds : List (List ℕ)) (before after : Sponge) (ds dc : List ℕ) : Type 0 where
  pub hashed : after ≡ absorbed before (first (coms P salt e seeds) (delta_s P salt e s seeds) (delta_c P salt e y seeds))
  pub secret : ds ≡ delta_s P salt e s seeds
  pub helper : dc ≡ delta_c P salt e y seeds

-- algorithm 13, line 12: the party's own entry, and at the party whose commitment is given that one
unfoldable pub given_in : Option Given → (ℕ → List ℕ → List ℕ) → ℕ → List ℕ → List ℕ
given_in (Some g) f = given_at g.commitment.now g.party f
given_in None f = f
