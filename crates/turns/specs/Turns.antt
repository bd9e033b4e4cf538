-- What the steps of a repetition of verifying promise each other (algorithm 13 of the submission): what was expanded before, what stands ready for one repetition, and what it gives to the two hashes.
-- Assumes nothing.
use mathlib.Core.List.{List, ◌++◌, flatten}
use Rattle.std.specs.Prelude.{◌≡◌, ℕ, ◌+◌, ◌-◌, ◌≤◌, take, drop, replicate}
use Rattle.memory.specs.Lists.{put}
use Rattle.sponge.specs.Steps.{absorbed}
use Rattle.sets.specs.Sets.{S}
use Rattle.sets.specs.declared.Params.{Params}
use Rattle.tree.specs.Tree.{filled}
use Rattle.forms.specs.Room.{HoldsCircuit, challenge_in, hidden_in}
use Rattle.parties.specs.Repetition.{first, second}
use Rattle.biscuit.specs.Keys.{PublicKey, public_key_of}
use Rattle.biscuit.specs.Signature.{Signature, extracted}
use Rattle.biscuit.specs.Verify as verify
use Rattle.biscuit.specs.Room.{leaves_at, room_at, roots_at, challenges_at, room_end}
use Rattle.group.specs.declared.Rep.{Rep}
use Rattle.answers.specs.Passes.{HoldsRoom}
use Rattle.reps.specs.Reps.{rep_of}
use Rattle.turns.specs.declared.Both.{Both}
use Rattle.turns.specs.declared.claim.Claim.{Claim}

-- ---- what a claim's bytes say

abbrev pub key_of : Claim → PublicKey
key_of claim = public_key_of claim.p claim.pk.now

abbrev pub signature_of : Claim → Signature
signature_of claim = extracted claim.p claim.signature.now

-- ---- parts of work

abbrev pub circuit_part : Params → List ℕ → List ℕ
circuit_part P work = take (leaves_at P) work

abbrev pub leaves_part : Params → List ℕ → List ℕ
leaves_part P work = take (room_at P - leaves_at P) (drop (leaves_at P) work)

abbrev pub room_part : Params → List ℕ → List ℕ
room_part P work = take (roots_at P - room_at P) (drop (room_at P) work)

abbrev pub challenges_part : Params → List ℕ → List ℕ
challenges_part P work = take (room_end P - challenges_at P) (drop (challenges_at P) work)

-- work after the answers of a repetition: the room holds y and z·ε + c of all parties; what lies in front of it, circuit and leaves, and what lies behind it stays
pub record Answered (P : Params) (rep : Rep) (salt values before after : List ℕ) : Type 0 where
  pub front : take (room_at P) after ≡ take (room_at P) before
  pub room : HoldsRoom rep (circuit_part P before) salt (leaves_part P before) values (room_part P after)
  pub rest : drop (roots_at P) after ≡ drop (roots_at P) before

module _ (P : Params) (key : PublicKey) (σ : Signature) where
  -- ---- once for all repetitions

  -- lines 3, 5 and 6: the circuit and the challenges stand in work, the hidden parties in a list of their own
  pub record Expanded (parties work : List ℕ) : Type 0 where
    pub circuit : HoldsCircuit P.n P.m (verify.f P key) (circuit_part P work)
    pub challenge : (e : ℕ) → 1 ≤ e → e ≤ P.tau → challenge_in P.m (challenges_part P work) e ≡ verify.ε P key σ e
    pub hidden : (e : ℕ) → 1 ≤ e → e ≤ P.tau → hidden_in P.l parties e ≡ verify.hidden P key σ e

  -- ---- for one repetition

  -- Δs ‖ Δc ‖ challenge ‖ t ‖ α, an element to a byte
  unfoldable pub values_of : ℕ → List ℕ
  values_of e = ((σ.opening e).Δs ++ (σ.opening e).Δc) ++ (verify.ε P key σ e ++ (key.t ++ (σ.opening e).α))

  -- line 10: the seeds of the other parties, each in its place, and zeros in the hidden party's
  unfoldable pub leaves : ℕ → List ℕ
  leaves e = flatten (filled (replicate (S P) 0) (verify.seeds P key σ e))

  -- work with these leaves in their place
  abbrev pub rebuilt : ℕ → List ℕ → List ℕ
  rebuilt e work = put work (leaves_at P) (leaves e)

  -- work after repetition e: its leaves, and then its answers
  abbrev pub TurnLeft : ℕ → List ℕ → List ℕ → Type 0
  TurnLeft e before after = Answered P (rep_of P e (verify.hidden P key σ e)) σ.salt (values_of e) (rebuilt e before) after

  -- lines 32 and 34: what a repetition gives to the two hashes
  unfoldable pub first_of : ℕ → List ℕ
  first_of e = first (verify.coms P key σ e) (σ.opening e).Δs (σ.opening e).Δc

  unfoldable pub second_of : ℕ → List ℕ
  second_of e = second (verify.αs P key σ e) (verify.all_v P key σ e)

  -- one repetition more
  pub record TurnHashed (e : ℕ) (before after : Both) : Type 0 where
    pub first : after.first ≡ absorbed before.first (first_of e)
    pub second : after.second ≡ absorbed before.second (second_of e)

  -- two repetitions more, e and e + 1
  pub record TwoHashed (e : ℕ) (before after : Both) : Type 0 where
    pub first : after.first ≡ absorbed (absorbed before.first (first_of e)) (first_of (e + 1))
    pub second : after.second ≡ absorbed (absorbed before.second (second_of e)) (second_of (e + 1))
