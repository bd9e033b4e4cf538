-- Where the parts of keys, signature and work lie, in numbers: every part lies within what it is a part of, and no sum is too large.
-- Assumes nothing.
use mathlib.Core.Path.{◌≡◌, refl, sym, ap, ap₂, ◌∙◌}
use Prim.Native.Nat.{ℕ, ◌+◌, ◌-◌, ◌*◌, ◌^◌, ◌≤◌}
use native.Mathlib.Omega.{arith}
use lib.ListN.{length, take, drop}
use mathlib.Core.List.{List}
use Rattle.memory.proofs.Xors.{length_part}
use Rattle.sets.specs.Sets.{S, N, public_key_length, signature_length}
use Rattle.sets.specs.declared.Params.{Params}
use Rattle.forms.specs.Room.{circuit_length}
use Rattle.biscuit.specs.Signature.{head_length, shown_length, shown_at, packing_at}
use Rattle.biscuit.specs.Room.{groups, leaves_at, room_at, roots_at, room_end, Fits}
use Rattle.biscuit.proofs.Repeated.{among}
use Rattle.biscuit.proofs.Room.{mapped}
use Rattle.biscuit.proofs.Sizes.{all_shown_small}
use Rattle.turns.specs.declared.claim.Repetition.{Repetition}
use Rattle.turns.specs.Turns.{leaves_part}

-- ---- work

module _ (P : Params) where
  pub leaves_is : leaves_at P ≡ circuit_length P.n P.m
  unfolding leaves_at
  leaves_is = refl

  pub roots_is : roots_at P ≡ circuit_length P.n P.m + 16 * groups P * S P + groups P * (16 * P.m)
  unfolding roots_at room_at leaves_at
  roots_is = refl

  -- the leaves of one repetition
  pub leaves-groups : room_at P - leaves_at P ≡ 16 * groups P * S P
  leaves-groups = let m = mapped P in omega arith

  pub leaves_size : Fits P → room_at P - leaves_at P ≡ 2 ^ P.l * S P
  unfolding N
  leaves_size f = leaves-groups ∙ sym (ap (λ (n : ℕ). n * S P) f.parties)

  -- of sixteen parties
  pub sixteen-leaves : groups P ≡ 1 → 16 * S P ≡ room_at P - leaves_at P
  sixteen-leaves one = sym (leaves-groups ∙ ap (λ (g : ℕ). 16 * g * S P) one)

-- ---- keys and signature

module _ (P : Params) (f : Fits P) where
  -- salt and hashes lie within the signature
  pub head_fits : 2 * S P + 2 * S P + 2 * S P ≤ signature_length P
  unfolding signature_length
  head_fits = omega arith

  pub packing_fits : packing_at P ≤ signature_length P
  unfolding signature_length packing_at head_length shown_length
  packing_fits = omega arith

  pub seed_fits : S P ≤ public_key_length P
  unfolding public_key_length
  seed_fits = omega arith

  module _ (e : ℕ) (from_one : 1 ≤ e) (within : e ≤ P.tau) where
    pub shown_fits : shown_at P e + P.l * S P + 2 * S P ≤ signature_length P
    unfolding signature_length shown_at head_length shown_length
    shown_fits = let r = among e P.tau (P.l * S P + 2 * S P) from_one within in omega arith

    -- in numbers
    pub shown_bounded : (e - 1) * (P.l * S P + 2 * S P) + (P.l * S P + 2 * S P) ≤ 23360
    shown_bounded = let r = among e P.tau (P.l * S P + 2 * S P) from_one within in let a = all_shown_small P f in omega arith

-- ---- parts that are lent

module _ (r : Repetition) where
  pub commitment_fits : (at : ℕ) → at ≡ shown_at r.claim.p r.e → at + r.claim.p.l * S r.claim.p + 2 * S r.claim.p ≤ length r.claim.signature.now
  commitment_fits at ea = let h = shown_fits r.claim.p r.claim.fits r.e r.from_one r.within in let l = r.claim.whole_signature in omega arith

  pub path-length : length (take (r.claim.p.l * S r.claim.p) (drop (shown_at r.claim.p r.e) r.claim.signature.now)) ≡ r.claim.p.l * S r.claim.p
  path-length =
      let f = commitment_fits _ refl in length_part r.claim.signature.now (shown_at r.claim.p r.e) (r.claim.p.l * S r.claim.p) (omega arith)

module _ (P : Params) (w : List ℕ) (enough : room_end P ≤ length w) where
  pub length_leaves_part : length (leaves_part P w) ≡ room_at P - leaves_at P
  length_leaves_part = let m = mapped P in length_part w (leaves_at P) (room_at P - leaves_at P) (omega arith)

  pub leaves-length : Fits P → (c d : ℕ) → c ≡ leaves_at P → d ≡ room_at P → length (take (d - c) (drop c w)) ≡ 2 ^ P.l * S P
  leaves-length f c d ec ed = ap₂ (λ (i j : ℕ). length (take (j - i) (drop i w))) ec ed ∙ length_leaves_part ∙ leaves_size P f
