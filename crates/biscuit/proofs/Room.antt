-- Every set keeps the bounds of specs/Room.antt, and within them the parts of work lie one behind the other. Assumes nothing.
use mathlib.Core.Path.{◌≡◌, refl, sym, ap, ◌∙◌}
use mathlib.Core.Bool.{Bool, true, ◌&&◌}
use mathlib.Core.List.{List}
use Prim.Native.Nat.{ℕ, ◌+◌, ◌-◌, ◌*◌, ◌/◌, ◌%◌, ◌^◌, ◌≤◌}
use native.Mathlib.Nat.{mod-lt}
use native.Mathlib.Omega.{arith}
use lib.Dec.{eqb, leb}
use lib.ListN.{length, get_or, drop}
use lib.Pow.{pow_pos, pow_mono}
use lib.Seq.{drop-drop}
use borrow.Author.Tests.{leb-true, eqb-true}
use Rattle.memory.proofs.Xors.{length_part}
use Rattle.field.specs.Packing.{packed_length}
use Rattle.sets.specs.Sets.{S, N, rows, params_of}
use Rattle.sets.specs.declared.Params.{Params}
use Rattle.sets.proofs.Laws.{each_row}
use Rattle.forms.specs.Circuit.{affine_length}
use Rattle.forms.specs.Room.{circuit_length, hidden_in}
use Rattle.forms.proofs.Room.{shifted_one}
use Rattle.refusals.specs.Refusals.{work_length}
use Rattle.refusals.proofs.Refusals.{work_length_is}
use Rattle.biscuit.specs.Signature.{vector_count}
use Rattle.biscuit.specs.Room.{groups, leaves_at, room_at, roots_at, challenges_at, room_end, root_in, Fits}
use Rattle.biscuit.proofs.Keys.{both_true}
use Rattle.biscuit.proofs.Repeated.{among}

-- the bounds as a test
within : Params → Bool
within P =
    leb P.n 118 && (leb 16 P.m && (leb P.m 121 && (leb P.tau 73 && (leb 1 P.tau && (leb (S P) 32 && (leb 4 P.l && (leb P.l 8
    && (eqb (N P) (16 * groups P) && (leb (room_end P) work_length && eqb (vector_count P % 2) 0)))))))))

-- what holds of parameters that pass the test
within_fits : (P : Params) → within P ≡ true → Fits P
unfolding within
within_fits P h =
    let h1 = both_true _ _ h in
    let h2 = both_true _ _ h1.1 in
    let h3 = both_true _ _ h2.1 in
    let h4 = both_true _ _ h3.1 in
    let h5 = both_true _ _ h4.1 in
    let h6 = both_true _ _ h5.1 in
    let h7 = both_true _ _ h6.1 in
    let h8 = both_true _ _ h7.1 in
    let h9 = both_true _ _ h8.1 in
    let h10 = both_true _ _ h9.1 in
    record {
      variables = leb-true _ _ h1.0;
      some = leb-true _ _ h2.0;
      equations = leb-true _ _ h3.0;
      repetitions = leb-true _ _ h4.0;
      «repeated» = leb-true _ _ h5.0;
      seed = leb-true _ _ h6.0;
      sixteen = leb-true _ _ h7.0;
      levels = leb-true _ _ h8.0;
      parties = eqb-true _ _ h9.0;
      enough = leb-true _ _ h10.0;
      even = eqb-true _ _ h10.1;
    }

-- a set has parameters within the bounds
pub fits : (set : ℕ) → 1 ≤ set → set ≤ 6 → Fits (params_of set)
unfolding within groups leaves_at room_at roots_at challenges_at room_end work_length vector_count circuit_length affine_length packed_length S N params_of rows
fits set a b =
    within_fits (params_of set)
    (each_row (λ (i : ℕ). 1 ≤ i → within (params_of i) ≡ true) (λ h. absurd (omega arith)) (λ h. refl) (λ h. refl) (λ h. refl) (λ h. refl) (λ h. refl) (λ h. refl) set (omega arith) a)

-- ---- the parts of work

-- one behind the other
pub record Mapped (P : Params) : Type 0 where
  pub leaves : leaves_at P + 16 * groups P * S P ≡ room_at P
  pub room : room_at P + groups P * (16 * P.m) ≡ roots_at P
  pub roots : roots_at P + P.tau * S P ≡ challenges_at P
  pub challenges : challenges_at P + P.tau * packed_length P.m ≡ room_end P

pub mapped : (P : Params) → Mapped P
unfolding room_at roots_at challenges_at room_end
mapped P = record { leaves = refl; room = refl; roots = refl; challenges = refl }

-- what stays from the roots on stays from the challenges on
pub behind-roots : (P : Params) (before after : List ℕ) → drop (roots_at P) after ≡ drop (roots_at P) before → drop (challenges_at P) after ≡ drop (challenges_at P) before
unfolding challenges_at
behind-roots P before after h =
    sym (drop-drop (P.tau * S P) (roots_at P) after) ∙ ap (drop (P.tau * S P)) h ∙ drop-drop (P.tau * S P) (roots_at P) before

-- the root of a repetition, where the roots of all are there
pub length-root_in : (S : ℕ) (roots : List ℕ) (e τ : ℕ) → 1 ≤ e → e ≤ τ → τ * S ≤ length roots → length (root_in S roots e) ≡ S
unfolding root_in
length-root_in S roots e τ h k fits = let r = among e τ S h k in length_part roots ((e - 1) * S) S (omega arith)

-- ---- the map in numbers

-- the last sum, which none before it passes
pub sums_bounded : (P : Params) → Fits P → (g c : ℕ) → g ≡ groups P → c ≡ circuit_length P.n P.m
    → c + 16 * g * (P.bits / 8) + g * (16 * P.m) + P.tau * (P.bits / 8) + P.tau * ((P.m + 1) / 2) ≤ 65536
unfolding groups leaves_at room_at roots_at challenges_at room_end packed_length S
sums_bounded P f g c count size = rw count (rw size (let e = f.enough in let w = work_length_is in omega arith))

-- ---- the groups of sixteen parties

pub some-groups : (P : Params) → 1 ≤ groups P
unfolding groups
some-groups P = pow_pos (P.l - 4)

pub few_groups : (P : Params) → Fits P → groups P ≤ 16
unfolding groups
few_groups P f = pow_mono {i = P.l - 4} {j = 4} (let b = f.levels in omega arith)

-- the shift that counts the groups
pub shifted_groups : (P : Params) → Fits P → 1 * 2 ^ (P.l - 4) % 2 ^ 64 ≡ groups P
unfolding groups
shifted_groups P f = shifted_one (P.l - 4) (let b = f.levels in omega arith)

-- ---- the party that a byte hides is one of the 2^l

pub hidden_from_one : (l : ℕ) (bytes : List ℕ) (e : ℕ) → 1 ≤ hidden_in l bytes e
unfolding hidden_in
hidden_from_one l bytes e = omega arith

pub hidden-within : (l : ℕ) (bytes : List ℕ) (e : ℕ) → hidden_in l bytes e ≤ 2 ^ l
unfolding hidden_in
hidden-within l bytes e = let h = mod-lt (get_or bytes (e - 1) 0) (pow_pos l) in omega arith
