-- What holds of every set: the sizes of document 01's table follow from the formulas, and the parameters lie within bounds that later crates lean on.
-- Assumes nothing.
use mathlib.Core.Path.{◌≡◌, refl, sym, ap, ◌∙◌}
use Prim.Native.Nat.{ℕ, zero, suc, ◌≤◌, ◌<◌}
use native.Mathlib.Omega.{arith}
use native.Mathlib.Decide.{dec_lt}
use lib.Dec.{lit≤, lit<}
use lib.ListN.{get_or, get_or-eq_default}
use Rattle.field.specs.Packing.{packed_length}
use Rattle.sets.specs.declared.Params.{Params}
use Rattle.sets.specs.declared.Row.{Row}
use Rattle.sets.specs.declared.TheConstants.{SETS}
use Rattle.sets.specs.Sets.{row, rows, params_of, S, N, RowOf, secret_key_length, public_key_length, signature_length}

-- what holds of the seven rows holds of every row
pub each_row : (P : ℕ → Type 0) → P 0 → P 1 → P 2 → P 3 → P 4 → P 5 → P 6 → (i : ℕ) → i < 7 → P i
each_row P a b c d e f g zero h = a
each_row P a b c d e f g (suc zero) h = b
each_row P a b c d e f g (suc (suc zero)) h = c
each_row P a b c d e f g (suc (suc (suc zero))) h = d
each_row P a b c d e f g (suc (suc (suc (suc zero)))) h = e
each_row P a b c d e f g (suc (suc (suc (suc (suc zero))))) h = f
each_row P a b c d e f g (suc (suc (suc (suc (suc (suc zero)))))) h = g
each_row P a b c d e f g (suc (suc (suc (suc (suc (suc (suc i))))))) h = absurd (omega arith)

-- a number past the table has the parameters of number 0
pub no_such_set_lem : (set : ℕ) → 7 ≤ set → params_of 0 ≡ params_of set
unfolding params_of rows
no_such_set_lem set h = sym (get_or-eq_default rows (row 0 0 0 0 0) {n = set} h)

-- what holds of the seven rows holds whatever the number
pub each_set : (P : Params → Type 0) → ((i : ℕ) → i < 7 → P (params_of i)) → (set : ℕ) → P (params_of set)
each_set P h set =
    elim (dec_lt set 7) as (λ d. P (params_of set)) [
      | yes y ↦ h set y
      | no y ↦ rw (sym (no_such_set_lem set (omega arith))) (h 0 (lit< tt))
    ]

-- the sizes of keys and signature in document 01's table
pub record Sizes (set secret_key public_key signature : ℕ) : Type 0 where
  pub secret : secret_key_length (params_of set) ≡ secret_key
  pub «public» : public_key_length (params_of set) ≡ public_key
  pub signed : signature_length (params_of set) ≡ signature

-- document 01, "Six sets": the formulas give the table's last three columns
pub six_sets :
    Sizes 1 115 50 4758 × Sizes 2 115 50 6726 × Sizes 3 158 69 11349
    × Sizes 4 158 69 15129 × Sizes 5 212 93 20192 × Sizes 6 212 93 27348
unfolding secret_key_length public_key_length signature_length S packed_length params_of rows
six_sets = (
  record { secret = refl; «public» = refl; signed = refl },
  record { secret = refl; «public» = refl; signed = refl },
  record { secret = refl; «public» = refl; signed = refl },
  record { secret = refl; «public» = refl; signed = refl },
  record { secret = refl; «public» = refl; signed = refl },
  record { secret = refl; «public» = refl; signed = refl },
)

-- document 01, "Six sets": the seed bytes and the parties of each set
pub six_seeds-and-parties :
    (S (params_of 1) ≡ 16) × (S (params_of 2) ≡ 16) × (S (params_of 3) ≡ 24) × (S (params_of 4) ≡ 24) × (S (params_of 5) ≡ 32) × (S (params_of 6) ≡ 32)
    × (N (params_of 1) ≡ 256) × (N (params_of 2) ≡ 16) × (N (params_of 3) ≡ 256) × (N (params_of 4) ≡ 16) × (N (params_of 5) ≡ 256) × (N (params_of 6) ≡ 16)
unfolding S N params_of rows
six_seeds-and-parties = (refl, refl, refl, refl, refl, refl, refl, refl, refl, refl, refl, refl)

-- the bounds of every set
pub record Bounded (P : Params) : Type 0 where
  pub seed : S P ≤ 32
  pub variables : P.n ≤ 118
  pub equations : P.m ≤ 121
  pub repetitions : P.tau ≤ 73
  pub levels : P.l ≤ 8

within : (P : Params) → S P ≤ 32 → P.n ≤ 118 → P.m ≤ 121 → P.tau ≤ 73 → P.l ≤ 8 → Bounded P
within P s n m t l = record { seed = s; variables = n; equations = m; repetitions = t; levels = l }

pub bounded : (set : ℕ) → Bounded (params_of set)
unfolding S params_of rows
bounded =
    each_set Bounded
    (each_row (λ (i : ℕ). Bounded (params_of i))
    (within _ (lit≤ tt) (lit≤ tt) (lit≤ tt) (lit≤ tt) (lit≤ tt))
    (within _ (lit≤ tt) (lit≤ tt) (lit≤ tt) (lit≤ tt) (lit≤ tt))
    (within _ (lit≤ tt) (lit≤ tt) (lit≤ tt) (lit≤ tt) (lit≤ tt))
    (within _ (lit≤ tt) (lit≤ tt) (lit≤ tt) (lit≤ tt) (lit≤ tt))
    (within _ (lit≤ tt) (lit≤ tt) (lit≤ tt) (lit≤ tt) (lit≤ tt))
    (within _ (lit≤ tt) (lit≤ tt) (lit≤ tt) (lit≤ tt) (lit≤ tt))
    (within _ (lit≤ tt) (lit≤ tt) (lit≤ tt) (lit≤ tt) (lit≤ tt)))

-- ---- the table of the code holds what the specification says, at each row

pub table_row : (i : ℕ) (blank : Row) → i < 7 → RowOf i (get_or SETS i blank)
unfolding secret_key_length public_key_length signature_length S packed_length params_of rows
table_row i blank h =
    each_row (λ (i : ℕ). RowOf i (get_or SETS i blank))
    (record { params = refl; secret_key = refl; public_key = refl; signature = refl })
    (record { params = refl; secret_key = refl; public_key = refl; signature = refl })
    (record { params = refl; secret_key = refl; public_key = refl; signature = refl })
    (record { params = refl; secret_key = refl; public_key = refl; signature = refl })
    (record { params = refl; secret_key = refl; public_key = refl; signature = refl })
    (record { params = refl; secret_key = refl; public_key = refl; signature = refl })
    (record { params = refl; secret_key = refl; public_key = refl; signature = refl })
    i h

-- a number past the table has the row of number 0
abbrev pub blank : Row
blank = record { params = row 0 0 0 0 0; secret_key = 0; public_key = 0; signature = 0 }

pub no_such_row : (set : ℕ) → 7 ≤ set → RowOf set blank
no_such_row set h =
    let e = no_such_set_lem set h in
    let r = table_row 0 blank (lit< tt) in
    record {
      params = r.params ∙ e;
      secret_key = r.secret_key ∙ ap secret_key_length e;
      public_key = r.public_key ∙ ap public_key_length e;
      signature = r.signature ∙ ap signature_length e;
    }
