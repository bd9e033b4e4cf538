-- What the steps of a repetition promise each other: the first pass absorbs every α and keeps sums, y and z·ε + c; the second absorbs every v.
-- A group is sixteen parties; lane q of group g belongs to party 16 g + q + 1. Assumes nothing.
use Rattle.std.specs.Prelude.{cond, ◌≡◌, ℕ, suc, ◌+◌, ◌*◌, ◌<◌, eqb, length, get_or, take, drop}
use mathlib.Core.List.{List, [], flatten}
use Rattle.std.specs.Int.Bits.{bit_xor}
use Rattle.field.specs.Field.{mul}
use Rattle.field.specs.Packing.{nib, pack}
use Rattle.field.specs.Vectors.{◌!◌, total}
use Rattle.lanes.specs.Lanes.{lane}
use Rattle.sponge.specs.declared.Sponge.{Sponge}
use Rattle.sponge.specs.Steps.{absorbed}
use Rattle.forms.specs.Room.{circuit_length, circuit_in}
use Rattle.parties.specs.Parties.{parties, alpha_of, y_of}
use Rattle.marks.specs.Marks.{lane_sum}
use Rattle.group.specs.declared.Rep.{Rep}
use Rattle.group.specs.Shares.{params_in, epsilon, target, alpha_given, rest_of}
use Rattle.answers.specs.Answers.{shares_of}

-- ---- the work of a repetition: the circuit, the leaves, and the room for y and z·ε + c of each group

abbrev pub circuit_of : Rep → List ℕ → List ℕ
circuit_of rep work = take (circuit_length rep.n rep.m) work

abbrev pub leaves_of : Rep → List ℕ → List ℕ
leaves_of rep work = take (16 * rep.groups * rep.s) (drop (circuit_length rep.n rep.m) work)

-- where the room begins
abbrev pub room_at : Rep → ℕ
room_at rep = circuit_length rep.n rep.m + 16 * rep.groups * rep.s

-- ---- the vectors of all parties: α, y and z·ε + c; at the hidden party the given α, and nothing

unfoldable pub alphas_of : Rep → List ℕ → List ℕ → List ℕ → List ℕ → List (List ℕ)
alphas_of rep circuit salt leaves v =
    parties (λ i p. cond (eqb i rep.hidden) (alpha_given rep v) (alpha_of (circuit_in rep.n rep.m circuit) (epsilon rep v) i p)) (shares_of (params_in rep) rep salt leaves v)

unfoldable pub second_forms_of : Rep → List ℕ → List ℕ → List ℕ → List ℕ → List (List ℕ)
second_forms_of rep circuit salt leaves v =
    parties (λ i p. cond (eqb i rep.hidden) [] (y_of (circuit_in rep.n rep.m circuit) i p)) (shares_of (params_in rep) rep salt leaves v)

unfoldable pub rests_of : Rep → List ℕ → List ℕ → List ℕ → List ℕ → List (List ℕ)
rests_of rep circuit salt leaves v =
    parties (λ i p. cond (eqb i rep.hidden) [] (rest_of (circuit_in rep.n rep.m circuit) (target rep v) (epsilon rep v) i p)) (shares_of (params_in rep) rep salt leaves v)

-- ---- one group

-- sixteen vectors, each in its lane of the words
pub record Packs (vs : List (List ℕ)) (words : List ℕ) : Type 0 where
  pub count : length vs ≡ 16
  pub sized : (q : ℕ) → q < 16 → length (get_or vs q []) ≡ length words
  pub held : (q k : ℕ) → q < 16 → k < length words → get_or (get_or vs q []) k 0 ≡ lane q (get_or words k 0)

-- the words hold the vectors of a group, each in its lane
unfoldable pub InLanes : ℕ → List (List ℕ) → List ℕ → Type 0
InLanes g l words = (k q : ℕ) → k < length words → q < 16 → lane q (words ! k) ≡ get_or l (16 * g + q) [] ! k

-- the vectors of a group are added, each in its lane
unfoldable pub Summed : ℕ → ℕ → List (List ℕ) → List ℕ → List ℕ → Type 0
Summed g m l old new = (k q : ℕ) → k < m → q < 16 → lane q (new ! k) ≡ bit_xor (lane q (old ! k)) (get_or l (16 * g + q) [] ! k)

-- the bytes hold y and then z·ε + c of the parties of a group
pub record HoldsGroup (g m : ℕ) (ys ws : List (List ℕ)) (part : List ℕ) : Type 0 where
  pub second_form : (k q : ℕ) → k < m → q < 16 → nib part (16 * k + q) ≡ get_or ys (16 * g + q) [] ! k
  pub rest : (k q : ℕ) → k < m → q < 16 → nib part (16 * (m + k) + q) ≡ get_or ws (16 * g + q) [] ! k

-- the room holds y and z·ε + c of all groups, one group behind the other
abbrev pub HoldsRoom : Rep → List ℕ → List ℕ → List ℕ → List ℕ → List ℕ → Type 0
HoldsRoom rep circuit salt leaves v room =
    (g : ℕ) → g < rep.groups → HoldsGroup g rep.m (second_forms_of rep circuit salt leaves v) (rests_of rep circuit salt leaves v) (take (16 * rep.m) (drop (g * (16 * rep.m)) room))

-- what one turn of the first pass does
pub record Turn (g m : ℕ) (αs ys ws : List (List ℕ)) (s : Sponge) (sa₀ sy₀ sw₀ sa sy sw part : List ℕ) (r : Sponge) : Type 0 where
  pub absorbs : r ≡ absorbed s (pack (flatten (take 16 (drop (16 * g) αs))))
  pub alpha : Summed g m αs sa₀ sa
  pub second_form : Summed g m ys sy₀ sy
  pub rest : Summed g m ws sw₀ sw
  pub kept : HoldsGroup g m ys ws part

-- what two turns do, of group g and of the next
pub record TwoTurns (g m : ℕ) (αs ys ws : List (List ℕ)) (s : Sponge) (sa₀ sy₀ sw₀ sa sy sw part next : List ℕ) (r : Sponge) : Type 0 where
  pub sa₁ : List ℕ
  pub sy₁ : List ℕ
  pub sw₁ : List ℕ
  pub between : Sponge
  pub first : Turn g m αs ys ws s sa₀ sy₀ sw₀ sa₁ sy₁ sw₁ part between
  pub second : Turn (g + 1) m αs ys ws between sa₁ sy₁ sw₁ sa sy sw next r

-- what the first pass did for n groups
pub record Passed (n m : ℕ) (αs ys ws : List (List ℕ)) (sa sy sw room : List ℕ) : Type 0 where
  pub alpha : (k : ℕ) → k < m → lane_sum (sa ! k) ≡ total (take (16 * n) αs) ! k
  pub second_form : (k : ℕ) → k < m → lane_sum (sy ! k) ≡ total (take (16 * n) ys) ! k
  pub rest : (k : ℕ) → k < m → lane_sum (sw ! k) ≡ total (take (16 * n) ws) ! k
  pub kept : (g : ℕ) → g < n → HoldsGroup g m ys ws (take (16 * m) (drop (g * (16 * m)) room))

-- every word is 0
unfoldable pub Zeros : List ℕ → Type 0
Zeros l = (k : ℕ) → get_or l k 0 ≡ 0

-- ---- v

-- a party's v from its y and its z·ε + c, which are 0 at the hidden party; there the given v is put in
unfoldable pub v_at : ℕ → ℕ → ℕ → ℕ → ℕ → ℕ → ℕ
v_at i hidden α given y w = bit_xor (bit_xor (mul y α) w) (given * cond (eqb i hidden) 1 0)

-- the words have v of the parties of a group
unfoldable pub VWords : Rep → ℕ → List ℕ → List ℕ → List ℕ → List ℕ → Type 0
VWords rep g alpha given part words =
    (k q : ℕ) → k < rep.m → q < 16 → lane q (words ! k) ≡ v_at (suc (16 * g + q)) rep.hidden (alpha ! k) (given ! k) (nib part (16 * k + q)) (nib part (16 * (rep.m + k) + q))

-- vs are the v of all parties
pub record VsOf (rep : Rep) (alpha given : List ℕ) (ys ws vs : List (List ℕ)) : Type 0 where
  pub count : length vs ≡ 16 * rep.groups
  pub sized : (p : ℕ) → p < 16 * rep.groups → length (get_or vs p []) ≡ rep.m
  pub entry : (p k : ℕ) → p < 16 * rep.groups → k < rep.m → get_or vs p [] ! k ≡ v_at (suc p) rep.hidden (alpha ! k) (given ! k) (get_or ys p [] ! k) (get_or ws p [] ! k)

-- the sum of all α, and the hidden v: the sum of all others
pub record Folded (m : ℕ) (sa sy sw alpha given : List ℕ) : Type 0 where
  pub alpha_sum : (k : ℕ) → k < m → alpha ! k ≡ lane_sum (sa ! k)
  pub given_sum : (k : ℕ) → k < m → given ! k ≡ bit_xor (mul (lane_sum (sy ! k)) (lane_sum (sa ! k))) (lane_sum (sw ! k))
