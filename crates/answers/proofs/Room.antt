-- What the first pass leaves in the room: every half byte of it is given, so that bytes which hold y and z·ε + c of the same parties are one list. Assumes nothing.
use mathlib.Core.List.{List, [], ◌++◌, flatten}
use mathlib.Core.Path.{◌≡◌, sym, ap, ap₂, subst, ◌∙◌}
use Prim.Native.Nat.{ℕ, ◌+◌, ◌-◌, ◌*◌, ◌/◌, ◌%◌, ◌<◌}
use native.Mathlib.Decide.{dec_lt}
use native.Mathlib.Omega.{arith}
use lib.Dec.{lit<}
use lib.ListN.{length, get_or, take, drop, length-take, length-drop, take-append-drop, get_or-eq_default}
use lib.Seq.{ext_get_or, get_or-take, get_or-drop}
use Rattle.memory.specs.Sections.{pieces}
use Rattle.memory.proofs.Lists.{room}
use Rattle.memory.proofs.Sections.{length-pieces, get_or-pieces, flatten-pieces}
use Rattle.memory.proofs.Xors.{length_part}
use Rattle.field.specs.Packing.{Bytes, nib}
use Rattle.field.proofs.Packing.{bytes_by_halves}
use Rattle.group.specs.declared.Rep.{Rep}
use Rattle.answers.specs.Passes.{HoldsGroup, HoldsRoom, room_at}

-- ---- parts of bytes are bytes

pub bytes_drop : (n : ℕ) (b : List ℕ) → Bytes b → Bytes (drop n b)
bytes_drop n b h i = subst (λ (v : ℕ). v < 256) (sym (get_or-drop n b i 0)) (h (n + i))

pub bytes_take : (n : ℕ) (b : List ℕ) → Bytes b → Bytes (take n b)
bytes_take n b h i =
    elim (dec_lt i n) as (λ d. get_or (take n b) i 0 < 256) [
      | yes y ↦ subst (λ (v : ℕ). v < 256) (sym (get_or-take n b i 0 y)) (h i)
      | no y ↦ subst (λ (v : ℕ). v < 256) (sym (get_or-eq_default (take n b) 0 {n = i} (let s = length-take n b in omega arith))) (lit< tt)
    ]

-- ---- the room

-- the bytes of one group
group_fixed : (g m : ℕ) (ys ws : List (List ℕ)) (a b : List ℕ) → length a ≡ 16 * m → length b ≡ 16 * m → Bytes a → Bytes b → HoldsGroup g m ys ws a → HoldsGroup g m ys ws b → a ≡ b
group_fixed g m ys ws a b la lb ha hb x y = bytes_by_halves a b ha hb (la ∙ sym lb) (λ j l. half j (omega arith))
  where
    half : (j : ℕ) → j < 32 * m → nib a j ≡ nib b j
    half j l =
        elim (dec_lt j (16 * m)) as (λ d. nib a j ≡ nib b j) [
          | yes h ↦
              (let e : 16 * (j / 16) + j % 16 ≡ j = omega arith in
              let k : j / 16 < m = omega arith in
              let q : j % 16 < 16 = omega arith in
              subst (λ (i : ℕ). nib a i ≡ nib b i) e (x.second_form (j / 16) (j % 16) k q ∙ sym (y.second_form (j / 16) (j % 16) k q)))
          | no h ↦
              (let e : 16 * (m + (j - 16 * m) / 16) + (j - 16 * m) % 16 ≡ j = omega arith in
              let k : (j - 16 * m) / 16 < m = omega arith in
              let q : (j - 16 * m) % 16 < 16 = omega arith in
              subst (λ (i : ℕ). nib a i ≡ nib b i) e (x.rest ((j - 16 * m) / 16) ((j - 16 * m) % 16) k q ∙ sym (y.rest ((j - 16 * m) / 16) ((j - 16 * m) % 16) k q)))
        ]

-- the bytes of all groups
pub room_fixed : (rep : Rep) (circuit salt leaves v a b : List ℕ) → length a ≡ rep.groups * (16 * rep.m) → length b ≡ rep.groups * (16 * rep.m) → Bytes a → Bytes b
    → HoldsRoom rep circuit salt leaves v a → HoldsRoom rep circuit salt leaves v b → a ≡ b
room_fixed rep circuit salt leaves v a b la lb ha hb x y =
    sym (flatten-pieces (16 * rep.m) rep.groups a la)
    ∙ ap flatten (ext_get_or [] (pieces (16 * rep.m) rep.groups a) (pieces (16 * rep.m) rep.groups b) (length-pieces (16 * rep.m) rep.groups a ∙ sym (length-pieces (16 * rep.m) rep.groups b)) (λ i l.
    let h : i < rep.groups = omega (arith, length-pieces (16 * rep.m) rep.groups a) in
    let r = room i rep.groups (16 * rep.m) h in
    get_or-pieces (16 * rep.m) rep.groups a i h
    ∙ group_fixed i rep.m _ _ (take (16 * rep.m) (drop (i * (16 * rep.m)) a)) (take (16 * rep.m) (drop (i * (16 * rep.m)) b))
    (length_part a (i * (16 * rep.m)) (16 * rep.m) (omega arith)) (length_part b (i * (16 * rep.m)) (16 * rep.m) (omega arith))
    (bytes_take (16 * rep.m) (drop (i * (16 * rep.m)) a) (bytes_drop (i * (16 * rep.m)) a ha)) (bytes_take (16 * rep.m) (drop (i * (16 * rep.m)) b) (bytes_drop (i * (16 * rep.m)) b hb)) (x i h) (y i h)
    ∙ sym (get_or-pieces (16 * rep.m) rep.groups b i h)))
    ∙ flatten-pieces (16 * rep.m) rep.groups b lb

-- the whole work: what stays in front of the room, and the room
pub work_fixed : (rep : Rep) (circuit salt leaves v a b : List ℕ) → length a ≡ room_at rep + rep.groups * (16 * rep.m) → length b ≡ room_at rep + rep.groups * (16 * rep.m) → Bytes a → Bytes b
    → take (room_at rep) a ≡ take (room_at rep) b → HoldsRoom rep circuit salt leaves v (drop (room_at rep) a) → HoldsRoom rep circuit salt leaves v (drop (room_at rep) b) → a ≡ b
work_fixed rep circuit salt leaves v a b la lb ha hb front x y =
    sym (take-append-drop (room_at rep) a)
    ∙ ap₂ (λ (l r : List ℕ). l ++ r) front
    (room_fixed rep circuit salt leaves v (drop (room_at rep) a) (drop (room_at rep) b)
    (length-drop (room_at rep) a ∙ (let e : length a - room_at rep ≡ rep.groups * (16 * rep.m) = omega arith in e))
    (length-drop (room_at rep) b ∙ (let e : length b - room_at rep ≡ rep.groups * (16 * rep.m) = omega arith in e))
    (bytes_drop (room_at rep) a ha) (bytes_drop (room_at rep) b hb) x y)
    ∙ take-append-drop (room_at rep) b
