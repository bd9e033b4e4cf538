-- Lists that are written an entry or a part at a time: what holds of the entries so far holds of one more. Assumes nothing.
use mathlib.Core.Path.{◌≡◌, sym, ◌∙◌, subst}
use mathlib.Core.List.{List, ◌++◌}
use Prim.Native.Nat.{ℕ, ◌+◌, ◌-◌, ◌*◌, ◌≤◌, ◌<◌}
use native.Mathlib.Decide.{dec_lt}
use native.Mathlib.Omega.{arith}
use lib.ListN.{length, get_or, take, drop, set, length-drop}
use lib.Seq.{length-take-le, get_or-set_same, get_or-set_other}
use Rattle.memory.specs.Lists.{put}
use Rattle.memory.proofs.Lists.{room}
use Rattle.memory.proofs.Parts.{get_or-put-before, get_or-put_in, lent-put}

-- one entry more
pub entry_more : (P : ℕ → ℕ → Type 0) (out : List ℕ) (k v : ℕ) → k < length out → ((j : ℕ) → j < k → P j (get_or out j 0)) → P k v
    → (j : ℕ) → j < k + 1 → P j (get_or (set out k v) j 0)
entry_more P out k v h done next j g =
    elim (dec_lt j k) as (λ d. P j (get_or (set out k v) j 0)) [
      | yes y ↦ subst (P j) (sym (get_or-set_other out k j v 0 (λ z. omega arith))) (done j y)
      | no y ↦ (let z : k ≡ j = omega arith in subst (λ (i : ℕ). P i (get_or (set out k v) i 0)) z (subst (P k) (sym (get_or-set_same out k v 0 h)) next))
    ]

-- ---- one part of w entries more

-- P holds of entry e of the d-th part of w entries, for d below a count
abbrev Parts : (ℕ → ℕ → ℕ → Type 0) → ℕ → ℕ → List ℕ → Type 0
Parts P w count t = (d e : ℕ) → d < count → e < w → P d e (get_or t (d * w + e) 0)

module _ (P : ℕ → ℕ → ℕ → Type 0) (w c : ℕ) (t ys : List ℕ) (done : Parts P w c t) (next : (e : ℕ) → e < w → P c e (get_or ys e 0)) where
  part_more : length ys ≡ w → c * w + w ≤ length t → Parts P w (c + 1) (put t (c * w) ys)
  part_more size fits d e hd he =
      elim (dec_lt d c) as (λ p. P d e (get_or (put t (c * w) ys) (d * w + e) 0)) [
        | yes y ↦
            (let r = room d c w y in
            subst (P d e) (sym (get_or-put-before t (c * w) ys (omega arith) (d * w + e) (omega arith))) (done d e y he))
        | no y ↦
            (let g : c ≡ d = omega arith in
            subst (λ (k : ℕ). P k e (get_or (put t (c * w) ys) (k * w + e) 0)) g
            (subst (P c e) (sym (get_or-put_in t (c * w) ys (omega arith) e (omega arith))) (next e he)))
      ]

  -- the part as it is lent and comes back
  pub part-lent : length ys ≡ length (take (c * w + w - c * w) (drop (c * w) t)) → c * w + w ≤ length t
      → Parts P w (c + 1) (take (c * w) t ++ (ys ++ drop (c * w + w - c * w) (drop (c * w) t)))
  part-lent kept fits =
      let size : length ys ≡ c * w + w - c * w = kept ∙ length-take-le (c * w + w - c * w) (drop (c * w) t) (simp length-drop (omega arith)) in
      subst (Parts P w (c + 1)) (sym (lent-put t (c * w) (c * w + w) ys size)) (part_more (omega arith) fits)
