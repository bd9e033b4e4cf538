-- One repetition is shown: the path and the commitment lie one behind the other in the part lent for them, and the leaf takes the root's place.
-- Assumes nothing.
use mathlib.Core.Path.{◌≡◌, sym, ap, ap₂, ◌∙◌}
use mathlib.Core.List.{List, [], ◌++◌, append-nil, flatten}
use Prim.Native.Nat.{ℕ, ◌+◌, ◌-◌, ◌*◌, ◌≤◌}
use native.Mathlib.Nat.{sub-zero}
use native.Mathlib.Omega.{arith}
use lib.ListN.{length, get_or, take, drop, length-append, length-drop, drop_of_length-le}
use lib.Seq.{length-take-le}
use Rattle.memory.specs.Lists.{over, put}
use Rattle.memory.proofs.Parts.{lent-put, over-put, put_section, put_whole}
use Rattle.memory.proofs.Xors.{lent_start, length_part, part-sized}
use Rattle.sponge.specs.Sponge.{shake256}
use Rattle.sponge.proofs.Laws.{length-shake256}
use Rattle.hashes.specs.Hashes.{commit, commit_fields}
use Rattle.hashes.proofs.Laws.{length-commit}
use Rattle.tree.specs.Tree.{children, get_seeds, get_path}
use Rattle.tree.proofs.Walking.{length-path}
use Rattle.opening.specs.Shown.{leaf_under, shown_under}

-- two parts lent one after another, which together fill the whole
pub two_parts : (out y z : List ℕ) (a n : ℕ) → length out ≡ a + n → length y ≡ a → length z ≡ n
    → take a (take 0 out ++ (y ++ drop (a - 0) (drop 0 out))) ++ (z ++ drop (a + n - a) (drop a (take 0 out ++ (y ++ drop (a - 0) (drop 0 out))))) ≡ y ++ z
two_parts out y z a n h ly lz =
    lent-put (take 0 out ++ (y ++ drop (a - 0) (drop 0 out))) a (a + n) z (omega arith)
    ∙ ap (λ (k : ℕ). put (y ++ drop k out) a z) (sub-zero a)
    ∙ put_section y out a z ly
    ∙ ap (λ (x : List ℕ). (y ++ z) ++ x) (drop_of_length-le out {i = a + length z} (omega arith))
    ∙ append-nil (y ++ z)

pub length-shown_under : (S : ℕ) (salt : List ℕ) (e L : ℕ) (root : List ℕ) (h : ℕ) → length (shown_under S salt e L root h) ≡ L * S + 2 * S
unfolding shown_under
length-shown_under S salt e L root h =
    length-append (flatten (get_path (children S salt e) L root h)) (commit S salt e h (leaf_under S salt e L root h))
    ∙ ap₂ (λ (a b : ℕ). a + b) (length-path S salt e L root h) (length-commit S salt e h (leaf_under S salt e L root h))

-- `leaf` was lent from its start for S bytes and came back with x
module _ (S : ℕ) (salt : List ℕ) (e L : ℕ) (root : List ℕ) (h : ℕ) (leaf x : List ℕ) (fits : S ≤ length leaf) (kept : length x ≡ length (take (S - 0) (drop 0 leaf)))
    (made : x ≡ get_or (get_seeds (children S salt e) L root) (h - 1) []) where
  leaf_lent : take (S - 0) (drop 0 (take 0 leaf ++ (x ++ drop (S - 0) (drop 0 leaf)))) ≡ leaf_under S salt e L root h
  unfolding leaf_under
  leaf_lent = lent_start leaf x S fits kept ∙ made

  -- the leaf over the root
  pub leaf_over-root : (new : List ℕ) → length root ≡ S → new ≡ over (take (S - 0) (drop 0 (take 0 leaf ++ (x ++ drop (S - 0) (drop 0 leaf))))) root
      → new ≡ leaf_under S salt e L root h
  unfolding leaf_under
  leaf_over-root new n o =
      let own = lent_start leaf x S fits kept in
      let size = kept ∙ length-take-le (S - 0) leaf (omega arith) in
      o
      ∙ ap (λ (y : List ℕ). over y root) own
      ∙ over-put x root (omega arith)
      ∙ put_whole root x (omega arith)
      ∙ made

  -- the path, and behind it the commitment to the leaf
  pub shown-written : (out y z : List ℕ) → length out ≡ L * S + 2 * S → y ≡ flatten (get_path (children S salt e) L root h)
      → z ≡ shake256 (commit_fields salt e h (take (S - 0) (drop 0 (take 0 leaf ++ (x ++ drop (S - 0) (drop 0 leaf))))))
      (length (take (L * S + 2 * S - L * S) (drop (L * S) (take 0 out ++ (y ++ drop (L * S - 0) (drop 0 out))))))
      → take (L * S) (take 0 out ++ (y ++ drop (L * S - 0) (drop 0 out))) ++ (z ++ drop (L * S + 2 * S - L * S) (drop (L * S) (take 0 out ++ (y ++ drop (L * S - 0) (drop 0 out)))))
      ≡ shown_under S salt e L root h
  unfolding shown_under commit
  shown-written out y z n p q =
      two_parts out y z (L * S) (2 * S) n way (ap length q ∙ length-shake256 _ _ ∙ room)
      ∙ ap₂ (λ (a b : List ℕ). a ++ b) p (q ∙ ap₂ (λ (s : List ℕ) (k : ℕ). shake256 (commit_fields salt e h s) k) leaf_lent room)
    where
      way : length y ≡ L * S
      way = ap length p ∙ length-path S salt e L root h

      whole : length (take 0 out ++ (y ++ drop (L * S - 0) (drop 0 out))) ≡ L * S + 2 * S
      whole = let u = way in length-append y (drop (L * S - 0) out) ∙ simp length-drop (omega arith)

      room : length (take (L * S + 2 * S - L * S) (drop (L * S) (take 0 out ++ (y ++ drop (L * S - 0) (drop 0 out))))) ≡ 2 * S
      room =
          ap length (part-sized (take 0 out ++ (y ++ drop (L * S - 0) (drop 0 out))) (L * S) (2 * S))
          ∙ length_part (take 0 out ++ (y ++ drop (L * S - 0) (drop 0 out))) (L * S) (2 * S) (let u = whole in omega arith)

-- ---- in the parts lent for them

-- the section of a root's length has room for the path and the commitment
pub section_size : (out root l s : ℕ) → root ≡ s → out ≡ l * s + 2 * s → out ≡ l * root + 2 * root
section_size out root l s r o = o ∙ ap (λ (k : ℕ). l * k + 2 * k) (sym r)

-- what g makes of a root and its length, where the root is a part of `roots`
module _ (g : ℕ → List ℕ → ℕ → List ℕ) (roots : List ℕ) (from size h h' : ℕ) (fits : from + size ≤ length roots) (same : h ≡ h') where
  pub under_part : g (length (take (from + size - from) (drop from roots))) (take (from + size - from) (drop from roots)) h ≡ g size (take size (drop from roots)) h'
  under_part =
      ap₂ (λ (x : List ℕ) (i : ℕ). g (length x) x i) (part-sized roots from size) same
      ∙ ap (λ (n : ℕ). g n (take size (drop from roots)) h') (length_part roots from size fits)

-- a part of `size` bytes that was lent and came back as `new`
pub part-put : (old y new : List ℕ) (at size : ℕ) → at + size ≤ length old → length y ≡ length (take (at + size - at) (drop at old)) → y ≡ new
    → take at old ++ (y ++ drop (at + size - at) (drop at old)) ≡ put old at new
part-put old y new at size f n e =
    lent-put old at (at + size) y (n ∙ length-take-le (at + size - at) (drop at old) (simp length-drop (omega arith))) ∙ ap (put old at) e
