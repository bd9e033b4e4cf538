-- Elements written half byte by half byte: one half of a byte is new and the other as it was, and after the last half byte all are written. Assumes nothing.
use mathlib.Core.Path.{◌≡◌, refl, sym, ap, ◌∙◌}
use mathlib.Core.List.{List}
use Prim.Native.Nat.{ℕ, ◌+◌, ◌-◌, ◌*◌, ◌/◌, ◌%◌, ◌^◌, ◌≤◌, ◌<◌}
use native.Mathlib.Decide.{ℕ_discrete, dec_lt}
use native.Mathlib.Omega.{arith}
use lib.ListN.{length, get_or, set, length-set}
use lib.Seq.{get_or-set_same, get_or-set_other}
use Rattle.field.specs.Packing.{Bytes, nib}
use Rattle.field.proofs.Packing.{nib-even, nib_odd, bytes_by_halves}
use Rattle.vectors.specs.Elements.{elements_put, HalfPut}
use Rattle.vectors.proofs.Writing.{length-elements-put, elements-put-bytes, nib-put-before, nib-put_inside, nib-put-behind}

-- the first n elements are written from the half byte `at` on
pub record Laid (n : ℕ) (v : List ℕ) (at : ℕ) (old new : List ℕ) : Type 0 where
  pub kept : length new ≡ length old
  pub before : (j : ℕ) → j < at → nib new j ≡ nib old j
  pub inside : (k : ℕ) → k < n → nib new (at + k) ≡ get_or v k 0 % 16
  pub behind : (j : ℕ) → at + n ≤ j → nib new j ≡ nib old j
  pub bytes : Bytes new

pub laid_none : (v : List ℕ) (at : ℕ) (b : List ℕ) → Bytes b → Laid 0 v at b b
laid_none v at b h = record { kept = refl; before = λ j l. refl; inside = λ k l. absurd (omega arith); behind = λ j l. refl; bytes = h }

pub laid_more : (n : ℕ) (v : List ℕ) (at : ℕ) (old cur new : List ℕ) → Laid n v at old cur → HalfPut (get_or v n 0) (at + n) cur new → Laid (n + 1) v at old new
laid_more n v at old cur new l p = record {
  kept = p.kept ∙ l.kept;
  before = λ j h. p.others j (λ e. omega arith) ∙ l.before j h;
  inside = λ k h. elim (ℕ_discrete k n) as (λ d. nib new (at + k) ≡ get_or v k 0 % 16) [
    | yes y ↦ ap (λ (i : ℕ). nib new (at + i)) y ∙ p.here ∙ ap (λ (i : ℕ). get_or v i 0 % 16) (sym y)
    | no y ↦ p.others (at + k) (λ e. y (omega arith)) ∙ l.inside k (omega arith)
  ];
  behind = λ j h. p.others j (λ e. omega arith) ∙ l.behind j (omega arith);
  bytes = p.bytes l.bytes;
}

pub laid_all : (v : List ℕ) (at : ℕ) (old new : List ℕ) (n : ℕ) → Laid n v at old new → n ≡ length v → new ≡ elements_put v at old
laid_all v at old new n l e =
    bytes_by_halves new (elements_put v at old) l.bytes (elements-put-bytes v at old) (l.kept ∙ sym (length-elements-put v at old))
    (λ j h. half j (let k = l.kept in omega arith))
  where
    half : (j : ℕ) → j < 2 * length old → nib new j ≡ nib (elements_put v at old) j
    half j h =
        elim (dec_lt j at) as (λ d. nib new j ≡ nib (elements_put v at old) j) [
          | yes y ↦ l.before j y ∙ sym (nib-put-before v at old j h y)
          | no y ↦
              elim (dec_lt j (at + n)) as (λ d. nib new j ≡ nib (elements_put v at old) j) [
                | yes z ↦
                    (let g : at + (j - at) ≡ j = omega arith in
                    ap (nib new) (sym g) ∙ l.inside (j - at) (omega arith)
                    ∙ sym (nib-put_inside v at old (j - at) (omega arith) (omega arith)) ∙ ap (nib (elements_put v at old)) g)
                | no z ↦ l.behind j (omega arith) ∙ sym (nib-put-behind v at old j h (omega arith))
              ]
        ]

-- ---- one half byte

-- a byte stored, of which one half is new and the other as it was
module _ (b : List ℕ) (i y : ℕ) (h : i < length b) where
  set-even : nib (set b i y) (i * 2) ≡ y % 16
  set-even = nib-even (set b i y) i ∙ ap (λ (n : ℕ). n % 16) (get_or-set_same b i y 0 h)

  set_odd : nib (set b i y) (i * 2 + 1) ≡ y / 16 % 16
  set_odd = nib_odd (set b i y) i ∙ ap (λ (n : ℕ). n / 16 % 16) (get_or-set_same b i y 0 h)

  set_elsewhere : (k : ℕ) → (k / 2 ≡ i → ⊥) → nib (set b i y) k ≡ nib b k
  unfolding nib
  set_elsewhere k n = ap (λ (x : ℕ). x / 16 ^ (k % 2) % 16) (get_or-set_other b i (k / 2) y 0 n)

  set-bytes : y < 256 → Bytes b → Bytes (set b i y)
  set-bytes l g k =
      elim (ℕ_discrete k i) as (λ d. get_or (set b i y) k 0 < 256) [
        | yes e ↦ (let s = get_or-set_same b i y 0 h in let t = ap (λ (n : ℕ). get_or (set b i y) n 0) e in omega arith)
        | no e ↦ (let s = get_or-set_other b i k y 0 e in let t = g k in omega arith)
      ]

pub low_put : (x j : ℕ) (b : List ℕ) → j % 2 ≡ 0 → j < 2 * length b → get_or b (j / 2) 0 < 256
    → HalfPut x j b (set b (j / 2) (get_or b (j / 2) 0 / 16 * 16 + x % 16))
low_put x j b e h l = record {
  kept = length-set b (j / 2) _;
  here = ap (nib (set b (j / 2) y)) place ∙ set-even b (j / 2) y inside ∙ (let g : y % 16 ≡ x % 16 = omega arith in g);
  others = λ k n. elim (ℕ_discrete (k / 2) (j / 2)) as (λ d. nib (set b (j / 2) y) k ≡ nib b k) [
    | yes f ↦ (let g : k ≡ j / 2 * 2 + 1 = other k n f in
        ap (nib (set b (j / 2) y)) g ∙ set_odd b (j / 2) y inside ∙ (let t : y / 16 % 16 ≡ get_or b (j / 2) 0 / 16 % 16 = omega arith in t)
        ∙ sym (nib_odd b (j / 2)) ∙ ap (nib b) (sym g))
    | no f ↦ set_elsewhere b (j / 2) y inside k f
  ];
  bytes = set-bytes b (j / 2) y inside (omega arith);
}
  where
    y : ℕ
    y = get_or b (j / 2) 0 / 16 * 16 + x % 16

    place : j ≡ j / 2 * 2
    place = omega arith

    inside : j / 2 < length b
    inside = omega arith

    other : (k : ℕ) → (k ≡ j → ⊥) → k / 2 ≡ j / 2 → k ≡ j / 2 * 2 + 1
    other k n f = omega arith

pub high_put : (x j : ℕ) (b : List ℕ) → (j % 2 ≡ 0 → ⊥) → j < 2 * length b → get_or b (j / 2) 0 < 256
    → HalfPut x j b (set b (j / 2) (get_or b (j / 2) 0 % 16 + x % 16 * 16))
high_put x j b e h l = record {
  kept = length-set b (j / 2) _;
  here = ap (nib (set b (j / 2) y)) place ∙ set_odd b (j / 2) y inside ∙ (let g : y / 16 % 16 ≡ x % 16 = omega arith in g);
  others = λ k n. elim (ℕ_discrete (k / 2) (j / 2)) as (λ d. nib (set b (j / 2) y) k ≡ nib b k) [
    | yes f ↦ (let g : k ≡ j / 2 * 2 = other k n f in
        ap (nib (set b (j / 2) y)) g ∙ set-even b (j / 2) y inside ∙ (let t : y % 16 ≡ get_or b (j / 2) 0 % 16 = omega arith in t)
        ∙ sym (nib-even b (j / 2)) ∙ ap (nib b) (sym g))
    | no f ↦ set_elsewhere b (j / 2) y inside k f
  ];
  bytes = set-bytes b (j / 2) y inside (omega arith);
}
  where
    y : ℕ
    y = get_or b (j / 2) 0 % 16 + x % 16 * 16

    place : j ≡ j / 2 * 2 + 1
    place = omega arith

    inside : j / 2 < length b
    inside = omega arith

    other : (k : ℕ) → (k ≡ j → ⊥) → k / 2 ≡ j / 2 → k ≡ j / 2 * 2
    other k n f = omega arith
