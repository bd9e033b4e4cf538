-- The values of a repetition, laid one after another: how they come about part by part, their size, and where each of them is read again. Assumes nothing.
use mathlib.Core.Path.{◌≡◌, sym, ap, ap₂, ◌∙◌}
use mathlib.Core.List.{List, ◌++◌, append_assoc}
use Prim.Native.Nat.{ℕ, ◌+◌, ◌-◌, ◌*◌, ◌≤◌}
use native.Mathlib.Omega.{arith}
use lib.ListN.{length, take, drop, replicate, length-append, length-drop}
use lib.Seq.{take_at, drop_at, take-append-le, drop-append-le, length-take-le}
use Rattle.memory.specs.Lists.{over}
use Rattle.memory.proofs.Stores.{over-whole}
use Rattle.memory.proofs.Xors.{get_or_zeros}
use Rattle.memory.proofs.Parts.{length-lent}
use Rattle.field.specs.Packing.{Elements, unpack, packed_length}
use Rattle.field.proofs.Packing.{length-unpack, unpack-elements}
use Rattle.sets.specs.declared.Params.{Params}
use Rattle.forms.specs.Room.{challenge_in}
use Rattle.group.specs.Shares.{delta_s, delta_c, epsilon, target}
use Rattle.vectors.specs.Elements.{elements_at}
use Rattle.vectors.proofs.Elements.{length-elements_at, elements_at_elements}
use Rattle.biscuit.proofs.Parts.{four_sizes, four_sections}
use Rattle.biscuit.proofs.Repeated.{append-elements, take-elements, drop-elements}
use Rattle.passes.specs.Passes.{t_in}
use Rattle.reps.specs.Reps.{rep_of}
use Rattle.replies.specs.Replies.{values_in}

-- ---- parts of lists

-- the part behind the first
second-part : (u v w : List ℕ) (a m : ℕ) → length u ≡ a → length v ≡ m → take m (drop a (u ++ (v ++ w))) ≡ v
second-part u v w a m eu ev = ap (take m) (drop_at u (v ++ w) a eu) ∙ take_at v w m ev

-- ---- the values

module _ (P : Params) (e : ℕ) (secret packing challenges : List ℕ) (size : length secret ≡ P.n + P.m + P.m) where
  pub length-t_in : length (t_in P secret) ≡ P.m
  unfolding t_in
  length-t_in = length-take-le P.m (drop P.n secret) (simp length-drop (omega arith))

  length-corrections : length (elements_at packing ((e - 1) * (P.n + P.m)) (P.n + P.m)) ≡ P.n + P.m
  length-corrections = length-elements_at packing ((e - 1) * (P.n + P.m)) (P.n + P.m)

  length-challenge : length (challenge_in P.m challenges e) ≡ P.m
  unfolding challenge_in
  length-challenge = length-unpack P.m (drop ((e - 1) * packed_length P.m) challenges)

  pub values_elements : Elements secret → Elements (values_in P e secret packing challenges)
  unfolding values_in challenge_in t_in
  values_elements h =
      append-elements (elements_at packing ((e - 1) * (P.n + P.m)) (P.n + P.m)) _ (elements_at_elements packing ((e - 1) * (P.n + P.m)) (P.n + P.m))
      (append-elements (unpack P.m (drop ((e - 1) * packed_length P.m) challenges)) _ (unpack-elements P.m (drop ((e - 1) * packed_length P.m) challenges))
      (append-elements (take P.m (drop P.n secret)) (replicate P.m 0) (take-elements P.m (drop P.n secret) (drop-elements P.n secret h))
      (λ i. let z = get_or_zeros P.m i in omega arith)))

  pub delta_s_values : delta_s (rep_of P e 0) (values_in P e secret packing challenges) ≡ take P.n (elements_at packing ((e - 1) * (P.n + P.m)) (P.n + P.m))
  unfolding delta_s values_in
  delta_s_values = take-append-le P.n (elements_at packing ((e - 1) * (P.n + P.m)) (P.n + P.m)) _ (let l = length-corrections in omega arith)

  pub delta_c_values : delta_c (rep_of P e 0) (values_in P e secret packing challenges) ≡ take P.m (drop P.n (elements_at packing ((e - 1) * (P.n + P.m)) (P.n + P.m)))
  unfolding delta_c values_in
  delta_c_values =
      let l = length-corrections in
      ap (take P.m) (drop-append-le P.n (elements_at packing ((e - 1) * (P.n + P.m)) (P.n + P.m)) _ (omega arith))
      ∙ take-append-le P.m (drop P.n (elements_at packing ((e - 1) * (P.n + P.m)) (P.n + P.m))) _ (simp length-drop (omega arith))

  pub epsilon_values : epsilon (rep_of P e 0) (values_in P e secret packing challenges) ≡ challenge_in P.m challenges e
  unfolding epsilon values_in
  epsilon_values = second-part (elements_at packing ((e - 1) * (P.n + P.m)) (P.n + P.m)) (challenge_in P.m challenges e) _ (P.n + P.m) P.m length-corrections length-challenge

  pub target_values : target (rep_of P e 0) (values_in P e secret packing challenges) ≡ t_in P secret
  unfolding target values_in
  target_values =
      let d = elements_at packing ((e - 1) * (P.n + P.m)) (P.n + P.m) in
      let c = challenge_in P.m challenges e in
      let a = length-corrections in
      let b = length-challenge in
      ap (λ (x : List ℕ). take P.m (drop (P.n + P.m + P.m) x)) (sym (append_assoc d c (t_in P secret ++ replicate P.m 0)))
      ∙ second-part (d ++ c) (t_in P secret) (replicate P.m 0) (P.n + P.m + P.m) P.m (simp length-append (omega arith)) length-t_in

-- ---- the four parts, written one after another

-- t, as the code lends it
copied_size : (P : Params) (secret : List ℕ) (a : ℕ) → length secret ≡ P.n + P.m + P.m → a ≡ P.n + P.m → length (take (a - P.n) (drop P.n secret)) ≡ P.m
copied_size P secret a h e = length-lent secret P.n a (omega arith) (omega arith) ∙ (let q : a - P.n ≡ P.m = omega arith in q)

copied_part : (P : Params) (secret : List ℕ) (a : ℕ) → a ≡ P.n + P.m → take (a - P.n) (drop P.n secret) ≡ take P.m (drop P.n secret)
copied_part P secret a e = ap (λ (k : ℕ). take k (drop P.n secret)) (let q : a - P.n ≡ P.m = omega arith in q)

module _ (x y z w old v₁ v₂ v₃ v₄ : List ℕ) (a b c d : ℕ) (ab : a ≤ b) (bc : b ≤ c) (cd : c ≤ d) (room : length old ≡ d)
    (e₁ : v₁ ≡ take 0 old ++ (x ++ drop (a - 0) (drop 0 old)))
    (e₂ : v₂ ≡ take a v₁ ++ (y ++ drop (b - a) (drop a v₁)))
    (e₃ : v₃ ≡ take b v₂ ++ (z ++ drop (c - b) (drop b v₂)))
    (e₄ : v₄ ≡ take c v₃ ++ (w ++ drop (d - c) (drop c v₃)))
    (kx : length x ≡ length (take (a - 0) (drop 0 old)))
    (ky : length y ≡ length (take (b - a) (drop a v₁)))
    (kz : length z ≡ length (take (c - b) (drop b v₂)))
    (kw : length w ≡ length (take (d - c) (drop c v₃))) where
  -- with what each call writes
  pub filled_values : (P : Params) (e : ℕ) (secret packing challenge : List ℕ) → length secret ≡ P.n + P.m + P.m → a ≡ P.n + P.m → b - a ≡ P.m → c - b ≡ P.m → d - c ≡ P.m
      → x ≡ elements_at packing ((e - 1) * a) (length (take (a - 0) (drop 0 old)))
      → y ≡ unpack (length (take (b - a) (drop a v₁))) challenge
      → z ≡ over (take (a - P.n) (drop P.n secret)) (take (c - b) (drop b v₂))
      → w ≡ replicate (length (take (d - c) (drop c v₃))) 0
      → v₄ ≡ elements_at packing ((e - 1) * (P.n + P.m)) (P.n + P.m) ++ (unpack P.m challenge ++ (t_in P secret ++ replicate P.m 0))
  unfolding t_in
  filled_values P e secret packing challenge size ea eb ec ed ex ey ez ew =
      let s = four_sizes x y z old v₁ v₂ v₃ a b c d ab bc cd room e₁ e₂ e₃ kx ky kz in
      four_sections x y z old v₁ v₂ v₃ a b c d ab bc cd room e₁ e₂ e₃ w v₄ e₄ (kx ∙ s.first_is) (ky ∙ s.second_is) (kz ∙ s.third_is) (kw ∙ s.fourth_is)
      ∙ ap₂ (λ (u v : List ℕ). u ++ v) (ex ∙ ap (elements_at packing ((e - 1) * a)) s.first_is ∙ ap (λ (k : ℕ). elements_at packing ((e - 1) * k) k) ea)
      (ap₂ (λ (u v : List ℕ). u ++ v) (ey ∙ ap (λ (k : ℕ). unpack k challenge) (s.second_is ∙ eb))
      (ap₂ (λ (u v : List ℕ). u ++ v)
      (ez ∙ over-whole (take (a - P.n) (drop P.n secret)) (take (c - b) (drop b v₂)) (copied_size P secret a size ea ∙ sym (s.third_is ∙ ec)) ∙ copied_part P secret a ea)
      (ew ∙ ap (λ (k : ℕ). replicate k 0) (s.fourth_is ∙ ed))))
