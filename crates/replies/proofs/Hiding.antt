-- Of phase 5 the hidden α, repetition after repetition: each goes behind all corrections, and those stay; and what this is to a signer that has what is lent. Assumes nothing.
use mathlib.Core.Path.{◌≡◌, refl, sym, ap, subst, ◌∙◌}
use mathlib.Core.Bool.{Bool, true, false, cond}
use mathlib.Core.List.{List, [], ◌++◌}
use Prim.Native.Nat.{ℕ, ◌+◌, ◌-◌, ◌*◌, ◌≤◌, ◌<◌}
use native.Mathlib.Omega.{arith}
use lib.Dec.{eqb}
use lib.ListN.{length, get_or, take, drop, replicate}
use Rattle.field.specs.Packing.{Elements, Bytes, nib, packed_length}
use Rattle.field.specs.Vectors.{◌⊕◌}
use Rattle.field.proofs.Packing.{unpack-elements}
use Rattle.sets.specs.Sets.{S}
use Rattle.sets.specs.declared.Params.{Params}
use Rattle.forms.specs.Circuit.{Circuit}
use Rattle.forms.specs.Sampling.{sample_elements}
use Rattle.forms.specs.Room.{circuit_in, HoldsCircuit, challenge_in, hidden_in}
use Rattle.forms.proofs.Circuit.{Equations}
use Rattle.forms.proofs.Sampling.{length-sample_elements}
use Rattle.parties.specs.Parties.{Share, corrected}
use Rattle.parties.specs.Repetition.{raw_share}
use Rattle.parties.proofs.ShareElements.{alpha_of-elements}
use Rattle.parties.proofs.Sizes.{length-alpha_of}
use Rattle.answers.proofs.Sizes.{equations_in}
use Rattle.vectors.specs.Elements.{elements_at, elements_put}
use Rattle.vectors.proofs.Writing.{nib-put-before}
use Rattle.biscuit.specs.Signature.{repeated, vector_count}
use Rattle.biscuit.specs.Sign as sign
use Rattle.biscuit.specs.Sign.{Signer}
use Rattle.biscuit.specs.Room.{leaves_at, roots_at, challenges_at, root_in}
use Rattle.biscuit.proofs.Repeated.{among}
use Rattle.biscuit.proofs.Room.{hidden_from_one, hidden-within}
use Rattle.passes.specs.Passes.{t_in, HoldsCorrections}
use Rattle.passes.proofs.Bounds.{packing_holds, alpha-end}
use Rattle.passes.proofs.Placing.{placed_none, placed_more, placed_read, elements-below}
use Rattle.replies.specs.Replies.{Challenged, HoldsHidden, values_in, alpha_in, alpha_shown, alpha_at}
use Rattle.replies.proofs.Signed.{alpha-signed}

-- ---- what a signer has, as it lies in bytes

-- the bytes begin with the leaves of the hidden parties of all repetitions
unfoldable pub HoldsLeaves : Params → Signer → List ℕ → List ℕ → Type 0
HoldsLeaves P signer msg leaves = (e : ℕ) → 1 ≤ e → e ≤ P.tau → root_in (S P) leaves e ≡ get_or (sign.seeds P signer e) (sign.hidden P signer msg e - 1) []

-- algorithm 12, line 40: the hidden α of the repetitions up to `count`
unfoldable pub HoldsAlphas : Params → Signer → List ℕ → ℕ → List ℕ → Type 0
HoldsAlphas P signer msg count packing =
    (e : ℕ) → 1 ≤ e → e ≤ count → elements_at packing (alpha_at P e) P.m ≡ get_or (sign.αs P signer msg e) (sign.hidden P signer msg e - 1) []

-- ---- one repetition

corrected-mask : (Δs Δc : List ℕ) (i : ℕ) (p : Share) → p.a ≡ (corrected Δs Δc i p).a
unfolding corrected
corrected-mask Δs Δc i p = of (eqb i 1)
  where
    of : (b : Bool) → p.a ≡ (cond b (record { s = p.s ⊕ Δs; a = p.a; c = p.c ⊕ Δc }) p).a
    of true = refl
    of false = refl

alpha_in-elements : (P : Params) (f : Circuit) (e i : ℕ) (salt values leaf : List ℕ) → Elements (alpha_in P f e i salt values leaf)
unfolding alpha_in raw_share sample_elements
alpha_in-elements P f e i salt values leaf =
    alpha_of-elements f _ i _ (subst (λ (v : List ℕ). Elements v) (corrected-mask _ _ i (raw_share P salt e i leaf)) (unpack-elements P.m _))

length-alpha_in : (P : Params) (f : Circuit) (bytes : List ℕ) → HoldsCircuit P.n P.m f bytes → (e i : ℕ) (salt values leaf : List ℕ) → length (alpha_in P f e i salt values leaf) ≡ P.m
unfolding alpha_in raw_share HoldsCircuit
length-alpha_in P f bytes held e i salt values leaf =
    length-alpha_of P.m f _ i _ (subst (λ (c : Circuit). Equations P.m c) held (equations_in P.n P.m bytes))
    (ap length (sym (corrected-mask _ _ i (raw_share P salt e i leaf))) ∙ length-sample_elements _ _ P.m)

-- worked out from the values, and written
pub placed-alpha : (P : Params) (f : Circuit) (e i : ℕ) (salt values given leaf alpha before after : List ℕ) → given ≡ values → alpha ≡ alpha_in P f e i salt given leaf
    → after ≡ elements_put alpha (alpha_at P e) before → after ≡ elements_put (alpha_in P f e i salt values leaf) (alpha_at P e) before
placed-alpha P f e i salt values given leaf alpha before after ev ea ep =
    ep ∙ ap (λ (v : List ℕ). elements_put v (alpha_at P e) before) (ea ∙ ap (λ (v : List ℕ). alpha_in P f e i salt v leaf) ev)

-- the party as the code counts it
pub placed-party : (P : Params) (f : Circuit) (e : ℕ) (salt values leaf before after : List ℕ) (i j : ℕ) → i ≡ j
    → after ≡ elements_put (alpha_in P f e i salt values leaf) (alpha_at P e) before → after ≡ elements_put (alpha_in P f e j salt values leaf) (alpha_at P e) before
placed-party P f e salt values leaf before after i j h p = p ∙ ap (λ (k : ℕ). elements_put (alpha_in P f e k salt values leaf) (alpha_at P e) before) h

-- ---- what lies below the α

-- below the corrections' end nothing has changed
abbrev pub SameBelow : ℕ → List ℕ → List ℕ → Type 0
SameBelow at before after = (j : ℕ) → j < at → nib after j ≡ nib before j

below_put : (P : Params) (v before after : List ℕ) → length before ≡ packed_length (vector_count P) → after ≡ elements_put v (P.tau * (P.n + P.m)) before → SameBelow (P.tau * (P.n + P.m)) before after
below_put P v before after room e j h =
    ap (λ (b : List ℕ). nib b j) e ∙ nib-put-before v (P.tau * (P.n + P.m)) before j (let p = packing_holds P in omega arith) h

-- the values of a repetition are as they were
values_below : (P : Params) (e : ℕ) (secret before after challenges : List ℕ) → 1 ≤ e → e ≤ P.tau → SameBelow (P.tau * (P.n + P.m)) before after
    → values_in P e secret after challenges ≡ values_in P e secret before challenges
unfolding values_in
values_below P e secret before after challenges from to h =
    ap (λ (d : List ℕ). d ++ (challenge_in P.m challenges e ++ (t_in P secret ++ replicate P.m 0)))
    (elements-below (P.tau * (P.n + P.m)) ((e - 1) * (P.n + P.m)) (P.n + P.m) before after h (among e P.tau (P.n + P.m) from to))

-- the corrections are still those of the signer
pub challenged-below : (P : Params) (signer : Signer) (msg salt secret before after work : List ℕ) → SameBelow (P.tau * (P.n + P.m)) before after
    → Challenged P signer msg salt secret before work → Challenged P signer msg salt secret after work
unfolding HoldsCorrections
challenged-below P signer msg salt secret before after work h k = record {
  held = k.held;
  circuit = k.circuit;
  challenges = k.challenges;
  corrections = λ e a b. elements-below (P.tau * (P.n + P.m)) ((e - 1) * (P.n + P.m)) (P.n + P.m) before after h (among e P.tau (P.n + P.m) a b) ∙ k.corrections e a b;
}

-- ---- the loop

-- the hidden α of the repetitions up to `count`
abbrev pub alphas_up_to : Params → Circuit → List ℕ → List ℕ → List ℕ → List ℕ → List ℕ → ℕ → List ℕ
alphas_up_to P f salt secret hidden packing work count = repeated count (λ e. alpha_shown P f e salt secret hidden packing work)

-- they stand behind the corrections, whatever circuit work holds
abbrev pub ShownTo : Params → List ℕ → List ℕ → List ℕ → List ℕ → ℕ → List ℕ → List ℕ → Type 0
ShownTo P salt secret hidden work count first packing =
    (f : Circuit) → HoldsCircuit P.n P.m f (take (leaves_at P) work) → packing ≡ elements_put (alphas_up_to P f salt secret hidden first work count) (P.tau * (P.n + P.m)) first

pub shown_none : (P : Params) (salt secret hidden work packing : List ℕ) → Bytes packing → ShownTo P salt secret hidden work 0 packing packing
shown_none P salt secret hidden work packing bytes f held = placed_none (P.tau * (P.n + P.m)) (λ e. alpha_shown P f e salt secret hidden packing work) packing bytes

next_place : (P : Params) (count : ℕ) → alpha_at P (count + 1) ≡ P.tau * (P.n + P.m) + count * P.m
unfolding alpha_at
next_place P count = ap (λ (i : ℕ). P.tau * (P.n + P.m) + i * P.m) (let z : count + 1 - 1 ≡ count = omega arith in z)

next_fits : (P : Params) (count : ℕ) → count < P.tau → P.tau * (P.n + P.m) + count * P.m + P.m ≤ 2 * packed_length (vector_count P)
next_fits P count less =
    let e = alpha-end P (count + 1) (omega arith) (omega arith) in
    let z = ap (λ (i : ℕ). i * P.m) (let z : count + 1 - 1 ≡ count = omega arith in z) in
    omega arith

pub shown_more : (P : Params) (salt secret hidden work first before after : List ℕ) (count : ℕ) → length first ≡ packed_length (vector_count P) → count < P.tau
    → ShownTo P salt secret hidden work count first before
    → ((f : Circuit) → HoldsCircuit P.n P.m f (take (leaves_at P) work) → after ≡ elements_put (alpha_shown P f (count + 1) salt secret hidden before work) (alpha_at P (count + 1)) before)
    → ShownTo P salt secret hidden work (count + 1) first after
shown_more P salt secret hidden work first before after count room less done turn f held =
    let same = values_below P (count + 1) secret first before (drop (challenges_at P) work) (omega arith) (omega arith) (below_put P (alphas_up_to P f salt secret hidden first work count) first before room (done f held)) in
    placed_more (P.tau * (P.n + P.m)) P.m count (alpha_at P (count + 1)) (λ e. alpha_shown P f e salt secret hidden first work) first before after
    (λ e a b. length-alpha_in P f (take (leaves_at P) work) held e (hidden_in P.l hidden e) salt (values_in P e secret first (drop (challenges_at P) work)) (root_in (S P) (drop (roots_at P) work) e))
    (next_place P count) (let e = next_fits P count less in omega arith) (done f held)
    (turn f held
    ∙ ap (λ (v : List ℕ). elements_put (alpha_in P f (count + 1) (hidden_in P.l hidden (count + 1)) salt v (root_in (S P) (drop (roots_at P) work) (count + 1))) (alpha_at P (count + 1)) before) same)

pub shown_all : (P : Params) (salt secret hidden work first packing : List ℕ) (count : ℕ) → count ≡ P.tau → ShownTo P salt secret hidden work count first packing
    → ShownTo P salt secret hidden work P.tau first packing
shown_all P salt secret hidden work first packing count e h = subst (λ (n : ℕ). ShownTo P salt secret hidden work n first packing) e h

-- ---- what the promise is to a signer that has what is lent

module _ (P : Params) (salt secret hidden work first packing : List ℕ) (room : length first ≡ packed_length (vector_count P)) (shown : ShownTo P salt secret hidden work P.tau first packing) where
  -- the corrections stay
  pub below-shown : SameBelow (P.tau * (P.n + P.m)) first packing
  unfolding HoldsCircuit
  below-shown =
      let f = circuit_in P.n P.m (take (leaves_at P) work) in
      below_put P (alphas_up_to P f salt secret hidden first work P.tau) first packing room (shown f refl)

  -- the hidden α are the signer's
  pub alphas-signed : length secret ≡ P.n + P.m + P.m → (signer : Signer) (msg : List ℕ) → Challenged P signer msg salt secret first work → HoldsHidden P signer msg hidden
      → HoldsLeaves P signer msg (drop (roots_at P) work) → HoldsAlphas P signer msg P.tau packing
  unfolding HoldsAlphas HoldsHidden HoldsLeaves alpha_at
  alphas-signed size signer msg challenged known leaves e from to =
      let f = sign.f P signer in
      let party = known e from to in
      ap (λ (b : List ℕ). elements_at b (P.tau * (P.n + P.m) + (e - 1) * P.m) P.m) (shown f challenged.circuit)
      ∙ placed_read (P.tau * (P.n + P.m)) P.m P.tau (λ e. alpha_shown P f e salt secret hidden first work) first
      (λ i a b. length-alpha_in P f (take (leaves_at P) work) challenged.circuit i (hidden_in P.l hidden i) salt (values_in P i secret first (drop (challenges_at P) work)) (root_in (S P) (drop (roots_at P) work) i))
      (λ i a b. alpha_in-elements P f i (hidden_in P.l hidden i) salt (values_in P i secret first (drop (challenges_at P) work)) (root_in (S P) (drop (roots_at P) work) i))
      (let p = packing_holds P in omega arith) e from to
      ∙ alpha-signed P signer msg salt secret first work size challenged e from to (hidden_in P.l hidden e) (root_in (S P) (drop (roots_at P) work) e)
      (hidden_from_one P.l hidden e) (hidden-within P.l hidden e) (leaves e from to ∙ ap (λ (i : ℕ). get_or (sign.seeds P signer e) (i - 1) []) (sym party))
      ∙ ap (λ (i : ℕ). get_or (sign.αs P signer msg e) (i - 1) []) party
