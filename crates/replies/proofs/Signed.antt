-- What one repetition takes is what algorithm 12 takes: the shares from the leaves and the corrections of the packing are the signer's, and so are every α and every v. Assumes nothing.
use mathlib.Core.Path.{◌≡◌, sym, ap, ap₂, ◌∙◌}
use mathlib.Core.List.{List, [], ◌++◌, flatten}
use Prim.Native.Nat.{ℕ, suc, ◌+◌, ◌-◌, ◌*◌, ◌^◌, ◌≤◌}
use native.Mathlib.Omega.{arith}
use lib.ListN.{length, get_or, take, drop, length-append}
use lib.Seq.{take_at, drop_at, take_all, length-take-le}
use Rattle.sets.specs.declared.Params.{Params}
use Rattle.parties.specs.Parties.{Share, parties, corrected, alpha_of, alphas, vs}
use Rattle.parties.specs.Repetition as repetition
use Rattle.parties.proofs.Corrections as corrections
use Rattle.parties.proofs.Numbered.{numbered-numbered, length-parties, get_or-parties}
use Rattle.parties.proofs.KnownIsSigned.{nobody_alphas, nobody_vs}
use Rattle.group.specs.Shares as shares
use Rattle.answers.specs.Answers.{shares_of, answered}
use Rattle.vectors.specs.Elements.{elements_at}
use Rattle.vectors.proofs.Elements.{length-elements_at}
use Rattle.refusals.specs.Refusals.{work_length}
use Rattle.biscuit.specs.Sign as sign
use Rattle.biscuit.specs.Sign.{Signer}
use Rattle.biscuit.specs.Room.{Fits, roots_at, challenges_at}
use Rattle.biscuit.proofs.SignSized.{length-seeds}
use Rattle.passes.specs.Passes.{seeds_in, s_in, HoldsRoots, HoldsCorrections}
use Rattle.passes.proofs.Planting.{pieces-seeds}
use Rattle.passes.proofs.Committing.{seeds_in_lem}
use Rattle.reps.specs.Reps.{rep_of}
use Rattle.replies.specs.Replies.{HoldsChallenges, Challenged, values_in, answers_in, alpha_in}
use Rattle.replies.proofs.Values.{delta_s_values, delta_c_values, epsilon_values, target_values}

-- the shares of all parties, from the corrections, the salt and the seeds
unfoldable pub shares_from : Params → ℕ → List ℕ → List ℕ → List ℕ → List (List ℕ) → List Share
shares_from P e Δs Δc salt seeds = parties (λ i seed. corrected Δs Δc i (repetition.raw_share P salt e i seed)) seeds

module _ (P : Params) (signer : Signer) (msg salt secret packing work : List ℕ) (size : length secret ≡ P.n + P.m + P.m) (challenged : Challenged P signer msg salt secret packing work)
    (e : ℕ) (from : 1 ≤ e) (to : e ≤ P.tau) where
  length-delta_s : length (sign.delta_s P signer e) ≡ P.n
  unfolding sign.delta_s s_in
  length-delta_s = corrections.length-delta_s P signer.salt e signer.key.s (sign.seeds P signer e) (ap length challenged.held.s ∙ length-take-le P.n secret (omega arith))

  -- the corrections of the packing
  read_corrections : elements_at packing ((e - 1) * (P.n + P.m)) (P.n + P.m) ≡ sign.delta_s P signer e ++ sign.delta_c P signer e
  unfolding HoldsCorrections
  read_corrections = challenged.corrections e from to

  length-delta_c : length (sign.delta_c P signer e) ≡ P.m
  length-delta_c =
      let a = ap length read_corrections in
      let b = length-elements_at packing ((e - 1) * (P.n + P.m)) (P.n + P.m) in
      let c = length-append (sign.delta_s P signer e) (sign.delta_c P signer e) in
      let d = length-delta_s in
      omega arith

  pub values_delta_s : shares.delta_s (rep_of P e 0) (values_in P e secret packing (drop (challenges_at P) work)) ≡ sign.delta_s P signer e
  values_delta_s =
      delta_s_values P e secret packing (drop (challenges_at P) work) size
      ∙ ap (take P.n) read_corrections
      ∙ take_at (sign.delta_s P signer e) (sign.delta_c P signer e) P.n length-delta_s

  pub values_delta_c : shares.delta_c (rep_of P e 0) (values_in P e secret packing (drop (challenges_at P) work)) ≡ sign.delta_c P signer e
  values_delta_c =
      delta_c_values P e secret packing (drop (challenges_at P) work) size
      ∙ ap (λ (l : List ℕ). take P.m (drop P.n l)) read_corrections
      ∙ ap (take P.m) (drop_at (sign.delta_s P signer e) (sign.delta_c P signer e) P.n length-delta_s)
      ∙ take_all P.m (sign.delta_c P signer e) (let l = length-delta_c in omega arith)

  pub values_epsilon : shares.epsilon (rep_of P e 0) (values_in P e secret packing (drop (challenges_at P) work)) ≡ sign.ε P signer msg e
  unfolding HoldsChallenges
  values_epsilon = epsilon_values P e secret packing (drop (challenges_at P) work) size ∙ challenged.challenges e from to

  pub values_target : shares.target (rep_of P e 0) (values_in P e secret packing (drop (challenges_at P) work)) ≡ signer.key.t
  values_target = target_values P e secret packing (drop (challenges_at P) work) size ∙ sym challenged.held.t

  -- the signer's shares
  shares-signed : shares_from P e (sign.delta_s P signer e) (sign.delta_c P signer e) signer.salt (sign.seeds P signer e) ≡ sign.shares P signer e
  unfolding shares_from sign.shares repetition.shares repetition.raws sign.delta_s sign.delta_c parties
  shares-signed =
      sym (numbered-numbered (corrected (sign.delta_s P signer e) (sign.delta_c P signer e)) (repetition.raw_share P signer.salt e) 1 (sign.seeds P signer e))

  module _ (f : Fits P) (whole : length work ≡ work_length) (rooted : HoldsRoots P signer (drop (roots_at P) work)) where
    shares_in : shares_of P (rep_of P e 0) salt (flatten (seeds_in P salt (drop (roots_at P) work) e)) (values_in P e secret packing (drop (challenges_at P) work)) ≡ sign.shares P signer e
    unfolding shares_of shares_from
    shares_in =
        let v = values_in P e secret packing (drop (challenges_at P) work) in
        ap (λ (l : List (List ℕ)). shares_from P e (shares.delta_s (rep_of P e 0) v) (shares.delta_c (rep_of P e 0) v) salt l)
        (pieces-seeds P f salt work whole e from to ∙ sym (seeds_in_lem P signer salt secret (drop (roots_at P) work) challenged.held rooted e from to))
        ∙ ap (λ (x : List ℕ). shares_from P e (shares.delta_s (rep_of P e 0) v) (shares.delta_c (rep_of P e 0) v) x (sign.seeds P signer e)) (sym challenged.held.salted)
        ∙ ap₂ (λ (x y : List ℕ). shares_from P e x y signer.salt (sign.seeds P signer e)) values_delta_s values_delta_c
        ∙ shares-signed

    -- every α and every v
    pub answers_signed : answers_in P (sign.f P signer) e salt (values_in P e secret packing (drop (challenges_at P) work)) (flatten (seeds_in P salt (drop (roots_at P) work) e))
        ≡ repetition.second (sign.αs P signer msg e) (sign.all_v P signer msg e)
    unfolding answers_in answered sign.all_v sign.αs
    answers_signed =
        let v = values_in P e secret packing (drop (challenges_at P) work) in
        let ps = shares_of P (rep_of P e 0) salt (flatten (seeds_in P salt (drop (roots_at P) work) e)) v in
        let c = sign.f P signer in
        ap₂ repetition.second (nobody_alphas c (shares.epsilon (rep_of P e 0) v) (shares.alpha_given (rep_of P e 0) v) ps) (nobody_vs c (shares.target (rep_of P e 0) v) (shares.epsilon (rep_of P e 0) v) (shares.alpha_given (rep_of P e 0) v) ps)
        ∙ ap (λ (l : List Share). repetition.second (alphas c (shares.epsilon (rep_of P e 0) v) l) (vs c (shares.target (rep_of P e 0) v) (shares.epsilon (rep_of P e 0) v) l)) shares_in
        ∙ ap₂ (λ (x t : List ℕ). repetition.second (alphas c x (sign.shares P signer e)) (vs c t x (sign.shares P signer e))) values_epsilon values_target

  -- the α of one party, from its leaf
  pub alpha-signed : (i : ℕ) (leaf : List ℕ) → 1 ≤ i → i ≤ 2 ^ P.l → leaf ≡ get_or (sign.seeds P signer e) (i - 1) []
      → alpha_in P (sign.f P signer) e i salt (values_in P e secret packing (drop (challenges_at P) work)) leaf ≡ get_or (sign.αs P signer msg e) (i - 1) []
  unfolding alpha_in sign.αs alphas shares_from
  alpha-signed i leaf h k el =
      let v = values_in P e secret packing (drop (challenges_at P) work) in
      let c = sign.f P signer in
      let n = length-seeds P signer msg e in
      let g : ℕ → List ℕ → Share = λ j seed. corrected (sign.delta_s P signer e) (sign.delta_c P signer e) j (repetition.raw_share P signer.salt e j seed) in
      let s : suc (i - 1) ≡ i = omega arith in
      ap₂ (λ (x y : List ℕ). alpha_of c (shares.epsilon (rep_of P e 0) v) i (corrected x y i (repetition.raw_share P salt e i leaf))) values_delta_s values_delta_c
      ∙ ap₂ (λ (x y : List ℕ). alpha_of c x i (corrected (sign.delta_s P signer e) (sign.delta_c P signer e) i (repetition.raw_share P y e i leaf))) values_epsilon (sym challenged.held.salted)
      ∙ ap₂ (λ (j : ℕ) (x : List ℕ). alpha_of c (sign.ε P signer msg e) j (g j x)) (sym s) el
      ∙ ap (alpha_of c (sign.ε P signer msg e) (suc (i - 1))) (sym (get_or-parties g (sign.seeds P signer e) (i - 1) [] (record { s = []; a = []; c = [] }) (omega arith)))
      ∙ sym (get_or-parties (alpha_of c (sign.ε P signer msg e)) (parties g (sign.seeds P signer e)) (i - 1) (record { s = []; a = []; c = [] }) [] (let m = length-parties g (sign.seeds P signer e) in omega arith))
      ∙ ap (λ (l : List Share). get_or (parties (alpha_of c (sign.ε P signer msg e)) l) (i - 1) []) shares-signed
