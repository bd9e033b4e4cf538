-- The numbers of answers: no refusal has the number 0, and no two answers of the same value have the same number.
-- Assumes nothing.
use Rattle.std.proofs.Common.{◌≡◌, refl, sym, ap, ◌∙◌, ℕ, ◌-◌, ◌≤◌, lit≤, [], ◌∷◌, get_or, Result, Ok, Err, arith}
use Rattle.refusals.specs.declared.Refusal.{Refusal}
use Rattle.refusals.specs.declared.Refusal.TheVariants.{NoSuchSet, SeedLengthWrong, MessageTooLong, KeyLengthWrong, SignatureLengthWrong, OutputTooShort, WorkTooShort, KeyNotConsistent, NotAccepted, EnvelopeLengthWrong, EnvelopeVersionWrong}
use Rattle.refusals.specs.Refusals.{refusal_number, number_of}

-- the refusal of a number
refusal_at : ℕ → Refusal
refusal_at n =
    get_or (NoSuchSet ∷ SeedLengthWrong ∷ MessageTooLong ∷ KeyLengthWrong ∷ SignatureLengthWrong ∷ OutputTooShort ∷ WorkTooShort ∷ KeyNotConsistent ∷ NotAccepted ∷ EnvelopeLengthWrong ∷ EnvelopeVersionWrong ∷ []) (n - 1) NoSuchSet

refusal_again : (r : Refusal) → refusal_at (refusal_number r) ≡ r
unfolding refusal_at
refusal_again NoSuchSet = refl
refusal_again SeedLengthWrong = refl
refusal_again MessageTooLong = refl
refusal_again KeyLengthWrong = refl
refusal_again SignatureLengthWrong = refl
refusal_again OutputTooShort = refl
refusal_again WorkTooShort = refl
refusal_again KeyNotConsistent = refl
refusal_again NotAccepted = refl
refusal_again EnvelopeLengthWrong = refl
refusal_again EnvelopeVersionWrong = refl

pub refusal_from_one : (r : Refusal) → 1 ≤ refusal_number r
refusal_from_one NoSuchSet = lit≤ tt
refusal_from_one SeedLengthWrong = lit≤ tt
refusal_from_one MessageTooLong = lit≤ tt
refusal_from_one KeyLengthWrong = lit≤ tt
refusal_from_one SignatureLengthWrong = lit≤ tt
refusal_from_one OutputTooShort = lit≤ tt
refusal_from_one WorkTooShort = lit≤ tt
refusal_from_one KeyNotConsistent = lit≤ tt
refusal_from_one NotAccepted = lit≤ tt
refusal_from_one EnvelopeLengthWrong = lit≤ tt
refusal_from_one EnvelopeVersionWrong = lit≤ tt

pub same_refusal : (r q : Refusal) → refusal_number r ≡ refusal_number q → r ≡ q
same_refusal r q e = sym (refusal_again r) ∙ ap refusal_at e ∙ refusal_again q

-- answers of the same number are equal, where their values are
pub same_answer : {A : Type 0} → ((x y : A) → x ≡ y) → (r q : Result A Refusal) → number_of r ≡ number_of q → r ≡ q
same_answer same (Ok x) (Ok y) e = ap Ok (same x y)
same_answer same (Ok x) (Err r) e = let h = refusal_from_one r in absurd (omega arith)
same_answer same (Err r) (Ok y) e = let h = refusal_from_one r in absurd (omega arith)
same_answer same (Err r) (Err q) e = ap Err (same_refusal r q e)

-- the answers of calls that hand no value back: two of the same number are equal, and one of the number 0 is `Ok`
pub same_number : (r q : Result (Unit {0}) Refusal) → number_of r ≡ number_of q → r ≡ q
same_number r q e = same_answer (λ x y. refl) r q e

pub done_is_ok : (r : Result (Unit {0}) Refusal) → number_of r ≡ 0 → r ≡ Ok tt
done_is_ok r e = same_number r (Ok tt) e
