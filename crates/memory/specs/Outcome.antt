-- What it means that a promise settles what happens: any two outcomes that it allows for the same arguments are equal (document 01, "What the promises must settle").
-- It is said of a function's own contract: `ps` and `r` are the kinds of its parameters and its result, `asked` and `learnt` what a caller shows and learns, which Rattle makes of the `requires` and
-- the `ensures` (`Kinds.ps`, `Kinds.r`, `Reads.Asked` and `Reads.Learnt` in the module of the function). So a contract that is weakened has no such theorem any more. Assumes nothing: these are definitions.
use Rattle.std.specs.Prelude.{ℕ, List, ◌≡◌}
use contract.Lifetimes.{Lfts}
use denote.Triple.Clauses.{Lasts, at_exit}
use denote.Triple.Walked.{Fit}
use borrow.Fn.Kinds.{ParamKind, ResultKind, In, Out, Dens, GoodsP, res_t, ended_of, stays}

module _ {n : ℕ} (ps : List (ParamKind n)) (r : ResultKind n) where
  -- an outcome: the result, and what lies in each part that was lent to be changed
  abbrev pub Outcome : (κs : Lfts n) → Dens κs ps → Type 0
  Outcome κs a = (res_t r κs).Denot × Lasts (ended_of n ps r) κs a

  module _ (asked : In n ps) (learnt : Out n ps r) where
    -- the contract allows an outcome: the result is a value of its type, a slice is as long as before (Rattle's own rule), and the promise holds
    pub record Allowed (κs : Lfts n) (a : Dens κs ps) (o : Outcome κs a) : Type 0 where
      pub ranged : r.is.Ok κs o.0
      pub kept : Fit (ended_of n ps r) (stays ps) κs a o.1
      pub promised : learnt κs a o.0 (at_exit (ended_of n ps r) κs a o.1)

    -- for arguments that are values of their types and meet what is asked, any two outcomes that are allowed are equal
    abbrev pub OneOutcome : Type 0
    OneOutcome =
        (κs : Lfts n) (a : Dens κs ps) → GoodsP κs ps a → asked κs a
        → (o q : Outcome κs a) → Allowed κs a o → Allowed κs a q → o ≡ q

    -- the same of what `see` takes from an outcome, where the promise leaves the rest open
    abbrev pub OneSight : (X : Type 0) → ((κs : Lfts n) (a : Dens κs ps) → Outcome κs a → X) → Type 0
    OneSight X see =
        (κs : Lfts n) (a : Dens κs ps) → GoodsP κs ps a → asked κs a
        → (o q : Outcome κs a) → Allowed κs a o → Allowed κs a q → see κs a o ≡ see κs a q

    -- the same of the outcomes in which `Good` holds, where the promise leaves the others open
    abbrev pub OneOutcomeWhere : ((κs : Lfts n) (a : Dens κs ps) → Outcome κs a → Type 0) → Type 0
    OneOutcomeWhere Good =
        (κs : Lfts n) (a : Dens κs ps) → GoodsP κs ps a → asked κs a
        → (o q : Outcome κs a) → Allowed κs a o → Allowed κs a q → Good κs a o → Good κs a q → o ≡ q
