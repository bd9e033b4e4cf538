-- Each public function of this crate has one outcome: its promise is an equation to a definition of the arguments.
-- Assumes nothing.
use mathlib.Core.Path.{sym, ap, ◌∙◌}
use mathlib.Core.Bool.{Bool}
use mathlib.Core.List.{List}
use Prim.Native.Nat.{ℕ}
use denote.RattleType.{RattleType}
use denote.Param.Laws.{Laws, IsCopy}
use mir.Syntax.{Dict}
use Rattle.std.specs.declared.clone.Clone.{Ghosts}
use Rattle.memory.specs.Outcome.{OneOutcome}
use Rattle.memory.proofs.copy as copy
use Rattle.memory.proofs.clear as clear
use Rattle.memory.proofs.equal as equal
use Rattle.memory.proofs.lesser as lesser
use Rattle.memory.proofs.wide as wide

pub copy_one_outcome :
    (T : RattleType) (L : Laws T) (C : IsCopy T) (G : Ghosts T.Denot) (d : Dict)
    → OneOutcome (copy.Kinds.ps T L C) (copy.Kinds.r T L C) (copy.Reads.Asked T L C G d) (copy.Reads.Learnt T L C G d)
copy_one_outcome T L C G d κs a good asked o q x y = ap (λ (l : List T.Denot). (tt, (tt, (l, tt)))) (x.promised ∙ sym y.promised)

pub clear_one_outcome : OneOutcome clear.Kinds.ps clear.Kinds.r clear.Reads.Asked clear.Reads.Learnt
clear_one_outcome κs a good asked o q x y = ap (λ (l : List ℕ). (tt, (l, tt))) (x.promised ∙ sym y.promised)

pub equal_one_outcome : OneOutcome equal.Kinds.ps equal.Kinds.r equal.Reads.Asked equal.Reads.Learnt
equal_one_outcome κs a good asked o q x y = ap (λ (b : Bool). (b, (tt, (tt, tt)))) (x.promised ∙ sym y.promised)

pub lesser_one_outcome : OneOutcome lesser.Kinds.ps lesser.Kinds.r lesser.Reads.Asked lesser.Reads.Learnt
lesser_one_outcome κs a good asked o q x y = ap (λ (n : ℕ). (n, (tt, (tt, tt)))) (x.promised ∙ sym y.promised)

pub wide_one_outcome : OneOutcome wide.Kinds.ps wide.Kinds.r wide.Reads.Asked wide.Reads.Learnt
wide_one_outcome κs a good asked o q x y = ap (λ (n : ℕ). (n, (tt, tt))) (x.promised.0 ∙ sym y.promised.0)
