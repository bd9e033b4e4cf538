-- `sponge::turn` meets its contract: within the block nothing changes, at its end the state is permuted.
-- Assumes nothing.
use mathlib.Core.Path.{sym, ap, ◌∙◌}
use mathlib.Core.List.{List}
use Prim.Native.Nat.{ℕ}
use Rattle.sponge.specs.Steps.{sponge, tape}
use Rattle.sponge.proofs.Absorb.{turned_open, turned_full}
use Rattle.sponge.proofs.Squeeze.{ready_open, ready_spent}
use Rattle.sponge.proofs.turn.Goals as goal

pub returns-then-at-lt-RATE : goal.returns-then-at-lt-RATE
returns-then-at-lt-RATE c = record { sponge = sym (turned_open _ _ c.if-at-lt-RATE.true); tape = sym (ready_open _ _ c.if-at-lt-RATE.true) }

pub returns : goal.returns
returns c = record {
  sponge = ap (λ (S : List ℕ). sponge S 0) c.permute.ensures ∙ sym (turned_full _ _ c.if-at-lt-RATE.false);
  tape = ap (λ (S : List ℕ). tape S 0) c.permute.ensures ∙ sym (ready_spent _ _ c.if-at-lt-RATE.false);
}
