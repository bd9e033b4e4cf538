-- `keys::key_values` meets its contract: the circuit is in its room, s in its place, and t and y are the values there. Assumes nothing.
use mathlib.Core.Path.{ap, ◌∙◌}
use Prim.Native.Nat.{ℕ}
use Rattle.sponge.specs.Sponge.{shake256}
use Rattle.forms.specs.Sampling.{expand_elements}
use Rattle.keys.proofs.Made.{key_values_lem}
use Rattle.keys.proofs.key_values.Goals as goal

pub returns : goal.returns
returns c =
    key_values_lem c.args.p c.args.circuit_seed.now c.args.secret_seed.now _ _ _ _
    (c.tape_bytes.ensures ∙ ap (shake256 c.args.circuit_seed.now) c.requires.1)
    (c.expand_secret.ensures ∙ ap (λ (n : ℕ). expand_elements c.args.secret_seed.now n 1) c.requires.2)
    c.eval_circuit.ensures
