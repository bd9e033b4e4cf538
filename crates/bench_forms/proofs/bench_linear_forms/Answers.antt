-- `bench_forms::bench_linear_forms` meets its contract: where the sizes fit, the values are those of the forms. Assumes nothing.
use mathlib.Core.Path.{◌∙◌}
use native.Mathlib.Omega.{arith}
use Rattle.bench_forms.specs.Fit.{FormsFit}
use Rattle.bench_forms.proofs.bench_linear_forms.Goals as goal

pub returns-then-circuit-circuit_len : goal.returns-then-circuit-circuit_len
returns-then-circuit-circuit_len c =
    let a = c.args in
    let sizes : FormsFit a.circuit.now a.shares.now a.x.now a.y.now a.z.now = record {
      variables = omega arith;
      equations = omega arith;
      second = omega arith;
      third = omega arith;
      whole = c.if-circuit-circuit_len.true ∙ c.circuit_len.ensures;
    } in record { values = λ f share fit held words. c.linear_forms.ensures f share held words; kept = λ no. absurd (no sizes) }
