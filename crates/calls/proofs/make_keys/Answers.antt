-- `calls::make_keys` meets its contract: what the sizes refuse changes nothing; else both outputs are lent and come back as the keys, and work is cleared behind them. Assumes nothing.
use Rattle.std.proofs.Common.{sym, ap, ◌∙◌, List, ℕ, length, arith}
use Rattle.std.proofs.lemmas.Result.{err_from_is_err_and}
use Rattle.refusals.proofs.Numbers.{refusal_from_one}
use Rattle.refusals.proofs.Refusals.{make_keys_right}
use Rattle.memory.specs.Lists.{over}
use Rattle.biscuit.proofs.Outcomes.{make_keys_refused}
use Rattle.calls.proofs.Ended.{make_keys_asked, make_keys_ended_lem}
use Rattle.calls.proofs.Lending.{lent-over, cleared-lent}
use Rattle.calls.proofs.make_keys.Goals as goal

pub returns-in_err-make_keys_sizes : goal.returns-in_err-make_keys_sizes
returns-in_err-make_keys_sizes c =
    let a = c.args in
    let p = err_from_is_err_and c.from_residual.result c.from_residual.ensures.1 in
    let positive = refusal_from_one c.in_err-make_keys_sizes.field-0.0 in
    rw (p.1, p.2) (make_keys_refused a.set a.circuit_seed.now a.secret_seed.now a.secret_key.now a.public_key.now a.work.now _ c.in_err-make_keys_sizes.ensures (λ z. omega arith))

pub make_keys-requires : goal.make_keys-requires
make_keys-requires c =
    let a = c.args in
    let right = sym c.in_ok-make_keys_sizes.ensures in
    let r = make_keys_right a.set (length a.circuit_seed.now) (length a.secret_seed.now) (length a.secret_key.now) (length a.public_key.now) (length a.work.now) right in
    make_keys_asked a.set _ c.params_of-p.ensures a.circuit_seed.now a.secret_seed.now a.secret_key.now a.public_key.now a.work.now r _ _ _
    c.secret_key_len-a.ensures c.public_key_len-b.ensures c.work_len-n.ensures

pub returns : goal.returns
returns c =
    let a = c.args in
    let right = sym c.in_ok-make_keys_sizes.ensures in
    let r = make_keys_right a.set (length a.circuit_seed.now) (length a.secret_seed.now) (length a.secret_key.now) (length a.public_key.now) (length a.work.now) right in
    let answer = c.make_keys in
    let n = c.work_len-n.ensures in
    let h = r.secret_key in
    let k = r.public_key in
    make_keys_ended_lem a.set _ c.params_of-p.ensures a.circuit_seed.now a.secret_seed.now a.secret_key.now a.public_key.now a.work.now right _ _ _
    (lent-over a.secret_key.now _ c.secret_key_len-a.result (omega (arith, c.secret_key_len-a.ensures)) answer.auto.sk ∙ ap (λ (x : List ℕ). over x a.secret_key.now) answer.ensures.0)
    (lent-over a.public_key.now _ c.public_key_len-b.result (omega (arith, c.public_key_len-b.ensures)) answer.auto.pk ∙ ap (λ (x : List ℕ). over x a.public_key.now) answer.ensures.1)
    (c.clear_work.ensures ∙ cleared-lent a.work.now answer.new.work _ n r.work answer.auto.work)
