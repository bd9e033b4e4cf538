-- `keys::consistent` meets its contract: the circuit of the seed is in its room, and the key is held to it. Assumes nothing.
use native.Mathlib.Omega.{arith}
use Rattle.keys.proofs.Read.{seed_inside, circuit-bytes, compared, consistent_told}
use Rattle.keys.proofs.consistent.Goals as goal

pub slice_bounds-tape_bytes-end : goal.slice_bounds-tape_bytes-end
slice_bounds-tape_bytes-end c = let h = seed_inside c.args.p c.args.sk.now c.requires.1 in omega arith

pub returns : goal.returns
returns c =
    let p = c.args.p in
    let read = c.read_secret.ensures in
    let expanded = circuit-bytes p c.args.sk.now _ _ c.tape_bytes.ensures c.requires.3 in
    (consistent_told p c.args.sk.now _ _ _ read expanded (λ f held. compared p.n p.m c.read_secret.new.secret f _ _ _ _ (c.eval_circuit.ensures f held) c.equal-target.ensures c.equal-second.ensures), read, expanded)
