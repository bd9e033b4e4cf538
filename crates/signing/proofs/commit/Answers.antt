-- `signing::commit` meets its contract: both hashes, from what the passes promise. Assumes nothing.
use Rattle.passes.proofs.Committing.{absorbed-signed, corrections-signed, kept_planted}
use Rattle.signing.proofs.Answering.{committed}
use Rattle.signing.proofs.commit.Goals as goal

pub returns : goal.returns
returns c =
    let b = c.args.basis in
    let p = c.commit_pass-full.ensures in
    let pre = c.requires in
    let work = c.args.work.now in
    λ signer held.
    committed b.p signer c.args.message.now b.salt.now b.secret.now _ work _ _ _ _ _ _ _ _ _
    pre.1 c.first.ensures c.absorb-start.ensures
    (absorbed-signed b.p b.salt.now b.secret.now _ _ _ p.absorbs)
    (corrections-signed b.p b.fits b.salt.now b.secret.now work c.args.packing.now _ b.whole pre.0 pre.4 pre.3 p.writes)
    (kept_planted b.p b.fits b.salt.now work _ pre.4 p.plants)
    c.finish.ensures c.squeeze.ensures.0 c.answer.ensures held
