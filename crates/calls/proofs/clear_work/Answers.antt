-- `calls::clear_work` meets its contract. Assumes nothing.
use Rattle.calls.proofs.Lending.{work-cleared}
use Rattle.calls.proofs.clear_work.Goals as goal

pub returns : goal.returns
returns c =
    work-cleared c.args.work.now _ _ c.work_len-n.ensures c.requires c.clear.ensures
