-- `forms::tape_bytes` meets its contract: the bytes are SHAKE256 of the seed. Assumes nothing.
use Rattle.forms.proofs.tape_bytes.Goals as goal

pub returns : goal.returns
returns c = c.shake256.ensures
