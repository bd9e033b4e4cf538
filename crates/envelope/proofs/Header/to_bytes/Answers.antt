-- `envelope::Header::to_bytes` meets its contract: each byte is the byte of the header's fields. Assumes nothing.
use mathlib.Core.Path.{sym}
use Rattle.envelope.proofs.Heading.{header-bytes}
use Rattle.envelope.proofs.Header.to_bytes.Goals as goal

pub returns : goal.returns
returns c = let h = c.args.self in sym (header-bytes h.version h.set h.length)
