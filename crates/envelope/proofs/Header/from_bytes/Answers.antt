-- `envelope::Header::from_bytes` meets its contract: the fields of three whole bytes. Assumes nothing.
use Rattle.std.proofs.Common.{arith}
use Rattle.envelope.proofs.Heading.{header_of_bytes}
use Rattle.envelope.proofs.Outcomes.{headed}
use Rattle.envelope.proofs.Header.from_bytes.Goals as goal

pub returns : goal.returns
returns c =
    let three = headed c.args.bytes (omega arith) in
    grind (arith, header_of_bytes)
