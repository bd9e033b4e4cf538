-- `turning::pack::window` meets its contract: the two shifted words have no lane in common.
-- Assumes nothing.
use Rattle.turning.proofs.Windows.{window_lanes}
use Rattle.turning.proofs.pack.window.Goals as goal

pub returns : goal.returns
returns c = window_lanes c.args.x c.args.y c.args.s c.ranges.x.fits c.requires
