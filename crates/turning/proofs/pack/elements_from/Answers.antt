-- `turning::pack::elements_from` meets its contract: a window inside a vector reads two blocks, one at its end the last sixteen elements and the next party's first.
-- Assumes nothing.
use Rattle.turning.proofs.Windows.{elements_inside, elements_across}
use Rattle.turning.proofs.pack.elements_from.Goals as goal

pub returns-then-k-m : goal.returns-then-k-m
returns-then-k-m c =
    elements_inside c.args.words.now c.args.turned.now c.requires.3 c.args.q c.args.k _ c.requires.4 c.requires.5 c.requires.0
    c.if-k-m.true c.window.ensures

pub returns : goal.returns
returns c =
    elements_across c.args.words.now c.args.turned.now c.requires.3 c.args.q c.args.k _ c.requires.4 c.requires.5 c.requires.0
    c.if-k-m.false c.window-2.ensures
