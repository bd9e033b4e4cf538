-- `signing::draw` meets its contract: salt and roots are two parts of one tape. Assumes nothing.
use Rattle.signing.proofs.Drawing.{salt-drawn, roots-drawn}
use Rattle.signing.proofs.draw.Goals as goal

pub returns : goal.returns
returns c =
    let q = c.squeeze in
    let s = c.squeeze-rest in
    let f = c.finish-tape in
    let a = c.args in
    let e = c.new.ensures in
    let e1 = c.absorb.ensures in
    let e2 = c.absorb-start.ensures in
    let e3 = c.absorb-2.ensures in (
      salt-drawn a.p a.sk.now a.random.now a.message.now _ _ _ _ _ e e1 e2 e3 f.ensures _ c.requires.0 _ s.ensures.0,
      roots-drawn a.p a.sk.now a.random.now a.message.now _ _ _ _ _ e e1 e2 e3 f.ensures _ _ c.requires.0 c.requires.1 _ _ s.ensures.1 q.ensures.0,
    )
