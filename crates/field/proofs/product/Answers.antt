-- `field::product` meets its contract: the entry at 16 * a + b, by the low four bits of each, is the product that the table's rule says.
-- Assumes nothing.
use Rattle.field.proofs.product.Goals as goal

pub returns : goal.returns
returns c = rw (c.from.ensures, c.from-2.ensures) (c.products-table.ensures.entry c.args.a c.args.b)
