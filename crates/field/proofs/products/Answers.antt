-- `field::products` meets its contract: the constant table passes the test of all its entries, which antt computes.
-- Assumes nothing.
use Rattle.field.specs.Field.{coefficient, polynomial_product, modulus, without, mul}
use Rattle.field.proofs.ProductTable.{product_table}
use Rattle.field.proofs.products.Goals as goal

pub returns : goal.returns
unfolding mul polynomial_product coefficient without modulus
returns c = product_table tt
