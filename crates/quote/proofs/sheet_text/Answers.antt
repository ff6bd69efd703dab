-- `quote::sheet_text` meets its contract.
use mathlib.Core.Path.{◌∙◌}
use native.Mathlib.Omega.{arith}
use Rattle.quote.specs.Quote.{name_covered, name_area}
use Rattle.quote.proofs.Writing.{product-fits, products-fit, lines-said}
use Rattle.quote.proofs.sheet_text.Goals as goal

pub overflow_mul-area : goal.overflow_mul-area
overflow_mul-area c = omega (arith, product-fits _ _ c.requires.0 c.requires.1)

pub overflow_mul-area-2 : goal.overflow_mul-area-2
overflow_mul-area-2 c = omega (arith, products-fit _ _ c.requires.0 c.requires.1)

pub returns : goal.returns
unfolding name_covered name_area
returns c = lines-said _ _ c.requires.0 c.requires.1 _ (c.put_line-2.ensures.said ∙ rw (c.put_line.ensures.said, c.new-text.ensures))
