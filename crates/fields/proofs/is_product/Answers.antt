-- `fields::is_product` meets its contract.
use mathlib.Core.Path.{sym}
use borrow.Author.Tests.{eq-eqb, ne_eqb}
use native.Mathlib.Omega.{arith}
use Rattle.fields.proofs.Products.{below, product-rest, product_whole, product_is}
use Rattle.fields.proofs.is_product.Goals as goal

pub returns-then-over-ne0 : goal.returns-then-over-ne0
returns-then-over-ne0 c = sym (ne_eqb _ _ (λ e. c.if-over-ne0.true (product-rest _ _ _ e)))

pub overflow_mul-pixels : goal.overflow_mul-pixels
overflow_mul-pixels c = omega (arith, below 32 c.requires.0 c.requires.1)

pub returns-then-whole-pixels : goal.returns-then-whole-pixels
returns-then-whole-pixels c = sym (ne_eqb _ _ (λ e. c.if-whole-pixels.true (product_whole _ _ _ c.requires.2 e)))

pub returns : goal.returns
returns c = sym (eq-eqb _ _ (product_is _ _ _ c.if-over-ne0.false c.if-whole-pixels.false))
