use Rattle.std.proofs.Common.{◌*◌, ◌^◌, ℤ, pos, negsuc, ◌≤ℤ◌, sym, subst, arith}
use Rattle.std.proofs.lemmas.Grind.{common_steps}
use Rattle.ledger.proofs.Products.{by_mag, small}
use Rattle.ledger.proofs.book.limits.credit_part.Goals as goal

pub returns-clause-value : goal.returns-clause-value
returns-clause-value c = grind (arith, common_steps)

pub returns-clause-small : goal.returns-clause-small
returns-clause-small c = subst (λ (z : ℤ). (negsuc (2 ^ 42) ≤ℤ z) × (z ≤ℤ pos (2 ^ 42))) (sym (returns-clause-value c)) (by_mag _ _ (small (8 * c.args.usage) c.args.coefficient (omega arith) c.ranges.coefficient))
