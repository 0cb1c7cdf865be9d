use Rattle.std.proofs.Common.{rules, arith}
use Rattle.rating.specs.Table.{rule_of, given_small}
use Rattle.rating.proofs.guangxi.GuangxiTableRatingPolicy.rate.Goals as goal

pub returns-in-Some-clause-rule : goal.returns-in-Some-clause-rule
returns-in-Some-clause-rule c = rule_of c.args.grades.now _ (grind (arith, given_small))

pub returns-in-None-clause-rule : goal.returns-in-None-clause-rule
returns-in-None-clause-rule c = rule_of c.args.grades.now _ (search rules)
