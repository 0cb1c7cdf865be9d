use Rattle.std.proofs.Common.{arith}
use Rattle.std.proofs.lemmas.Bool.Decides.{nat_tests}
use Rattle.ledger.specs.declared.party.Party.TheVariants.{Centre, Grid}
use Rattle.ledger.proofs.party.Party.admit.Goals as goal

pub returns-in_err-try_from : goal.returns-in_err-try_from
returns-in_err-try_from c =
    let none = c.in_err-try_from.ensures.0 in
    grind (arith, nat_tests, none Centre, none Grid)
