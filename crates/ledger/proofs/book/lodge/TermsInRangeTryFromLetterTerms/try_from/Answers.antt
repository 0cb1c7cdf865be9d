use Rattle.std.proofs.Common.{arith}
use Rattle.draw_order.specs.declared.LetterKind.TheVariants.{BankSingle, BankInParts, InsuranceInParts}
use Rattle.std.proofs.lemmas.Bool.Decides.{nat_tests}
use Rattle.ledger.proofs.book.lodge.TermsInRangeTryFromLetterTerms.try_from.Goals as goal

pub returns-in_err-kind : goal.returns-in_err-kind
returns-in_err-kind c =
    let none = c.in_err-kind.ensures.0 in
    grind (arith, nat_tests, none BankSingle, none BankInParts, none InsuranceInParts)
