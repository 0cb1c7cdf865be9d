-- Codes that no kind has are out of range.
use Rattle.std.proofs.Common.{◌≡◌, ℕ, false, ◌≢◌, arith}
use Rattle.std.proofs.lemmas.Bool.Decides.{nat_tests}
use Rattle.refusals.specs.Ranges.{within}
use Rattle.months.specs.Kinds.{bill_code, payment_code}
use Rattle.months.specs.declared.terms.BillKind.{BillKind}
use Rattle.months.specs.declared.terms.BillKind.TheVariants.{Provisional, Formal, Fee as FeeBill}
use Rattle.months.specs.declared.terms.PaymentKind.{PaymentKind}
use Rattle.months.specs.declared.terms.PaymentKind.TheVariants.{Settlement, Fee as FeePayment}

pub no_bill : (code : ℕ) → ((kind : BillKind) → bill_code kind ≢ code) → within 1 3 code ≡ false
no_bill code none = grind (arith, nat_tests, none Provisional, none Formal, none FeeBill)

pub no_payment : (code : ℕ) → ((kind : PaymentKind) → payment_code kind ≢ code) → within 1 2 code ≡ false
no_payment code none = grind (arith, nat_tests, none Settlement, none FeePayment)
