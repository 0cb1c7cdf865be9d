-- The kinds of bills and of payments.
use Rattle.std.specs.Prelude.{ℕ}
use Rattle.months.specs.declared.terms.BillKind.{BillKind}
use Rattle.months.specs.declared.terms.BillKind.TheVariants.{Provisional, Formal, Fee as FeeBill}
use Rattle.months.specs.declared.terms.PaymentKind.{PaymentKind}
use Rattle.months.specs.declared.terms.PaymentKind.TheVariants.{Settlement, Fee as FeePayment}

-- The number of each kind of bill.
abbrev pub bill_code : BillKind → ℕ
bill_code Provisional = 1
bill_code Formal = 2
bill_code FeeBill = 3

-- The number of each kind of payment.
abbrev pub payment_code : PaymentKind → ℕ
payment_code Settlement = 1
payment_code FeePayment = 2
