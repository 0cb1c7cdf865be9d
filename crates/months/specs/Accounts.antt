-- The account of one month.
use Rattle.std.specs.Prelude.{ℕ, ◌+◌, Bool, true, ◌&&◌, ℤ, pos, negsuc, ◌-ℤ◌, Some, None, Option, int_le}
use Rattle.std.specs.Option.{unwrap_or}
use Rattle.months.specs.declared.account.MonthAccount.{MonthAccount}
use Rattle.months.specs.declared.terms.BillKind.{BillKind}
use Rattle.months.specs.declared.terms.BillKind.TheVariants.{Provisional, Formal, Fee as FeeBill}
use Rattle.months.specs.declared.terms.PaymentKind.{PaymentKind}
use Rattle.months.specs.declared.terms.PaymentKind.TheVariants.{Settlement, Fee as FeePayment}

abbrev account : Option ℤ → Option ℤ → Option ℤ → ℕ → ℕ → MonthAccount
account provisional formal fee settled fees =
    record { provisional = provisional; formal = formal; fee = fee; settlement_paid = settled; fee_paid = fees }

-- Nothing was billed and nothing paid.
abbrev pub no_account : MonthAccount
no_account = account None None None 0 0

-- The settlement due is the formal bill, else the provisional bill, else 0.
abbrev pub settlement_due : MonthAccount → ℤ
settlement_due m = elim m.formal [ Some sum ↦ sum | None ↦ unwrap_or m.provisional (pos 0) ]

-- The fee due is the fee bill, else 0.
abbrev pub fee_due : MonthAccount → ℤ
fee_due m = unwrap_or m.fee (pos 0)

-- The larger of 0 and a number.
abbrev pub above_zero : ℤ → ℕ
above_zero (pos n) = n
above_zero (negsuc n) = 0

-- The larger of 0 and what is due less what was paid.
abbrev pub outstanding : ℤ → ℕ → ℕ
outstanding due paid = above_zero (due -ℤ pos paid)

-- A month's exposure: what is outstanding of the settlement, and of the fee.
abbrev pub month_exposure : MonthAccount → ℕ
month_exposure m = outstanding (settlement_due m) m.settlement_paid + outstanding (fee_due m) m.fee_paid

-- The account with a bill in the place of the earlier one of its kind.
abbrev pub with_bill : BillKind → ℤ → MonthAccount → MonthAccount
with_bill Provisional sum m = account (Some sum) m.formal m.fee m.settlement_paid m.fee_paid
with_bill Formal sum m = account m.provisional (Some sum) m.fee m.settlement_paid m.fee_paid
with_bill FeeBill sum m = account m.provisional m.formal (Some sum) m.settlement_paid m.fee_paid

-- All that was paid of a kind, and the account with another such sum.
abbrev pub paid : PaymentKind → MonthAccount → ℕ
paid Settlement m = m.settlement_paid
paid FeePayment m = m.fee_paid

abbrev pub with_payment : PaymentKind → ℕ → MonthAccount → MonthAccount
with_payment Settlement sum m = account m.provisional m.formal m.fee sum m.fee_paid
with_payment FeePayment sum m = account m.provisional m.formal m.fee m.settlement_paid sum

-- What holds of every account: no bill is above 10^12 fen.
abbrev pub bill_fits : Option ℤ → Bool
bill_fits bill = elim bill [ None ↦ true | Some sum ↦ int_le sum (pos 1_000_000_000_000) ]

abbrev pub sound_account : MonthAccount → Bool
sound_account m = bill_fits m.provisional && bill_fits m.formal && bill_fits m.fee
