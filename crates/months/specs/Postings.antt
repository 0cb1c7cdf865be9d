-- Bills and receipts.
use Rattle.std.specs.Prelude.{ℕ, ◌+◌, ◌-◌, Bool, cond, not, ◌&&◌, ◌||◌, List, [], ◌∷◌, ◌++◌, pos, negsuc, is_some, ◌==◌, int_le, nat_le, nat_lt, slice_index_or, slice_set}
use Rattle.refusals.specs.Conditions.{Condition, ◌gives◌}
use Rattle.refusals.specs.Ranges.{is_month, is_sum, within}
use Rattle.refusals.specs.declared.Refusal.{Refusal}
use Rattle.refusals.specs.declared.Refusal.TheVariants.{OutOfRange, MonthOutsideBook, FormalBillStands, TotalTooLarge}
use Rattle.months.specs.Accounts.{no_account, paid, with_bill, with_payment}
use Rattle.months.specs.declared.account.MonthAccount.{MonthAccount}
use Rattle.months.specs.declared.terms.BillKind.{BillKind}
use Rattle.months.specs.declared.terms.BillKind.TheVariants.{Provisional, Formal, Fee as FeeBill}
use Rattle.months.specs.declared.terms.BillTerms.{BillTerms}
use Rattle.months.specs.declared.terms.PaymentKind.{PaymentKind}
use Rattle.months.specs.declared.terms.PaymentKind.TheVariants.{Settlement, Fee as FeePayment}
use Rattle.months.specs.declared.terms.ReceiptTerms.{ReceiptTerms}

-- A book covers the month of its opening and the 35 after it.
abbrev pub in_book : ℕ → ℕ → Bool
in_book opening month = nat_le opening month && nat_le month (opening + 35)

abbrev pub month_conditions : ℕ → ℕ → List (Condition Refusal)
month_conditions opening month = not (in_book opening month) gives MonthOutsideBook ∷ []

-- The account of a month of the book.
abbrev pub account_of : ℕ → ℕ → List MonthAccount → MonthAccount
account_of opening month rows = slice_index_or rows (month - opening) no_account

-- The kind that a code stands for, where it stands for one.
abbrev pub bill_kind : ℕ → BillKind
bill_kind code = cond (code == 1) Provisional (cond (code == 2) Formal FeeBill)

abbrev pub payment_kind : ℕ → PaymentKind
payment_kind code = cond (code == 1) Settlement FeePayment

-- A bill has a month, a code from 1 to 3 and a sum from -10^12 to 10^12, a fee bill's not below 0.
unfoldable pub bill_in_range : BillTerms → Bool
bill_in_range t =
    is_month t.month && within 1 3 t.code && int_le (negsuc 999_999_999_999) t.sum && int_le t.sum (pos 1_000_000_000_000)
    && (not (t.code == 3) || int_le (pos 0) t.sum)

abbrev pub bill_range : BillTerms → List (Condition Refusal)
bill_range t = not (bill_in_range t) gives OutOfRange ∷ []

-- When a bill is refused: a provisional bill does not come after a formal one.
abbrev pub own_conditions : ℕ → List MonthAccount → BillTerms → List (Condition Refusal)
own_conditions opening rows t =
    month_conditions opening t.month
    ++ (t.code == 1 && is_some (account_of opening t.month rows).formal) gives FormalBillStands
    ∷ []

abbrev pub bill_conditions : ℕ → List MonthAccount → BillTerms → List (Condition Refusal)
bill_conditions opening rows t = bill_range t ++ own_conditions opening rows t

-- The months after a bill: it replaces the earlier one of its kind.
abbrev pub billed : ℕ → List MonthAccount → BillTerms → List MonthAccount
billed opening rows t = slice_set rows (t.month - opening) (with_bill (bill_kind t.code) t.sum (account_of opening t.month rows))

-- A receipt has a month, code 1 or 2 and a sum.
abbrev pub receipt_in_range : ReceiptTerms → Bool
receipt_in_range t = is_month t.month && within 1 2 t.code && is_sum t.sum

abbrev pub receipt_range : ReceiptTerms → List (Condition Refusal)
receipt_range t = not (receipt_in_range t) gives OutOfRange ∷ []

-- All that is paid of the receipt's kind for its month, with the receipt.
abbrev pub paid_with : ℕ → List MonthAccount → ReceiptTerms → ℕ
paid_with opening rows t = paid (payment_kind t.code) (account_of opening t.month rows) + t.sum

-- When a receipt is refused.
abbrev pub receipt_conditions : ℕ → List MonthAccount → ReceiptTerms → List (Condition Refusal)
receipt_conditions opening rows t =
    receipt_range t ++ month_conditions opening t.month
    ++ nat_lt 1_000_000_000_000 (paid_with opening rows t) gives TotalTooLarge
    ∷ []

-- The months after a receipt.
abbrev pub received : ℕ → List MonthAccount → ReceiptTerms → List MonthAccount
received opening rows t = slice_set rows (t.month - opening) (with_payment (payment_kind t.code) (paid_with opening rows t) (account_of opening t.month rows))
