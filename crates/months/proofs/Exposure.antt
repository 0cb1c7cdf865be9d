-- The exposure of the months stays small, and bills and receipts keep it so.
use Rattle.std.proofs.Common.{◌≡◌, ℕ, zero, suc, ◌-◌, ◌*◌, ◌≤◌, true, false, not, int_le, List, [], ◌∷◌, length, get_or, set, take, ℤ, pos, None, sum_by, refl, arith}
use Rattle.refusals.proofs.Joining.{none_of_first}
use Rattle.refusals.specs.Conditions.{◌gives◌, first_given}
use Rattle.std.proofs.lemmas.Int.{ints}
use Rattle.std.proofs.lemmas.List.Elements.{All-weaker}
use Rattle.std.proofs.lemmas.List.Sums.{AllPass-from_list_all, sum_by-le, sum_by-take-le}
use Rattle.std.proofs.lemmas.Bool.{and_from, and_parts}
use Rattle.refusals.specs.declared.Refusal.TheVariants.{OutOfRange}
use Rattle.std.specs.List.{list_all}
use Rattle.months.specs.Accounts.{month_exposure, no_account, sound_account, with_bill, with_payment}
use Rattle.months.specs.Postings.{bill_conditions, bill_in_range, bill_kind, billed, own_conditions, paid_with, payment_kind, received}
use Rattle.months.specs.declared.account.MonthAccount.{MonthAccount}
use Rattle.months.specs.declared.terms.BillKind.{BillKind}
use Rattle.months.specs.declared.terms.BillTerms.{BillTerms}
use Rattle.months.specs.declared.terms.PaymentKind.{PaymentKind}
use Rattle.months.specs.declared.terms.ReceiptTerms.{ReceiptTerms}

month_small : (m : MonthAccount) → sound_account m ≡ true → month_exposure m ≤ 2_000_000_000_000
month_small m sound = grind (arith, ints)

-- each of some months adds at most 2 * 10^12 fen
all_small : (rows : List MonthAccount) → list_all sound_account rows ≡ true → sum_by month_exposure rows ≤ length rows * 2_000_000_000_000
all_small rows sound = sum_by-le month_exposure 2_000_000_000_000 rows (All-weaker (λ m. sound_account m ≡ true) (λ m. month_exposure m ≤ 2_000_000_000_000) month_small rows (AllPass-from_list_all sound_account rows sound))

pub exposure_small : (rows : List MonthAccount) (n : ℕ) → list_all sound_account rows ≡ true → sum_by month_exposure (take n rows) ≤ length rows * 2_000_000_000_000
exposure_small rows n sound = omega (arith, sum_by-take-le month_exposure rows n, all_small rows sound)

-- a table whose account in one place is changed, to another that is sound if that one was
set_sound : (rows : List MonthAccount) (i : ℕ) (account : MonthAccount) → (sound_account (get_or rows i no_account) ≡ true → sound_account account ≡ true) → list_all sound_account rows ≡ true → list_all sound_account (set rows i account) ≡ true
set_sound [] i account keeps sound = refl
set_sound (m ∷ rows) zero account keeps sound = let parts = and_parts _ _ sound in and_from _ _ (keeps parts.0) parts.1
set_sound (m ∷ rows) (suc i) account keeps sound = let parts = and_parts _ _ sound in and_from _ _ parts.0 (set_sound rows i account keeps parts.1)

with_bill_sound : (kind : BillKind) (sum : ℤ) (m : MonthAccount) → int_le sum (pos 1_000_000_000_000) ≡ true → sound_account m ≡ true → sound_account (with_bill kind sum m) ≡ true
with_bill_sound kind sum m fits sound = grind arith

sum_fits : (t : BillTerms) → not (bill_in_range t) ≡ false → int_le t.sum (pos 1_000_000_000_000) ≡ true
unfolding bill_in_range
sum_fits t in_range = grind arith

pub bill_keeps : (opening : ℕ) (rows : List MonthAccount) (t : BillTerms) → first_given (bill_conditions opening rows t) ≡ None → list_all sound_account rows ≡ true → list_all sound_account (billed opening rows t) ≡ true
bill_keeps opening rows t none sound =
    let in_range = (none_of_first (not (bill_in_range t) gives OutOfRange) (own_conditions opening rows t) none).0 in
    set_sound rows (t.month - opening) _ (with_bill_sound (bill_kind t.code) t.sum _ (sum_fits t in_range)) sound

with_payment_sound : (kind : PaymentKind) (sum : ℕ) (m : MonthAccount) → sound_account m ≡ true → sound_account (with_payment kind sum m) ≡ true
with_payment_sound kind sum m sound = grind arith

pub receipt_keeps : (opening : ℕ) (rows : List MonthAccount) (t : ReceiptTerms) → list_all sound_account rows ≡ true → list_all sound_account (received opening rows t) ≡ true
receipt_keeps opening rows t sound = set_sound rows (t.month - opening) _ (with_payment_sound (payment_kind t.code) (paid_with opening rows t) _) sound
