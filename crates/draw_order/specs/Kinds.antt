-- The kinds of letters.
use Rattle.std.specs.Prelude.{ℕ, Bool, true, false}
use Rattle.draw_order.specs.declared.LetterKind.{LetterKind}
use Rattle.draw_order.specs.declared.LetterKind.TheVariants.{BankSingle, BankInParts, InsuranceInParts}

-- The number of each kind.
abbrev pub kind_code : LetterKind → ℕ
kind_code BankSingle = 1
kind_code BankInParts = 2
kind_code InsuranceInParts = 3

-- Whether a letter of this kind is an insurance policy. The others are bank letters.
abbrev pub insured : LetterKind → Bool
insured BankSingle = false
insured BankInParts = false
insured InsuranceInParts = true
