-- The number of each refusal.
use Rattle.std.specs.Prelude.{ℕ}
use Rattle.refusals.specs.declared.Refusal.{Refusal}
use Rattle.refusals.specs.declared.Refusal.TheVariants.{UnknownParty, OtherPartysKind, OutOfRange, DayNotLater, NoPlace, NumberTaken, NumberUnknown, DaysDoNotFit, OriginalOut, NothingHeld, TotalTooLarge, ExposureTooHigh, NotCovered, BelowMinimum, NothingNeeded, NoUsableLetter, OriginalNotOut, MoreThanAsked, MoreThanOpen, PurseEmpty, MonthOutsideBook, ClaimOwed, FormalBillStands}

abbrev pub refusal_number : Refusal → ℕ
refusal_number UnknownParty = 1
refusal_number OtherPartysKind = 2
refusal_number OutOfRange = 3
refusal_number DayNotLater = 4
refusal_number NoPlace = 5
refusal_number NumberTaken = 6
refusal_number NumberUnknown = 7
refusal_number DaysDoNotFit = 8
refusal_number OriginalOut = 9
refusal_number NothingHeld = 10
refusal_number TotalTooLarge = 11
refusal_number ExposureTooHigh = 12
refusal_number NotCovered = 13
refusal_number BelowMinimum = 14
refusal_number NothingNeeded = 15
refusal_number NoUsableLetter = 16
refusal_number OriginalNotOut = 17
refusal_number MoreThanAsked = 18
refusal_number MoreThanOpen = 19
refusal_number PurseEmpty = 20
refusal_number MonthOutsideBook = 21
refusal_number ClaimOwed = 22
refusal_number FormalBillStands = 23
