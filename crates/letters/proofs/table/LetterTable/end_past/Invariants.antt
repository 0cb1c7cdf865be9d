use Rattle.std.proofs.Common.{◌≡◌, ◌++◌, map, take, drop}
use Rattle.letters.specs.Sums.{after_day}
use Rattle.letters.proofs.table.LetterTable.end_past.Given as goal

abbrev pub invariant-loop-row : goal.invariant-loop-row
invariant-loop-row l = l.row-items ≡ map (after_day l.day) (take l.row-index l.initial.row-items) ++ drop l.row-index l.initial.row-items
