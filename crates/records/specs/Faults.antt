-- The faults of records and batches.
use Rattle.std.specs.Prelude.{ℕ}
use Rattle.records.specs.declared.fault.RecordFault.{RecordFault}
use Rattle.records.specs.declared.fault.RecordFault.TheVariants.{Cut, UnknownKind, WrongMap, OutOfTurn, ListFull}

-- The number of each fault of a record.
abbrev pub fault_number : RecordFault → ℕ
fault_number Cut = 1
fault_number UnknownKind = 2
fault_number WrongMap = 3
fault_number OutOfTurn = 4
fault_number ListFull = 5
