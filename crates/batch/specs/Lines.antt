-- The lines that a program prints of a run.
use Rattle.std.specs.Prelude.{ℕ, List, ◌++◌, codes, decimal}
use Rattle.std.proofs.Math.Utf8.{encode}
use Rattle.ledger.specs.Colours.{colour_letter}
use Rattle.ledger.specs.Outcomes.{outcome_number}
use Rattle.records.specs.Faults.{fault_number}
use Rattle.records.specs.Kinds.{kind_letter}
use Rattle.batch.specs.declared.answer.Answer.{Answer}
use Rattle.batch.specs.declared.fault.BatchFault.{BatchFault}
use Rattle.batch.specs.declared.fault.BatchFault.TheVariants.{AtRecord, TooLong}

-- Words of a line, with one space between.
abbrev pub line : List ℕ → List ℕ → List ℕ → List ℕ → List ℕ
line first second third fourth = first ++ (codes " " ++ (second ++ (codes " " ++ (third ++ (codes " " ++ fourth)))))

-- An answer's line: record number, kind, result and colour.
abbrev pub answer_line : Answer → List ℕ
answer_line a = line (decimal a.number) (encode (kind_letter a.kind)) (decimal (outcome_number a.result)) (encode (colour_letter a.colour))

-- The figures of a fault: the number of the record, of the fault, and the offset. A batch that is too long has no record.
abbrev pub fault_figures : BatchFault → ℕ × ℕ × ℕ
fault_figures (AtRecord at) = (at.position.number, fault_number at.fault, at.position.offset)
fault_figures TooLong = (0, 6, 0)

-- A fault's line: record number, an exclamation mark, fault and offset.
abbrev pub fault_line : BatchFault → List ℕ
fault_line fault = line (decimal (fault_figures fault).0) (codes "!") (decimal (fault_figures fault).1) (decimal (fault_figures fault).2)
