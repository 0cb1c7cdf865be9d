-- A record without a fault has all of its bytes.
use Rattle.std.proofs.Common.{◌≡◌, ℕ, ◌≤◌, List, length, None, arith, length-drop}
use Rattle.refusals.specs.Conditions.{first_given}
use Rattle.records.specs.Records.{record_faults, record_length}

pub has_bytes : (bytes : List ℕ) → first_given (record_faults bytes) ≡ None → record_length bytes ≤ length bytes
has_bytes bytes none = grind (arith, length-drop {A = ℕ})
