use Rattle.std.proofs.Common.{ℕ, ◌≡◌, ◌≤◌, List, length, drop, Ok, Err, Result, Bor, arith}
use Rattle.refusals.specs.Conditions.{Checked}
use Rattle.std.proofs.lemmas.Bool.Decides.{nat_tests}
use Rattle.std.proofs.lemmas.Grind.{common_steps}
use Rattle.std.proofs.lemmas.List.{drop-drop, take_rest}
use Rattle.records.proofs.OwnBytes.{own_bytes_decide}
use Rattle.records.specs.Fields.{big_endian}
use Rattle.records.specs.Readers.{HandsOn}
use Rattle.records.specs.Records.{body_faults, body_in, body_length, record_faults, record_in, record_length}
use Rattle.records.specs.declared.fault.RecordFault.{RecordFault}
use Rattle.records.specs.declared.record.Record.{Record}
use Rattle.records.proofs.record.read_record.Goals as goal

-- behind the two bytes of a map, what is read of the body is what is read of the record
whole : (bytes : List ℕ) {map : ℕ} {part : List ℕ} (r : Result (Record × Bor (List ℕ)) RecordFault) → 2 ≤ length bytes → map ≡ big_endian 2 bytes → part ≡ drop 2 bytes → Checked (body_faults map part) r (HandsOn (body_length map) (body_in map part) part) → Checked (record_faults bytes) r (HandsOn (record_length bytes) (record_in bytes) bytes)
whole bytes (Ok p) long map rest read = grind (arith, drop-drop, nat_tests)
whole bytes (Err e) long map rest read = grind (arith, nat_tests)

pub returns-in-len2-up-clause-alone : goal.returns-in-len2-up-clause-alone
returns-in-len2-up-clause-alone c = own_bytes_decide c.args.part.now

pub returns-in-len2-up-clause-reads : goal.returns-in-len2-up-clause-reads
returns-in-len2-up-clause-reads c = whole c.args.part.now c.read_body.result (omega arith) (grind (arith, common_steps)) (take_rest c.args.part.now 2) c.read_body.ensures
