-- What a record reads as depends on its own bytes alone.
use Rattle.std.proofs.Common.{◌≡◌, ℕ, ◌+◌, ◌≤◌, Bool, true, false, cond, List, length, take, drop, refl, ap, arith, length-drop, length-take}
use Rattle.std.proofs.lemmas.List.{drop-drop, drop-take, take-take}
use Rattle.std.proofs.lemmas.Bool.Decides.{nat_tests}
use Rattle.records.proofs.Reading.{has_bytes}
use Rattle.records.specs.Fields.{big_endian, field_length, stands, width_of}
use Rattle.records.specs.Records.{OwnBytesDecide, ahead, body_length, field_value, fields_in, fields_length, record_length}
use Rattle.records.specs.declared.field.FieldName.{FieldName}
use Rattle.records.specs.declared.field.FieldName.TheVariants.{Party, Number, Code, Sum, Day, LastDay, Month}

module _ (n : ℕ) (xs ys : List ℕ) (same : take n xs ≡ take n ys) where
  -- bytes that start alike are alike wherever they are read within what they share
  pub alike : (k width : ℕ) → k + width ≤ n → take width (drop k xs) ≡ take width (drop k ys)
  alike k width fits = cc (drop-take k width xs, drop-take k width ys, take-take (k + width) n xs fits, take-take (k + width) n ys fits)

  pub number_alike : (k width : ℕ) → k + width ≤ n → big_endian width (drop k xs) ≡ big_endian width (drop k ys)
  number_alike k width fits = cc (alike k width fits)

  -- a value of so many bytes, if it stands, in what is left behind the map and the kind
  value_alike : (stands : Bool) (k width : ℕ) → 3 + k + cond stands width 0 ≤ n → cond stands (big_endian width (drop k (drop 1 (drop 2 xs)))) 0 ≡ cond stands (big_endian width (drop k (drop 1 (drop 2 ys)))) 0
  value_alike true k width fits = simp drop-drop (number_alike (3 + k) width fits)
  value_alike false k width fits = refl

  pub field_alike : (map : ℕ) (field : FieldName) → 3 + ahead map field + field_length map field ≤ n → field_value map field (drop 1 (drop 2 xs)) ≡ field_value map field (drop 1 (drop 2 ys))
  field_alike map field = value_alike (stands map field) (ahead map field) (width_of field)

  pub fields_alike : (map : ℕ) → 3 + fields_length map ≤ n → fields_in map (drop 1 (drop 2 xs)) ≡ fields_in map (drop 1 (drop 2 ys))
  unfolding fields_length
  fields_alike map fits = λ i. record {
    party = field_alike map Party (omega arith) i;
    number = field_alike map Number (omega arith) i;
    code = field_alike map Code (omega arith) i;
    sum = field_alike map Sum (omega arith) i;
    day = field_alike map Day (omega arith) i;
    last_day = field_alike map LastDay (omega arith) i;
    month = field_alike map Month (omega arith) i;
  }

pub own_bytes_decide : (bytes : List ℕ) → OwnBytesDecide bytes
own_bytes_decide bytes none other same =
    let n = record_length bytes in
    let full = has_bytes bytes none in
    let long : n ≤ length other = omega (arith, ap length same, length-take n other, length-take n bytes) in
    let map = number_alike n other bytes same 0 2 (omega arith) in
    let letter = number_alike n other bytes same 2 1 (omega arith) in
    let fields = fields_alike n other bytes same (big_endian 2 bytes) (omega arith) in (
      grind (arith, nat_tests, length-drop {A = ℕ}),
      grind (arith, nat_tests),
      ap (λ m. 2 + body_length m) map,
    )
