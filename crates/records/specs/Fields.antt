-- The fields of a record.
use Rattle.std.specs.Prelude.{ℕ, ◌+◌, ◌*◌, ◌/◌, ◌%◌, ◌^◌, Bool, cond, List, take, fold, ◌==◌}
use Rattle.records.specs.declared.field.FieldName.{FieldName}
use Rattle.records.specs.declared.field.FieldName.TheVariants.{Kind, Party, Number, Code, Sum, Day, LastDay, Month}

-- The number that the first bytes stand for, so many of them, high byte first.
abbrev pub big_endian : ℕ → List ℕ → ℕ
big_endian width bytes = fold (λ number byte. number * 256 + byte) 0 (take width bytes)

-- Each field has a bit in the map.
abbrev pub bit : FieldName → ℕ
bit Kind = 0
bit Party = 1
bit Number = 2
bit Code = 3
bit Sum = 4
bit Day = 5
bit LastDay = 6
bit Month = 7

-- Each field has so many bytes.
abbrev pub width_of : FieldName → ℕ
width_of Kind = 1
width_of Party = 1
width_of Number = 2
width_of Code = 1
width_of Sum = 4
width_of Day = 2
width_of LastDay = 2
width_of Month = 1

-- Whether a field's bit stands in a map.
unfoldable pub stands : ℕ → FieldName → Bool
stands map field = map / 2 ^ bit field % 2 == 1

-- How many bytes a field has in a record with this map: none if its bit is clear.
abbrev pub field_length : ℕ → FieldName → ℕ
field_length map field = cond (stands map field) (width_of field) 0
