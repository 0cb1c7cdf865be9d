-- What a record reads as.
use Rattle.std.specs.Prelude.{◌≡◌, ℕ, ◌+◌, Bool, false, cond, not, ltb, List, [], ◌∷◌, length, take, drop, is_some, Some, None, sum_by, Option, ◌==◌, nat_lt}
use Rattle.refusals.specs.Conditions.{Condition, ◌gives◌, first_given}
use Rattle.std.specs.Option.{unwrap_or}
use Rattle.records.specs.Fields.{big_endian, bit, field_length, stands, width_of}
use Rattle.records.specs.Kinds.{kind_map, kind_of}
use Rattle.records.specs.declared.fault.RecordFault.{RecordFault}
use Rattle.records.specs.declared.fault.RecordFault.TheVariants.{Cut, UnknownKind, WrongMap}
use Rattle.records.specs.declared.field.FieldName.{FieldName}
use Rattle.records.specs.declared.field.FieldName.TheVariants.{Party, Number, Code, Sum, Day, LastDay, Month, Kind as KindByte}
use Rattle.records.specs.declared.kind.Kind.{Kind}
use Rattle.records.specs.declared.kind.Kind.TheVariants.{Opening, Lodge}
use Rattle.records.specs.declared.record.Entry.{Entry}
use Rattle.records.specs.declared.record.Entry.TheVariants.{Opening as OpeningEntry, Lodge as LodgeEntry}
use Rattle.records.specs.declared.record.Fields.{Fields}
use Rattle.records.specs.declared.record.Record.{Record}

-- The fields behind the map and the kind.
abbrev pub fields_behind : List FieldName
fields_behind = Party ∷ Number ∷ Code ∷ Sum ∷ Day ∷ LastDay ∷ Month ∷ []

-- How many bytes they have.
unfoldable pub fields_length : ℕ → ℕ
fields_length map = sum_by (field_length map) fields_behind

-- How many bytes those of them have that come before a field: those with a lower bit.
abbrev pub ahead : ℕ → FieldName → ℕ
ahead map field = sum_by (λ other. cond (nat_lt (bit other) (bit field)) (field_length map other) 0) fields_behind

-- What a field holds, 0 if its bit is clear. The part starts behind the kind.
abbrev pub field_value : ℕ → FieldName → List ℕ → ℕ
field_value map field part = cond (stands map field) (big_endian (width_of field) (drop (ahead map field) part)) 0

abbrev pub fields_in : ℕ → List ℕ → Fields
fields_in map part =
    record {
      party = field_value map Party part;
      number = field_value map Number part;
      code = field_value map Code part;
      sum = field_value map Sum part;
      day = field_value map Day part;
      last_day = field_value map LastDay part;
      month = field_value map Month part;
    }

-- The record of a kind that has these fields. A Lodge has its letter's kind as code, and its first day as day.
abbrev pub record_of : Kind → Fields → Record
record_of Opening f = record { party = f.party; entry = OpeningEntry f.day }
record_of Lodge f =
    record {
      party = f.party;
      entry = LodgeEntry (record { number = f.number; kind = f.code; sum = f.sum; first_day = f.day; last_day = f.last_day; target_month = f.month });
    }

abbrev pub entry_kind : Entry → Kind
entry_kind (OpeningEntry day) = Opening
entry_kind (LodgeEntry terms) = Lodge

-- Behind the map come the kind and the fields.
abbrev pub body_length : ℕ → ℕ
body_length map = 1 + fields_length map

-- Whether a map is that of a kind.
abbrev pub has_map : Option Kind → ℕ → Bool
has_map None map = false
has_map (Some kind) map = map == kind_map kind

-- The faults of what comes behind the map, in the order in which they are looked for.
abbrev pub body_faults : ℕ → List ℕ → List (Condition RecordFault)
body_faults map part =
    not (stands map KindByte) gives UnknownKind
    ∷ ltb (length part) 1 gives Cut
    ∷ not (is_some (kind_of (big_endian 1 part))) gives UnknownKind
    ∷ not (has_map (kind_of (big_endian 1 part)) map) gives WrongMap
    ∷ ltb (length part) (body_length map) gives Cut
    ∷ []

abbrev pub body_in : ℕ → List ℕ → Record
body_in map part = record_of (unwrap_or (kind_of (big_endian 1 part)) Opening) (fields_in map (drop 1 part))

-- A record starts with its map, of two bytes.
abbrev pub record_length : List ℕ → ℕ
record_length bytes = 2 + body_length (big_endian 2 bytes)

abbrev pub record_faults : List ℕ → List (Condition RecordFault)
record_faults bytes = ltb (length bytes) 2 gives Cut ∷ body_faults (big_endian 2 bytes) (drop 2 bytes)

abbrev pub record_in : List ℕ → Record
record_in bytes = body_in (big_endian 2 bytes) (drop 2 bytes)

-- What a record reads as depends on its own bytes alone: whatever starts with them reads the same.
abbrev pub OwnBytesDecide : List ℕ → Type 0
OwnBytesDecide bytes =
    first_given (record_faults bytes) ≡ None → (other : List ℕ) → take (record_length bytes) other ≡ take (record_length bytes) bytes
    → (first_given (record_faults other) ≡ None) × (record_in other ≡ record_in bytes) × (record_length other ≡ record_length bytes)
