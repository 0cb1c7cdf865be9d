-- The kinds of records.
use Rattle.std.specs.Prelude.{ℕ, ◌^◌, List, [], ◌∷◌, map, sum_by, Option, nat_eq}
use Rattle.refusals.specs.Conditions.{◌gives◌, first_given}
use Rattle.records.specs.Fields.{bit}
use Rattle.records.specs.declared.field.FieldName.{FieldName}
use Rattle.records.specs.declared.field.FieldName.TheVariants.{Party, Number, Code, Sum, Day, LastDay, Month, Kind as KindByte}
use Rattle.records.specs.declared.kind.Kind.{Kind}
use Rattle.records.specs.declared.kind.Kind.TheVariants.{Opening, Lodge}

abbrev pub all_kinds : List Kind
all_kinds = Opening ∷ Lodge ∷ []

-- The letter of each kind: N, L.
abbrev pub kind_letter : Kind → ℕ
kind_letter Opening = 78
kind_letter Lodge = 76

-- The kind that has a letter, if there is one.
abbrev pub kind_of : ℕ → Option Kind
kind_of letter = first_given (map (λ kind. nat_eq (kind_letter kind) letter gives kind) all_kinds)

-- The fields of each kind: the kind, the party, and one for each figure that its posting names.
abbrev pub kind_fields : Kind → List FieldName
kind_fields Opening = KindByte ∷ Party ∷ Day ∷ []
kind_fields Lodge = KindByte ∷ Party ∷ Number ∷ Code ∷ Sum ∷ Day ∷ LastDay ∷ Month ∷ []

-- The map of each kind has the bits of its fields.
abbrev pub kind_map : Kind → ℕ
kind_map kind = sum_by (λ field. 2 ^ bit field) (kind_fields kind)
