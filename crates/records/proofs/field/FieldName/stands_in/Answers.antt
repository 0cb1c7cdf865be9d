use Rattle.std.proofs.Common.{◌≡◌, refl, arith}
use Rattle.std.proofs.lemmas.Grind.{common_steps}
use denote.Enum.Declared.{tag_of}
use Rattle.records.specs.Fields.{bit, stands}
use Rattle.records.specs.contracts.field.FieldName.{the_type}
use Rattle.records.specs.declared.field.FieldName.{FieldName}
use Rattle.records.specs.declared.field.FieldName.TheVariants.{Kind, Party, Number, Code, Sum, Day, LastDay, Month}
use Rattle.records.proofs.field.FieldName.stands_in.Goals as goal

-- a field's place in the enum is its bit
place : (field : FieldName) → tag_of the_type field ≡ bit field
place = elim [ Kind ↦ refl | Party ↦ refl | Number ↦ refl | Code ↦ refl | Sum ↦ refl | Day ↦ refl | LastDay ↦ refl | Month ↦ refl ]

pub returns : goal.returns
unfolding stands
returns c = rw (place c.args.self) (grind (arith, common_steps))
