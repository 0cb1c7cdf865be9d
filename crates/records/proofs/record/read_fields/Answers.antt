use Rattle.std.proofs.Common.{◌≡◌, ℕ, cond, List, drop, ap, ◌∙◌, arith}
use Rattle.std.proofs.lemmas.Grind.{common_steps}
use Rattle.std.proofs.lemmas.List.{drop-drop}
use Rattle.records.specs.Fields.{big_endian, stands, width_of}
use Rattle.records.specs.Records.{ahead, field_value, fields_length}
use Rattle.records.specs.declared.field.FieldName.{FieldName}
use Rattle.records.specs.declared.field.FieldName.TheVariants.{Party, Number, Code, Sum, Day, LastDay, Month}
use Rattle.records.proofs.record.read_fields.Goals as goal

-- what a field reads as from the part that starts with it is what it holds
placed : (map : ℕ) (field : FieldName) (whole : List ℕ) {part : List ℕ} {value : ℕ} → value ≡ cond (stands map field) (big_endian (width_of field) part) 0 → part ≡ drop (ahead map field) whole → value ≡ field_value map field whole
placed map field whole is starts = is ∙ ap (λ part. cond (stands map field) (big_endian (width_of field) part) 0) starts

pub returns : goal.returns
unfolding fields_length
returns c =
    let map = c.args.map in
    let whole = c.args.part.now in (
      grind (arith, common_steps),
      (
        λ i. record {
          party = placed map Party whole c.in_ok-party.ensures.1.0 (grind (arith, drop-drop)) i;
          number = placed map Number whole c.in_ok-number.ensures.1.0 (grind (arith, drop-drop)) i;
          code = placed map Code whole c.in_ok-code.ensures.1.0 (grind (arith, drop-drop)) i;
          sum = placed map Sum whole c.in_ok-sum.ensures.1.0 (grind (arith, drop-drop)) i;
          day = placed map Day whole c.in_ok-day.ensures.1.0 (grind (arith, drop-drop)) i;
          last_day = placed map LastDay whole c.in_ok-last_day.ensures.1.0 (grind (arith, drop-drop)) i;
          month = placed map Month whole c.in_ok-month.ensures.1.0 (grind (arith, drop-drop)) i;
        },
        grind (arith, drop-drop),
      ),
    )
