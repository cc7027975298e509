use Rattle.std.proofs.Common.{◌≡◌, true, rules, sym, ◌∙◌}
use Rattle.std.specs.Char.{is_ascii_hexdigit}
use Rattle.std.specs.List.{list_all}
use Rattle.expression_text.specs.Spelling.{most_number}
use Rattle.expression_text.proofs.WordNumbers.{IsUtf8-digits, too_great, hex_number_is}
use Rattle.expression_text.proofs.number.read_hexadecimal.Goals as goal

pub returns-in_default : goal.returns-in_default
returns-in_default c =
    let digits : list_all is_ascii_hexdigit c.args.digits.now ≡ true = search rules in
    absurd (c.in_default.ensures.cases.0 (IsUtf8-digits c.args.digits.now digits))

pub returns-in_default-from_str_radix : goal.returns-in_default-from_str_radix
returns-in_default-from_str_radix c =
    let digits : list_all is_ascii_hexdigit c.args.digits.now ≡ true = search rules in
    let some = sym c.is_empty.ensures ∙ c.if-is_empty.false in
    sym (hex_number_is c.args.digits.now some digits
    ∙ too_great most_number c.args.digits.now c.in-Ok.text.now c.from_str_radix.result c.in_default-from_str_radix.field-0 (search rules) some digits c.in-Ok.ensures.cases.0 c.from_str_radix.ensures.value c.in_default-from_str_radix.is)
