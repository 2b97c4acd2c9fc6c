use Rattle.std.proofs.Common.{◌≡◌, ◌<◌, length, take, None, sym, ap, arith}
use Rattle.std.proofs.lemmas.Grind.{common_steps}
use Rattle.std.specs.List.{position, position_or_len}
use Rattle.dwarf_reader.specs.Strings.{is_zero}
use Rattle.dwarf_reader.proofs.First.{first_at, none_first}
use Rattle.dwarf_reader.proofs.cursor.Cursor.read_string.Goals as goal

pub returns-in_default-clause-gives : goal.returns-in_default-clause-gives
returns-in_default-clause-gives c =
    let none : position is_zero c.args.self.now.rest.now ≡ None = cc in
    none_first is_zero c.args.self.now.rest.now none

pub returns-clause-gives : goal.returns-clause-gives
returns-clause-gives c =
    let bytes = c.args.self.now.rest.now in
    let at = first_at is_zero bytes c.in-Some.len (sym c.in-Some.ensures.value) in
    let same : c.in-Some.len ≡ position_or_len is_zero bytes = at.0 in
    let within : position_or_len is_zero bytes < length bytes = at.1 in
    record {
      ends = within;
      front = ap (λ n. take n bytes) same;
      behind = grind (arith, common_steps, same, within);
    }
