use Rattle.std.proofs.Common.{IsTrue, ◌↔◌, rules}
use Rattle.std.specs.List.{All}
use Rattle.replay_text.specs.Conditions.{IsValue, IsEntry, IsReport}
use Rattle.replay_text.proofs.ranges.is_record_in.Goals as goal

pub returns : goal.returns
returns c =
    let numbers : IsTrue c.has_numbers_in.result = search rules in
    let values : IsTrue c.are_values.result = search rules in
    let entries : IsTrue c.are_entries.result = search rules in
    let values_are : IsTrue c.are_values.result ↔ All IsValue c.args.parts.now.args = rw c.as_slice.ensures at c.are_values.ensures in
    let entries_are : IsTrue c.are_entries.result ↔ All (IsEntry c.args.parts.now.threads) c.args.parts.now.log = rw c.as_slice-2.ensures at
    c.are_entries.ensures in
    let reports_are : IsTrue c.are_reports.result ↔ All IsReport c.args.parts.now.ends = rw c.as_slice-3.ensures at c.are_reports.ensures in (
      λ t. record {
        invoke = rw c.as_str.ensures at c.show_name_is_text.ensures.utf8;
        bytes = rw c.as_str.ensures at c.show_name_is_text.ensures.bytes;
        numbers = c.has_numbers_in.ensures.0 numbers;
        args = values_are.0 values;
        log = entries_are.0 entries;
        ends = reports_are.0 t;
      },
      λ r. reports_are.1 r.ends,
    )
