use Rattle.std.proofs.Common.{ℕ, length, take, drop, ◌-◌, ◌≤◌, arith, length-take, length-drop}
use Rattle.dwarf_reader.proofs.Little.{one_more}
use Rattle.dwarf_reader.proofs.cursor.+number_of.Goals as goal

pub overflow_mul-result : goal.overflow_mul-result
overflow_mul-result t c =
    let few : length (take (length c.args.bytes.now - 1) (drop 1 c.args.bytes.now)) ≤ 7 = omega (arith, length-take {A = ℕ}, length-drop {A = ℕ}) in
    omega (arith, one_more _ c.number_of.result few c.number_of.ensures.fits)

pub overflow_add-result : goal.overflow_add-result
overflow_add-result t c =
    let few : length (take (length c.args.bytes.now - 1) (drop 1 c.args.bytes.now)) ≤ 7 = omega (arith, length-take {A = ℕ}, length-drop {A = ℕ}) in
    omega (arith, one_more _ c.number_of.result few c.number_of.ensures.fits)
