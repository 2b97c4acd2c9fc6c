-- One add to a page of zeros.
use Rattle.std.proofs.Common.{◌≡◌, ℕ, ◌+◌, ◌-◌, ◌*◌, ◌%◌, ◌^◌, ◌<◌, ◌≤◌, ◌/◌, Bool, true, false, List, ◌++◌, length, take, drop, replicate}
use Rattle.std.proofs.Common.{refl, ap, ◌∙◌, arith, cond, length-append, length-take, length-drop}
use Rattle.std.proofs.lemmas.List.{take-replicate, drop-replicate, length-replicate}
use Rattle.std.specs.List.{splice}
use Rattle.std.proofs.lemmas.Bool.Decides.{nat_tests}
use Rattle.std.specs.Prelude.{nat_le}
use Rattle.types.specs.declared.limits.TheConstants.{PAGE_SIZE}
use Rattle.types.specs.declared.event.Event.{Event}
use Rattle.types.specs.declared.event.Event.TheVariants.{Rmw}
use Rattle.types.specs.declared.event.Reply.TheVariants.{Value, OutOfBounds}
use Rattle.types.specs.declared.event.RmwOp.TheVariants as ops
use Rattle.shared_memory.specs.Numbers.{le_number, le_bytes}
use Rattle.shared_memory.specs.Memory.{Memory, pages, loaded, written, reply_of, state_after, combined}
use Rattle.report_first.specs.First.{zeros, page_with, page_after, is_aligned}

-- four bytes of zeros spell 0
zero_at : (n addr : ℕ) → addr + 4 ≤ n → le_number (take 4 (drop addr (replicate n 0))) ≡ 0
zero_at n addr below =
    let room : 4 ≤ n - addr = omega arith in
    ap (λ w. le_number (take 4 w)) (drop-replicate addr n 0) ∙ ap le_number (take-replicate 4 (n - addr) 0 room)

within : (n addr : ℕ) → addr + 4 ≤ n → nat_le (addr + 4) (length (replicate {A = ℕ} n 0)) ≡ true
within n addr below = rw (length-replicate {A = ℕ} n 0) (grind (arith, nat_tests))

abbrev pub page : Memory
page = record { bytes = zeros; max = 1 }

abbrev pub added : ℕ → ℕ → Event
added addr value = Rmw ops.Add addr 4 value

page_within : (addr : ℕ) → addr < 64 → nat_le (addr + 4) (length zeros) ≡ true
unfolding zeros
page_within addr below = within PAGE_SIZE addr (omega arith)

page_loaded : (addr : ℕ) → addr < 64 → loaded page addr 4 ≡ 0
unfolding zeros
page_loaded addr below = zero_at PAGE_SIZE addr (omega arith)

-- the value before is 0
pub reply_of_add : (addr value : ℕ) → addr < 64 → reply_of page (added addr value) ≡ Value 0
reply_of_add addr value below =
    ap (λ b. cond b (Value (loaded page addr 4)) OutOfBounds) (page_within addr below) ∙ ap Value (page_loaded addr below)

sum_fits : (value : ℕ) → value < 256 → (0 + value) % 2 ^ (8 * 4) ≡ value
sum_fits value small = omega arith

-- and the page has the addend at the address
pub state_after_add : (addr value : ℕ) → addr < 64 → value < 64 → state_after page (added addr value) ≡ record { bytes = page_with addr value; max = 1 }
state_after_add addr value below small =
    ap (λ b. cond b (written page addr 4 (combined ops.Add 4 (loaded page addr 4) value)) page) (page_within addr below)
    ∙ ap (λ old. written page addr 4 (combined ops.Add 4 old value)) (page_loaded addr below)
    ∙ ap (written page addr 4) (sum_fits value (omega arith))

length_of_zeros : length zeros ≡ PAGE_SIZE
unfolding zeros
length_of_zeros = length-replicate {A = ℕ} PAGE_SIZE 0

length_of_written : (xs ys : List ℕ) (addr : ℕ) → length ys ≡ 4 → addr + 4 ≤ length xs → length (splice xs addr (addr + 4) ys) ≡ length xs
length_of_written xs ys addr four below =
    length-append (take addr xs) (ys ++ drop (addr + 4) xs) ∙ ap (λ n. length (take addr xs) + n) (length-append ys (drop (addr + 4) xs))
    ∙ omega (arith, length-take addr xs, length-drop (addr + 4) xs)

length_of_page : (b : Bool) (addr value : ℕ) → addr < 64 → length (cond b (page_with addr value) zeros) ≡ PAGE_SIZE
length_of_page true addr value below =
    length_of_written zeros (le_bytes 4 value) addr refl (rw length_of_zeros (omega arith)) ∙ length_of_zeros
length_of_page false addr value below = length_of_zeros

-- the page after a run is one page
pub one_page : (addr value : ℕ) → addr < 64 → pages (record { bytes = page_after addr value; max = 1 }) ≡ 1
one_page addr value below = ap (λ n. n / PAGE_SIZE) (length_of_page (is_aligned addr) addr value below)
