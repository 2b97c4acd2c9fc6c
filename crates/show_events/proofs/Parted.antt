-- Some of these places.
use Rattle.std.specs.Prelude.{ℕ, ◌-◌, min, nat_le, if◌then◌else◌, Bool, true, false, List, length, take, drop, All}
use Rattle.std.proofs.lemmas.List.Elements.{All-take, All-drop}
use Rattle.show_events.specs.Around.{around, part_around, count_before}
use Rattle.show_events.specs.declared.around.TheConstants.{MOST_WHOLE, PART, BEFORE}

either : (P : ℕ → Type 0) (b : Bool) (xs ys : List ℕ) → All P xs → All P ys → All P (if b then xs else ys)
either P true xs ys p q = p
either P false xs ys p q = q

pub all_part : (P : ℕ → Type 0) (part before at : ℕ) (places : List ℕ) → All P places
    → All P (part_around part before at places)
all_part P part before at places all =
    let first : ℕ = min (count_before at places - before) (length places - part) in
    All-take P part (drop first places) (All-drop P first places all)

-- What all have, these have.
pub all_around : (P : ℕ → Type 0) (at : ℕ) (places : List ℕ) → All P places → All P (around at places)
all_around P at places all =
    either P (nat_le (length places) MOST_WHOLE) places (part_around PART BEFORE at places) all
    (all_part P PART BEFORE at places all)
