-- Strategies whose choices are given: those that are left, and whom they name.
use Rattle.std.specs.Prelude.{ℕ, ◌+◌, List, [], ◌∷◌, Option, Some, None, drop, length, is_some}
use Rattle.std.specs.Prelude.{position, nat_lt, if◌then◌else◌, slice_get, slice_index}
use Rattle.search_strategies.specs.Places.{place_of, next_place, place_within}

-- By choices: the first of those that are left.
abbrev pub chosen : List ℕ → List ℕ → Option ℕ × List ℕ
chosen [] ready = (Some 0, [])
chosen (choice ∷ rest) ready = (Some (place_within choice (length ready)), rest)

-- Round and round: the choices of the path that are left, the round, which of its choices is the next one, and who made
-- the last event.
pub record Rounding : Type 0 where
  pub path : List ℕ
  pub round : List ℕ
  pub turn : ℕ
  pub last : ℕ

-- A choice, or without one the next thread by its number.
abbrev pub round_place : Option ℕ → ℕ → List ℕ → ℕ
round_place (Some choice) last ready = place_within choice (length ready)
round_place None last ready = next_place last ready

-- The next choice: of the path, and behind it of the round, at whose end it begins again.
abbrev pub next_choice : Rounding → List ℕ → Option ℕ × Rounding
next_choice s [] = (
  slice_get s.round s.turn,
  record s { turn = (if nat_lt (s.turn + 1) (length s.round) then s.turn + 1 else 0) },
)
next_choice s (choice ∷ path) = (Some choice, record s { path = path })

abbrev pub rounds : Rounding → List ℕ → Option ℕ × Rounding
rounds s ready =
    let next = next_choice s s.path in
    let place = round_place next.0 s.last ready in (Some place, record next.1 { last = slice_index ready place })

-- Along a schedule: the threads of it that are left, who made the last event, and how many it made in a row behind the
-- schedule.
pub record Following : Type 0 where
  pub schedule : List ℕ
  pub last : ℕ
  pub in_a_row : ℕ

-- The place of a schedule's first thread that can go on.
abbrev pub first_among : List ℕ → List ℕ → Option ℕ
first_among schedule ready = position (λ thread. is_some (place_of thread ready)) schedule

-- The place of the thread that made the last event, where it goes on behind the schedule: it can, and made fewer than
-- 200 in a row.
abbrev pub stayed : Following → List ℕ → Option ℕ
stayed s ready = if nat_lt s.in_a_row 200 then place_of s.last ready else None

-- Behind the schedule: the thread at a place that stays, or else the next one by its number.
abbrev pub behind_schedule : Following → List ℕ → Option ℕ → Option ℕ × Following
behind_schedule s ready (Some place) = (Some place, record s { in_a_row = s.in_a_row + 1 })
behind_schedule s ready None =
    let place = next_place s.last ready in (Some place, record s { last = slice_index ready place; in_a_row = 1 })

-- The thread of the schedule that stands at a place of it, or without one who goes on behind the schedule.
abbrev pub along_at : Following → List ℕ → Option ℕ → Option ℕ × Following
along_at s ready (Some at) =
    let thread = slice_index s.schedule at in
    (place_of thread ready, record s { schedule = drop (at + 1) s.schedule; last = thread })
along_at s ready None =
    let rest = record s { schedule = [] } in behind_schedule rest ready (stayed rest ready)

-- The first thread of the schedule that can go on.
abbrev pub along : Following → List ℕ → Option ℕ × Following
along s ready = along_at s ready (first_among s.schedule ready)
