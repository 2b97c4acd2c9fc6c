-- What callers have seen of one history, and totals over the callers of all seats.
use Rattle.std.specs.Prelude.{ℕ, zero, suc, ◌+◌, ◌==◌, Bool, true, false, List, [], ◌∷◌}
use Rattle.types.specs.declared.event.Entry.{Entry}
use Rattle.types.specs.declared.limits.TheConstants.{DESK_NAME}
use Rattle.shared_memory.specs.Access.{Gains}
use Rattle.shared_memory_on_table.specs.declared.view.Caller.{Caller}
use Rattle.shared_memory_on_table.specs.declared.view.View.{View}

-- The list goes on from what the caller has seen, by entries of others; with the queue right, by none of the queue.
abbrev pub GoesOn : Caller → List Entry → Type 0
GoesOn c list = (others : List Entry) × Gains c.name c.has_queue_right c.seen others list

-- It does from what each of the callers has seen.
abbrev pub AllGoOn : List Caller → List Entry → Type 0
AllGoOn [] list = Unit {0}
AllGoOn (c ∷ callers) list = GoesOn c list × AllGoOn callers list

abbrev pub one_if : Bool → ℕ
one_if true = 1
one_if false = 0

-- The sum of a number of each caller.
abbrev pub total_of : (Caller → ℕ) → List Caller → ℕ
total_of f [] = 0
total_of f (c ∷ callers) = f c + total_of f callers

-- The sum of a number of each view.
abbrev pub total : (View → ℕ) → List View → ℕ
total f [] = 0
total f (v ∷ views) = f v + total f views

abbrev pub has_name : ℕ → Caller → ℕ
has_name n c = one_if (c.name == n)

abbrev pub has_right : Caller → ℕ
has_right c = one_if c.has_queue_right

-- How many of a view's callers have a name, and how many the queue right; and whether it is a keeper's.
abbrev pub named : ℕ → View → ℕ
named n v = total_of (has_name n) v.callers

abbrev pub rights : View → ℕ
rights v = total_of has_right v.callers

abbrev pub keepers : View → ℕ
keepers v = one_if v.keeps

-- A new caller: it has seen nothing and lost no try, and the one named 64, the desk's, has the queue right.
abbrev pub fresh : ℕ → Caller
fresh n = record { name = n; has_queue_right = n == DESK_NAME; seen = []; lost = 0 }

-- So many new callers, in order of name from this one on.
abbrev pub fresh_from : ℕ → ℕ → List Caller
fresh_from zero n = []
fresh_from (suc count) n = fresh n ∷ fresh_from count (n + 1)

-- The first caller of a list.
abbrev pub head_of : List Caller → Caller
head_of [] = fresh 0
head_of (c ∷ callers) = c

-- The caller, with another list seen.
abbrev pub seeing : List Entry → Caller → Caller
seeing list c = record { name = c.name; has_queue_right = c.has_queue_right; seen = list; lost = c.lost }

abbrev lost_if : Bool → ℕ → ℕ
lost_if true lost = suc lost
lost_if false lost = lost

-- The caller, with one more try lost, or as it is.
abbrev pub losing_if : Bool → Caller → Caller
losing_if is c = record { name = c.name; has_queue_right = c.has_queue_right; seen = c.seen; lost = lost_if is c.lost }
