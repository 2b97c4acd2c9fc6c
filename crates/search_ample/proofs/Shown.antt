-- What the check of plain data shows.
use Rattle.std.specs.Prelude.{◌≡◌, ◌<◌, ◌≤◌, ◌⊎◌, ℕ, true, List, [], Contains, length, Some}
use Rattle.std.specs.List.{slice_get}
use Rattle.std.proofs.Common.{subst, inl, inr, arith}
use Rattle.std.proofs.lemmas.Bool.{cases_lt}
use Rattle.std.proofs.lemmas.List.{get_or_past}
use Rattle.std.proofs.lemmas.List.Elements.{All-contains}
use Rattle.std.proofs.lemmas.Option.{slice_get_within, get_or_from_slice_get}
use Rattle.search_graph.specs.declared.graph.Move.{Move}
use Rattle.search_graph.specs.Graph.{IsMarked, CanMove}
use Rattle.search_ample.specs.declared.certificate.Certificate.{Certificate}
use Rattle.search_ample.specs.Ample.{IsAmple, IsWaiting, Nears}
use Rattle.search_ample.specs.Certificate.{standing_at, part_at, wants_of, heeds_of, may_of, explored_of, FitBeside, KeepsFootprints, ArePartsApart, IsShown, row_at}

-- What stands in a list is in it.
found-in : {X : Type 0} (xs : List X) (k : ℕ) (x : X) → slice_get xs k ≡ Some x → Contains xs x
found-in xs k x is = (k, slice_get_within xs k x is, get_or_from_slice_get xs k x x is)

module _ (c : Certificate) (moves : List Move) (s : IsShown c moves) where
  followed : (i n : ℕ) → i < length c.states.items → n < c.threads → (standing_at c i n).goes ≡ true → (explored_of c moves).can i n ≡ true
      → CanMove moves i n
  followed i n li ln g can =
      let own = (s.at i li n ln).follows g can in
      record {
        next = own.move.next;
        is = subst (λ m. Contains moves m) (λ j. record { from = own.from j; thread = own.thread j; next = own.move.next })
            (found-in moves (standing_at c i n).by own.move own.is);
      }

  wanted : (part p : ℕ) → Contains (wants_of c part) p → IsMarked (may_of c part) p
  wanted part p h = by (cases_lt part (length c.parts.wants.items))
    where
      by : (part < length c.parts.wants.items) ⊎ (length c.parts.wants.items ≤ part) → IsMarked (may_of c part) p
      by (inl l) = All-contains (IsMarked (may_of c part)) (wants_of c part) p (s.wanted part l) h
      by (inr l) =
          let nothing = subst (λ ps. Contains ps p) (get_or_past c.parts.wants.items part [] l) h in
          absurd (omega (arith, nothing.1))

  nears : (i n : ℕ) → IsWaiting (explored_of c moves) i n → Nears (explored_of c moves) i n
  nears i n w =
      let near = (s.at i w.state n w.few).nears w.waits w.can in
      record {
        thread = near.move.thread;
        few = near.few;
        goes = near.goes;
        next = near.move.next;
        move = subst (λ m. Contains moves m) (λ j. record { from = near.from j; thread = near.move.thread; next = near.move.next })
            (found-in moves (standing_at c i n).by near.move near.is);
        falls = near.falls;
      }

  pub shown-is-ample : IsAmple (explored_of c moves)
  shown-is-ample = record {
    followed = followed;
    wanted = λ i n p li ln h. wanted (part_at c i n) p h;
    kept = λ i t j n p move ln may. All-contains (KeepsFootprints c) moves _ s.kept move n ln p may;
    apart = λ i n u p q li ln lu gn gu among may cf. apart-by i n u p q ((s.at i li n ln).apart gn u lu gu) may cf among;
    nears = nears;
  }
    where
      apart-by : (i n u p q : ℕ) → ArePartsApart c (part_at c i n) (part_at c i u) → IsMarked (may_of c (part_at c i u)) q
          → IsMarked (row_at c.conflicts.items p) q → Contains (wants_of c (part_at c i n)) p ⊎ Contains (heeds_of c (part_at c i n)) p → ⊥
      apart-by i n u p q apart may cf (inl h) =
          All-contains (FitBeside c (part_at c i u)) (wants_of c (part_at c i n)) p apart.wants h q cf may
      apart-by i n u p q apart may cf (inr h) =
          All-contains (FitBeside c (part_at c i u)) (heeds_of c (part_at c i n)) p apart.heeds h q cf may
