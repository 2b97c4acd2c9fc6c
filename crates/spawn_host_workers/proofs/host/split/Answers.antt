use Rattle.std.proofs.Common.{◌≡◌, ℕ, ◌+◌, ◌≤◌, List, [], ◌∷◌, ◌++◌, ◌∙◌, ap, sym, subst, vec_len, vec_items, vec_capacity, append_assoc, append-nil, arith}
use Rattle.std.specs.Vec.Iter.{into_iter_items, into_iter_len}
use Rattle.spawn_host_workers.specs.Composed.{with_report, reported, seats_of}
use Rattle.spawn_host_workers.proofs.Pairing.{none_of}
use Rattle.spawn_host_workers.proofs.host.split.Goals as goal
use Rattle.spawn_host_workers.proofs.host.split.Goals.{in-Some-report, in_default}

-- one more is moved from the second list to the end of the first
moved : {A : Type 0} (xs now ys all : List A) (x : A) → now ≡ xs ++ x ∷ [] → xs ++ x ∷ ys ≡ all → now ++ ys ≡ all
moved xs now ys all x items e = ap (λ w. w ++ ys) items ∙ (append_assoc xs (x ∷ []) ys ∙ e)

moved_len : (len more rest left all : ℕ) → more ≡ len + 1 → rest + 1 ≡ left → len + left ≡ all → more + rest ≡ all
moved_len len more rest left all grown taken e = omega (arith, grown, taken, e)

moved_fits : (len more rest left room room' : ℕ) → more ≡ len + 1 → room' ≡ room → rest + 1 ≡ left → len + left ≤ room → more + rest ≤ room'
moved_fits len more rest left room room' grown same taken fits = omega (arith, grown, same, taken, fits)

left_fits : (len rest left room : ℕ) → rest + 1 ≡ left → len + left ≤ room → len + rest ≤ room
left_fits len rest left room taken fits = omega (arith, taken, fits)

all_moved : {A : Type 0} (xs ys all : List A) → ys ≡ [] → xs ++ ys ≡ all → xs ≡ all
all_moved xs ys all none e = sym (append-nil xs) ∙ (ap (λ w. xs ++ w) (sym none) ∙ e)

pub loop-end-preserved : goal.loop-end-preserved
loop-end-preserved g c =
    let i = c.loop-end.invariant in
    let step = c.in-Some.ensures.steps in
    let push = c.push_reserved-in-loop-end.ensures in
    let rest = into_iter_items c.next.new.self in
    let left = into_iter_len c.next.new.self in
    let before = vec_items c.loop-end.threads in
    let threads = ap (λ l. before ++ reported l) (sym step.0) ∙ i.threads in record {
      threads = elim c.match-report.branch [
        | in-Some-report w ↦ moved before _ _ _ _ (ap (λ v. vec_items v) w.threads-is ∙ w.push_reserved.ensures.items)
            (ap (λ r. before ++ with_report r (reported rest)) (sym w.in-Some-report.is) ∙ threads)
        | in_default w ↦ ap (λ v. vec_items v ++ reported rest) w.threads-is
            ∙ (ap (λ r. before ++ with_report r (reported rest)) (sym w.in_default.is) ∙ threads)
      ];
      seats = moved _ _ _ _ _ push.items (ap (λ l. vec_items c.loop-end.seats ++ seats_of l) (sym step.0) ∙ i.seats);
      room = elim c.match-report.branch [
        | in-Some-report w ↦ subst (λ v. vec_len v + left ≤ vec_capacity v) (sym w.threads-is)
            (moved_fits _ _ left _ _ _ w.push_reserved.ensures.len w.push_reserved.ensures.capacity step.1 i.room)
        | in_default w ↦ subst (λ v. vec_len v + left ≤ vec_capacity v) (sym w.threads-is) (left_fits _ left _ _ step.1 i.room)
      ];
      len = moved_len _ _ left _ _ push.len step.1 i.len;
      space = push.capacity ∙ i.space;
    }

pub returns-clause-threads : goal.returns-clause-threads
returns-clause-threads g c =
    let rest = c.loop-end.end-iterator.rest in
    let none = none_of rest.items (sym rest.ok.0 ∙ c.in-None.ensures.steps.0) in
    all_moved _ _ _ (ap reported none) c.loop-end.invariant.threads

pub returns-clause-seats : goal.returns-clause-seats
returns-clause-seats g c =
    let rest = c.loop-end.end-iterator.rest in
    let none = none_of rest.items (sym rest.ok.0 ∙ c.in-None.ensures.steps.0) in
    all_moved _ _ _ (ap seats_of none) c.loop-end.invariant.seats
