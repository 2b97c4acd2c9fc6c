use Rattle.std.proofs.Common.{◌≡◌, List, [], ◌∷◌, ◌++◌, ◌∙◌, ap, sym, vec_items, append_assoc, append-nil, rules}
use Rattle.spawn_host_workers.specs.Crew.{idle_ends}
use Rattle.spawn_host_workers.proofs.Pairing.{none_of}
use Rattle.spawn_host_workers.proofs.crew.leave_idle.Goals as goal

-- one more is moved from the second list to the end of the first
moved : {A : Type 0} (xs now ys all : List A) (x : A) → now ≡ xs ++ x ∷ [] → xs ++ x ∷ ys ≡ all → now ++ ys ≡ all
moved xs now ys all x items e = ap (λ w. w ++ ys) items ∙ (append_assoc xs (x ∷ []) ys ∙ e)

all_moved : {A : Type 0} (xs ys all : List A) → ys ≡ [] → xs ++ ys ≡ all → xs ≡ all
all_moved xs ys all none e = sym (append-nil xs) ∙ (ap (λ w. xs ++ w) (sym none) ∙ e)

pub loop-seat-preserved : goal.loop-seat-preserved
loop-seat-preserved g c =
    let i = c.loop-seat.invariant in
    let step = c.in-Some.ensures.steps in record {
      ends = moved _ _ _ _ _ c.push_reserved.ensures.items (ap (λ l. vec_items c.loop-seat.ends ++ idle_ends c.args.gate l) (sym step.0) ∙ i.ends);
      room = search rules;
    }

pub returns : goal.returns
returns g c =
    let rest = c.loop-seat.seat-iterator.rest in
    let none = none_of rest.items (sym rest.ok.0 ∙ c.in-None.ensures.steps.0) in
    all_moved _ _ _ (ap (λ l. idle_ends c.args.gate l) none) c.loop-seat.invariant.ends
