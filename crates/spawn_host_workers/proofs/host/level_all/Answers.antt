use Rattle.std.proofs.Common.{◌≡◌, ℕ, List, ◌++◌, length, take, drop, ◌∙◌, ap, subst, sym, append-nil, arith}
use Rattle.std.proofs.lemmas.List.{take_all, drop_all}
use Rattle.spawn_host_workers.specs.Level.{Level}
use Rattle.spawn_host_workers.proofs.host.level_all.Goals as goal

-- a slice of the whole `Vec` is written back
whole : {A : Type 0} (n : ℕ) (xs ys : List A) → n ≡ length ys → length xs ≡ length ys → xs ≡ take n (xs ++ drop (length xs) ys)
whole n xs ys len e =
    sym (ap (λ w. take n (xs ++ w)) (drop_all (length xs) ys (omega (arith, e)))
    ∙ (ap (λ w. take n w) (append-nil xs) ∙ take_all n xs (omega (arith, len, e))))

pub returns-clause-level : goal.returns-clause-level
returns-clause-level g c =
    let m = g.M.SharedMemory in
    let all = c.args.seats.now in
    let as_slice = c.as_mut_slice.ensures.value in
    let len = c.level.ensures.len ∙ ap (λ (l : List g.row.M-Seat.Denot). length l) as_slice in
    subst (λ w. Level m.opening m.name m.has_queue_right m.seen c.args.hub.now c.level.new.hub all.items w)
    (whole all.len c.level.new.seats all.items all.ok.0 len)
    (subst (λ w. Level m.opening m.name m.has_queue_right m.seen c.args.hub.now c.level.new.hub w c.level.new.seats) as_slice c.level.ensures)
