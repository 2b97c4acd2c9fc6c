-- The opening memory without changes, and the first queue without answers.
use Rattle.std.specs.Prelude.{ℕ, ◌≡◌, ◌-◌, ◌++◌, List, [], length, take, replicate, fold, Option, None}
use Rattle.std.proofs.Common.{ap, ◌∙◌, arith}
use Rattle.std.proofs.lemmas.List.{take_all, append-nil, length-replicate}
use Rattle.types.specs.declared.event.Answer.{Answer}
use Rattle.shared_memory.specs.Memory.{Memory}
use Rattle.shared_memory.specs.WaitQueue.{first_queue}
use Rattle.waiters.specs.Kept.{without_answers}
use Rattle.search_memory.specs.declared.beside.ChangedByte.{ChangedByte}
use Rattle.search_memory.specs.Memories.{padded, with_change}

as_opened : (opening : List ℕ) → padded opening (length opening) ≡ opening
as_opened opening =
    let none : length opening - length opening ≡ 0 = omega arith in
    ap (λ k. take (length opening) opening ++ replicate k 0) none
    ∙ (append-nil (take (length opening) opening) ∙ take_all (length opening) opening (omega arith))

abbrev pub with_bytes : List ℕ → ℕ → Memory
with_bytes bytes max = record { bytes = bytes; max = max }

pub unchanged : (opening : List ℕ) (max : ℕ) (changes : List ChangedByte) → changes ≡ []
    → with_bytes (fold with_change (padded opening (length opening)) changes) max ≡ with_bytes opening max
unchanged opening max changes none =
    let bytes : fold with_change (padded opening (length opening)) changes ≡ opening = ap (fold with_change (padded opening (length opening))) none ∙
    as_opened opening in
    λ i. record { bytes = bytes i; max = max }

pub none_due : (most : ℕ) → without_answers (first_queue most) ≡ first_queue most
unfolding first_queue
none_due most =
    let long : length (replicate {A = Option Answer} most None) ≡ most = length-replicate {A = Option Answer} most None in
    λ i. record { alive = (first_queue most).alive; sleepers = []; due = replicate (long i) None; args = [] }
