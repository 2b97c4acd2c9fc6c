-- A watched strategy that leads a run to its end leads it as the strategy that it watches.
use Rattle.std.proofs.Common.{ℕ, ◌≡◌, ◌⊎◌, Some, None, IfOk, Result, Ok, Err, inl, inr}

-- it named somebody
pub named_by : {P : Type 0} (z : Type 0) (place : ℕ) → (z × (Some place ≡ None)) ⊎ P → P
named_by z place (inl x) = let none = x.1 in absurd (cc none)
named_by z place (inr p) = p

-- what follows from four facts of a result
pub if_all : {X E : Type 0} (o : Result X E) (P Q H R T : X → Type 0) → ((x : X) → P x → Q x → H x → R x → T x)
    → IfOk o P → IfOk o Q → IfOk o H → IfOk o R → IfOk o T
if_all (Ok x) P Q H R T f p q h r = f x p q h r
if_all (Err e) P Q H R T f p q h r = tt
