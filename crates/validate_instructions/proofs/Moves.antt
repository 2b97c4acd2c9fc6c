-- Operands that are taken and put, one after another.
use Rattle.std.proofs.Common.{◌≡◌, ◌≢◌, ℕ, ◌+◌, ◌<◌, ◌≤◌, List, [], ◌∷◌, ◌++◌, length, take, drop, get_or, Option, Some, None}
use Rattle.std.proofs.Common.{Result, Ok, Err, MatchResult, IsErrAnd, reverse, refl, sym, ◌∙◌, ap, subst, append_assoc, arith}
use Rattle.std.proofs.lemmas.Result.{MatchResult-weaker}
use Rattle.std.proofs.lemmas.Grind.{common_steps}
use Rattle.validate_typing.specs.declared.fault.Fault.{Fault}
use Rattle.validate_typing.specs.declared.fault.Fault.TheVariants.{TypeMismatch}
use Rattle.validate_instructions.specs.declared.problem.Problem.{Problem}
use Rattle.validate_instructions.specs.declared.problem.Problem.TheVariants.{OutOfMemory, Wrong}
use Rattle.std.proofs.lemmas.List.{take_more, reverse-append, take-append-drop}
use Rattle.std.proofs.Math.ListN.{drop_of_length-le}
use Rattle.types.specs.declared.value.ValType.{ValType}
use Rattle.types.specs.declared.value.ValType.TheVariants.{I32}
use Rattle.validate_instructions.specs.declared.block.Flow.{Flow}
use Rattle.validate_instructions.specs.declared.block.Flow.TheVariants.{Live, Idle, Free}
use Rattle.validate_instructions.specs.declared.block.OpenBlock.{OpenBlock}
use Rattle.validate_instructions.specs.Blocks.{Moving, Matches, MayHave, Known, Takes, TakesAny, Puts, Moved, Lacks}
use Rattle.validate_instructions.specs.Blocks.{LacksAny, CantMove}

-- some type fits what is known of an operand
pub matching : (k : Option ValType) → (t : ValType) × Matches k t
matching None = (I32, tt)
matching (Some t) = (t, refl)

-- some types fit what is known of all of them
pub inhabit : (flow : Flow) (ks : List (Option ValType)) → (ts : List ValType) × MayHave flow ks ts
inhabit Live [] = ([], refl)
inhabit Idle [] = ([], refl)
inhabit Free [] = ([], tt)
inhabit Live (k ∷ ks) = let r = inhabit Live ks in let m = matching k in (m.0 ∷ r.0, (m.1, r.1))
inhabit Idle (k ∷ ks) = let r = inhabit Idle ks in let m = matching k in (m.0 ∷ r.0, (m.1, r.1))
inhabit Free (k ∷ ks) = let r = inhabit Free ks in let m = matching k in (m.0 ∷ r.0, (m.1, r.1))

pub known_some : (block : OpenBlock) → (ts : List ValType) × Known block ts
known_some block = inhabit block.flow (reverse block.operands.items)

pub takes_none : (a : OpenBlock) → Takes [] a a
takes_none a = record { shape = refl; flow = refl; known = λ us k. k; kept = λ us k. k }

pub takes_then : (ts us : List ValType) (a b c : OpenBlock) → Takes ts a b → Takes us b c → Takes (ts ++ us) a c
takes_then ts us a b c x y = record {
  shape = y.shape ∙ x.shape;
  flow = y.flow ∙ x.flow;
  known = λ ws k. let P : List ValType → Type 0 = Known a in subst P (sym (append_assoc ts us ws)) (x.known (us ++ ws) (y.known ws k));
  kept = λ ws k. let P : List ValType → Type 0 = Known a in y.kept ws (x.kept (us ++ ws) (subst P (append_assoc ts us ws) k));
}

pub puts_none : (a : OpenBlock) → Puts [] a a
puts_none a = record { shape = refl; flow = refl; known = λ us k. (us, refl, k); kept = λ us k. k }

pub puts_more : (t : ValType) (ts : List ValType) (a b c : OpenBlock) → Puts ts a b → Puts (t ∷ []) b c → Puts (t ∷ ts) a c
puts_more t ts a b c x y = record {
  shape = y.shape ∙ x.shape;
  flow = y.flow ∙ x.flow;
  known = λ us k.
      let p = y.known us k in
      let q = x.known p.0 p.2 in
      (q.0, p.1 ∙ ap (λ (r : List ValType). t ∷ r) q.1, q.2);
  kept = λ us k. y.kept (ts ++ us) (x.kept us k);
}

pub moved : (ts us : List ValType) (a b c : OpenBlock) → Takes ts a b → Puts us b c → Moved ts us a c
moved ts us a b c x y = record {
  shape = y.shape ∙ x.shape;
  flow = y.flow ∙ x.flow;
  known = λ ws k. let p = y.known ws k in (ts ++ p.0, x.known p.0 p.2, (p.0, refl, p.1));
  kept = λ fs ws k m.
      let P : List ValType → Type 0 = Known a in
      let Q : List ValType → Type 0 = Known c in
      subst Q (sym m.2) (y.kept m.0 (x.kept m.0 (subst P m.1 k)));
}

-- taking more first
pub moved_after : (ts us gs : List ValType) (a b c : OpenBlock) → Takes ts a b → Moved us gs b c → Moved (ts ++ us) gs a c
moved_after ts us gs a b c x y = record {
  shape = y.shape ∙ x.shape;
  flow = y.flow ∙ x.flow;
  known = λ ws k.
      let p = y.known ws k in
      (ts ++ p.0, x.known p.0 p.1, (p.2.0, ap (λ (r : List ValType). ts ++ r) p.2.1 ∙ sym (append_assoc ts us p.2.0), p.2.2));
  kept = λ fs ws k m.
      let P : List ValType → Type 0 = Known a in
      y.kept (us ++ m.0) ws (x.kept (us ++ m.0) (subst P (m.1 ∙ append_assoc ts us m.0) k)) (m.0, refl, m.2);
}

pub takes_more : (xs : List ValType) (i : ℕ) (d : ValType) (a b c : OpenBlock) → i < length xs
    → Takes (take i xs) a b → Takes (get_or xs i d ∷ []) b c → Takes (take (i + 1) xs) a c
takes_more xs i d a b c h x y = rw (take_more xs i d h) (takes_then (take i xs) (get_or xs i d ∷ []) a b c x y)

-- the same from the last on
take_off : (xs : List ValType) (n i : ℕ) (d : ValType) → n ≡ i + 1 → n ≤ length xs → drop i xs ≡ get_or xs i d ∷ drop n xs
take_off xs n i d e h = grind (arith, common_steps)

last_off : (xs : List ValType) (n i : ℕ) (d : ValType) → n ≡ i + 1 → n ≤ length xs → reverse (drop i xs) ≡ reverse (drop n xs) ++ (get_or xs i d ∷ [])
last_off xs n i d e h = ap reverse (take_off xs n i d e h) ∙ reverse-append (get_or xs i d ∷ []) (drop n xs)

pub takes_start : (xs : List ValType) (n : ℕ) (a : OpenBlock) → length xs ≤ n → Takes (reverse (drop n xs)) a a
takes_start xs n a h = let none : drop n xs ≡ [] = drop_of_length-le xs h in rw none (takes_none a)

pub puts_start : (xs : List ValType) (n : ℕ) (a : OpenBlock) → length xs ≤ n → Puts (drop n xs) a a
puts_start xs n a h = let none : drop n xs ≡ [] = drop_of_length-le xs h in rw none (puts_none a)

pub takes_down : (xs : List ValType) (n i : ℕ) (d : ValType) (a b c : OpenBlock) → n ≡ i + 1 → n ≤ length xs
    → Takes (reverse (drop n xs)) a b → Takes (get_or xs i d ∷ []) b c → Takes (reverse (drop i xs)) a c
takes_down xs n i d a b c e h x y =
    let P : List ValType → Type 0 = λ ts. Takes ts a c in
    subst P (sym (last_off xs n i d e h)) (takes_then (reverse (drop n xs)) (get_or xs i d ∷ []) a b c x y)

pub puts_down : (xs : List ValType) (n i : ℕ) (d : ValType) (a b c : OpenBlock) → n ≡ i + 1 → n ≤ length xs
    → Puts (drop n xs) a b → Puts (get_or xs i d ∷ []) b c → Puts (drop i xs) a c
puts_down xs n i d a b c e h x y =
    let P : List ValType → Type 0 = λ ts. Puts ts a c in
    subst P (sym (take_off xs n i d e h)) (puts_more (get_or xs i d) (drop n xs) a b c x y)

-- What can't be taken.

pub mismatch_is : (kind : Fault) → Wrong kind ≡ Wrong TypeMismatch → kind ≡ TypeMismatch
mismatch_is kind e = cc

pub lacks_cant : (ts : List ValType) (a : OpenBlock) (e : Problem) → Lacks ts a e → CantMove ts a e
lacks_cant ts a OutOfMemory x = tt
lacks_cant ts a (Wrong kind) x = (mismatch_is kind x.0, x.1)

pub memory_cant : (ts : List ValType) (a : OpenBlock) (e : Problem) → e ≡ OutOfMemory → CantMove ts a e
memory_cant ts a e x = rw x tt

-- nothing can be taken where nothing more stands
pub bare_lacks : (flow : Flow) (t : ValType) (us : List ValType) → flow ≢ Free → MayHave flow [] (t ∷ us) → ⊥
bare_lacks Live t us n h = let e : t ∷ us ≡ [] = h in cc
bare_lacks Idle t us n h = let e : t ∷ us ≡ [] = h in cc
bare_lacks Free t us n h = n refl

pub lacks_one : (t : ValType) (a : OpenBlock) (e : Problem) → LacksAny a e → Lacks (t ∷ []) a e
lacks_one t a e x = (x.0, λ us k. x.1 t us k)

pub takes_one : (t : ValType) (k : Option ValType) (a b : OpenBlock) → Matches k t → TakesAny k a b → Takes (t ∷ []) a b
takes_one t k a b m x = record {
  shape = x.shape;
  flow = x.flow;
  known = λ us h. x.known t us m h;
  kept = λ us h. (x.kept t us h).1;
}

-- another type stands there
pub other_lacks : (t u : ValType) (a b : OpenBlock) (e : Problem) → u ≢ t → TakesAny (Some u) a b → e ≡ Wrong TypeMismatch → Lacks (t ∷ []) a e
other_lacks t u a b e n x p = (p, λ us h. n (x.kept t us h).0)

-- what is lacking after some were taken was lacking before
pub lacks_after : (ts us : List ValType) (a b : OpenBlock) (e : Problem) → Takes ts a b → Lacks us b e → Lacks (ts ++ us) a e
lacks_after ts us a b e x y = (
  y.0,
  λ ws k. let P : List ValType → Type 0 = Known a in y.1 ws (x.kept (us ++ ws) (subst P (append_assoc ts us ws) k)),
)

pub cant_after : (ts us : List ValType) (a b : OpenBlock) (e : Problem) → Takes ts a b → CantMove us b e → CantMove (ts ++ us) a e
cant_after ts us a b OutOfMemory x y = tt
cant_after ts us a b (Wrong kind) x y = (
  y.0,
  λ ws k. let P : List ValType → Type 0 = Known a in y.1 ws (x.kept (us ++ ws) (subst P (append_assoc ts us ws) k)),
)

-- what is lacking first is lacking with more below it
pub lacks_more : (ts us : List ValType) (a : OpenBlock) (e : Problem) → Lacks ts a e → Lacks (ts ++ us) a e
lacks_more ts us a e x = (x.0, λ ws k. let P : List ValType → Type 0 = Known a in x.1 (us ++ ws) (subst P (append_assoc ts us ws) k))

pub cant_more : (ts us : List ValType) (a : OpenBlock) (e : Problem) → Lacks ts a e → CantMove (ts ++ us) a e
cant_more ts us a e x = lacks_cant (ts ++ us) a e (lacks_more ts us a e x)

split_at : (xs : List ValType) (i : ℕ) (d : ValType) → i < length xs → xs ≡ take i xs ++ ((get_or xs i d ∷ []) ++ drop (i + 1) xs)
split_at xs i d h = grind (arith, common_steps)

-- in the midst of taking
pub lacks_at : (xs : List ValType) (i : ℕ) (d : ValType) (a b : OpenBlock) (e : Problem) → i < length xs
    → Takes (take i xs) a b → Lacks (get_or xs i d ∷ []) b e → Lacks xs a e
lacks_at xs i d a b e h x y =
    let P : List ValType → Type 0 = λ ts. Lacks ts a e in
    subst P (sym (split_at xs i d h)) (lacks_after (take i xs) ((get_or xs i d ∷ []) ++ drop (i + 1) xs) a b e x
    (lacks_more (get_or xs i d ∷ []) (drop (i + 1) xs) b e y))

-- the same from the last on
pub lacks_down : (xs : List ValType) (n i : ℕ) (d : ValType) (a b : OpenBlock) (e : Problem) → n ≡ i + 1 → n ≤ length xs
    → Takes (reverse (drop n xs)) a b → Lacks (get_or xs i d ∷ []) b e → Lacks (reverse xs) a e
lacks_down xs n i d a b e g h x y =
    let P : List ValType → Type 0 = λ ts. Lacks ts a e in
    let whole : reverse xs ≡ reverse (drop i xs) ++ reverse (take i xs) =
    ap reverse (sym (take-append-drop i xs)) ∙ reverse-append (take i xs) (drop i xs) in
    let last = lacks_after (reverse (drop n xs)) (get_or xs i d ∷ []) a b e x y in
    subst P (sym whole) (lacks_more (reverse (drop i xs)) (reverse (take i xs)) a e (subst P (sym (last_off xs n i d g h)) last))

-- taking, and then putting
pub moving : (ts gs : List ValType) (a b c : OpenBlock) (r : Result (Unit {0}) Problem) → Takes ts a b
    → MatchResult r (λ _. Puts gs b c) (λ e. e ≡ OutOfMemory) → Moving ts gs a c r
moving ts gs a b c r x h = MatchResult-weaker r h (λ _ y. moved ts gs a b c x y) (λ e y. memory_cant ts a e y)

pub moved_on : (ts us gs : List ValType) (a b c : OpenBlock) (r : Result (Unit {0}) Problem) → Takes ts a b
    → Moving us gs b c r → Moving (ts ++ us) gs a c r
moved_on ts us gs a b c r x h = MatchResult-weaker r h (λ _ y. moved_after ts us gs a b c x y) (λ e y. cant_after ts us a b e x y)

-- what the exit of a `?` answers
pub at_exit : {X E : Type 0} (r : Result X E) (e : E) (P : X → Type 0) (Q : E → Type 0) → IsErrAnd r (λ y. y ≡ e) → Q e → MatchResult r P Q
at_exit (Ok x) e P Q h q = absurd h
at_exit (Err y) e P Q h q = subst Q (sym h) q
