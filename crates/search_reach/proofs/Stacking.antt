-- A search that goes depth first, from one state to the next.
use Rattle.std.specs.Prelude.{◌≡◌, ◌+◌, ◌^◌, ◌<◌, ◌≤◌, ◌⊎◌, ℕ, Bool, false, List, [], ◌∷◌, ◌++◌, length, Contains, Some, refl}
use Rattle.std.specs.List.{slice_get}
use Rattle.std.proofs.Common.{ap, subst, sym, ◌∙◌, inl, inr, arith, length-append}
use Rattle.std.proofs.lemmas.Bool.{cases_lt}
use Rattle.std.proofs.lemmas.List.Elements.{Contains-append_left, Contains-push, Contains-push_cases}
use Rattle.std.proofs.lemmas.Option.{none-some, slice_get_within, slice_get-get_or}
use Rattle.search_graph.specs.declared.graph.Move.{Move}
use Rattle.search_reach.specs.Search.{StepSystem}
use Rattle.search_reach.specs.Meeting.{OfStateAt, GoesOn, OfStates, IsBegun}
use Rattle.search_reach.specs.Sought.{SaysFrom}
use Rattle.search_reach.specs.Stack.{IsStack, Opens, IsOpened}
use Rattle.search_reach.proofs.Searching.{Begins, get_longer, get_shorter, here, explored-alike}
use Rattle.search_reach.proofs.Moving.{IsUnique}
use Rattle.search_reach.proofs.Meeting.{Turns, Standing, met-known, now-long, standing-more}

-- the place isn't on it
abbrev pub Off : List ℕ → ℕ → Type 0
Off stack place = Contains stack place → ⊥

push-at : (stack : List ℕ) (x : ℕ) → slice_get (stack ++ x ∷ []) (length stack) ≡ Some x
push-at [] x = refl
push-at (y ∷ stack) x = push-at stack x

last-at : (stack : List ℕ) (x y n : ℕ) → length stack ≤ n → slice_get (stack ++ x ∷ []) n ≡ Some y → (n ≡ length stack) × (x ≡ y)
last-at stack x y n past at =
    let within = slice_get_within (stack ++ x ∷ []) n y at in
    let is : n ≡ length stack = omega (arith, past, within, length-append stack (x ∷ [])) in
    let here = push-at stack x in
    (is, cc (is, here, at))

pushed : (stack : List ℕ) (x : ℕ) → Begins stack (stack ++ x ∷ [])
pushed stack x = record { more = x ∷ []; is = refl }

-- a place on it stands somewhere
stands-at : (stack : List ℕ) (x : ℕ) → Contains stack x → (n : ℕ) × (n < length stack) × (slice_get stack n ≡ Some x)
stands-at stack x c = (c.0, c.1, slice_get-get_or stack c.0 x c.1 ∙ ap Some c.2)

pub stack-none : (end : ℕ) → IsStack [] end
stack-none end = record {
  within = λ place c. absurd (omega (arith, c.1));
  ascends = λ low high place above less at there. absurd (none-some place at);
}

-- one place more
stack-push : (stack : List ℕ) (end : ℕ) → IsStack stack end → IsStack (stack ++ end ∷ []) (end + 1)
stack-push stack end is = record {
  within = λ place c. within place (Contains-push_cases stack end place c);
  ascends = λ low high place above less at there. ascends low high place above less at there (cases_lt low (length stack)) (cases_lt high (length stack));
}
  where
    within : (place : ℕ) → Contains stack place ⊎ (end ≡ place) → place < end + 1
    within place (inl c) = let low = is.within place c in omega (arith, low)
    within place (inr same) = omega (arith, same)

    ascends : (low high place above : ℕ) → low < high → slice_get (stack ++ end ∷ []) low ≡ Some place
        → slice_get (stack ++ end ∷ []) high ≡ Some above → (low < length stack) ⊎ (length stack ≤ low) → (high < length stack) ⊎ (length stack ≤ high)
        → place < above
    ascends low high place above less at there (inl a) (inl b) =
        is.ascends low high place above less (get_shorter stack (stack ++ end ∷ []) low place (pushed stack end) a at)
        (get_shorter stack (stack ++ end ∷ []) high above (pushed stack end) b there)
    ascends low high place above less at there (inl a) (inr b) =
        let old = get_shorter stack (stack ++ end ∷ []) low place (pushed stack end) a at in
        let c : Contains stack place = here stack low place old in
        let below = is.within place c in
        let last = (last-at stack end above high b there).1 in
        omega (arith, below, last)
    ascends low high place above less at there (inr a) b =
        let one = (last-at stack end place low a at).0 in
        let within = slice_get_within (stack ++ end ∷ []) high above there in
        absurd (omega (arith, less, one, within, length-append stack (end ∷ [])))

-- the last one is taken
pub stack-rest : (rest : List ℕ) (at end : ℕ) → IsStack (rest ++ at ∷ []) end → IsStack rest end
stack-rest rest at end is = record {
  within = λ place c. is.within place (Contains-append_left rest (at ∷ []) place c);
  ascends = λ low high place above less here there.
      is.ascends low high place above less (get_longer rest (rest ++ at ∷ []) low place (pushed rest at) here)
      (get_longer rest (rest ++ at ∷ []) high above (pushed rest at) there);
}

-- which isn't among the others
off-rest : (rest : List ℕ) (at end : ℕ) → IsStack (rest ++ at ∷ []) end → Off rest at
off-rest rest at end is c =
    let s = stands-at rest at c in
    let low = is.ascends s.0 (length rest) at at s.1 (get_longer rest (rest ++ at ∷ []) s.0 at (pushed rest at) s.2) (push-at rest at) in
    omega (arith, low)

pub opened-none : (stack : List ℕ) (from : ℕ) → IsOpened stack from from stack
opened-none stack from = record {
  len = omega arith;
  opens = λ few. record {
    kept = λ place c. c;
    new = λ place since low. absurd (omega (arith, since, low));
    only = λ place c. inl c;
    stack = λ is. is;
  };
}

opens-more : (before mid : List ℕ) (from end : ℕ) → from ≤ end → Opens before from end mid → Opens before from (end + 1) (mid ++ end ∷ [])
opens-more before mid from end since o = record {
  kept = λ place c. Contains-append_left mid (end ∷ []) place (o.kept place c);
  new = λ place above low. new place above low (cases_lt place end);
  only = λ place c. only place (Contains-push_cases mid end place c);
  stack = λ is. stack-push mid end (o.stack is);
}
  where
    new : (place : ℕ) → from ≤ place → place < end + 1 → (place < end) ⊎ (end ≤ place) → Contains (mid ++ end ∷ []) place
    new place above low (inl less) = Contains-append_left mid (end ∷ []) place (o.new place above less)
    new place above low (inr past) =
        let same : end ≡ place = omega (arith, low, past) in
        subst (Contains (mid ++ end ∷ [])) same (Contains-push mid end)

    only : (place : ℕ) → Contains mid place ⊎ (end ≡ place) → Contains before place ⊎ ((from ≤ place) × (place < end + 1))
    only place (inl c) = by (o.only place c)
      where
        by : Contains before place ⊎ ((from ≤ place) × (place < end)) → Contains before place ⊎ ((from ≤ place) × (place < end + 1))
        by (inl c) = inl c
        by (inr h) = inr (h.0, omega (arith, h.1))
    only place (inr same) = inr (omega (arith, same, since), omega (arith, same))

pub opened-more : (before mid after : List ℕ) (from end number : ℕ) → from ≤ end → IsOpened before from end mid → after ≡ mid ++ number ∷ []
    → (end < 2 ^ 32 → number ≡ end) → IsOpened before from (end + 1) after
opened-more before mid after from end number since o is fits = record {
  len = let old = o.len in omega (arith, ap length is, length-append mid (number ∷ []), old, since);
  opens = λ few. subst (Opens before from (end + 1)) (ap (λ (n : ℕ). mid ++ n ∷ []) (sym (fits (omega (arith, few)))) ∙ sym is)
      (opens-more before mid from end since (o.opens (omega (arith, few))));
}

-- what was gone on from, behind a turn
pub turns-off : (rest after : List ℕ) (at met known : ℕ) → IsStack (rest ++ at ∷ []) met → Opens rest met known after
    → Turns (Off (rest ++ at ∷ [])) (Off after) at met known
turns-off rest after at met known is o = record {
  before = λ off. off (Contains-push rest at);
  which = λ j inside off. which j inside off (cases_lt j met);
  kept = λ j low off c. kept j low off (o.only j c);
  this = λ c. this (o.only at c);
}
  where
    other : (j : ℕ) → Off after j → (at ≡ j → ⊥) → Contains rest j ⊎ (at ≡ j) → ⊥
    other j off not (inl c) = off (o.kept j c)
    other j off not (inr same) = not same

    old : (j : ℕ) → Off after j → j < met → (j < at) ⊎ (at ≤ j) → (at < j) ⊎ (j ≤ at) → (Off (rest ++ at ∷ []) j × (j < met)) ⊎ (at ≡ j)
    old j off low (inl less) more = inl (λ c. other j off (λ same. omega (arith, less, same)) (Contains-push_cases rest at j c), low)
    old j off low (inr past) (inl more) = inl (λ c. other j off (λ same. omega (arith, more, same)) (Contains-push_cases rest at j c), low)
    old j off low (inr past) (inr up) = inr (omega (arith, past, up))

    which : (j : ℕ) → j < known → Off after j → (j < met) ⊎ (met ≤ j) → (Off (rest ++ at ∷ []) j × (j < met)) ⊎ (at ≡ j)
    which j inside off (inl low) = old j off low (cases_lt j at) (cases_lt at j)
    which j inside off (inr high) = absurd (off (o.new j high inside))

    kept : (j : ℕ) → j < met → Off (rest ++ at ∷ []) j → Contains rest j ⊎ ((met ≤ j) × (j < known)) → ⊥
    kept j low off (inl c) = off (Contains-append_left rest (at ∷ []) j c)
    kept j low off (inr h) = let high = h.0 in omega (arith, low, high)

    this : Contains rest at ⊎ ((met ≤ at) × (at < known)) → ⊥
    this (inl c) = off-rest rest at met is c
    this (inr h) = let high = h.0 in let low = is.within at (Contains-push rest at) in omega (arith, low, high)

module _ {S W E : Type 0} (k : StepSystem S W E) (eq : S → S → Bool) where
  -- Where a search stands that goes depth first: it has gone on from so many states, and not from those on the stack.
  pub record Deep (has : List S → Type 0) (sought : E → Type 0) (stack : List ℕ) (gone : ℕ) (moves : List Move) : Type 0 where
    pub standing : Standing k eq has sought (Off stack) moves
    pub len : gone + length stack ≡ length standing.states
    pub stacked : length standing.states < 2 ^ 32 → IsStack stack (length standing.states)

  pub deep-first : (has : List S → Type 0) (sought : E → Type 0) (moves : List Move) (end : ℕ) → ((ks : List S) → has ks → end ≡ length ks)
      → IsBegun k has eq sought moves → (stack : List ℕ) → IsOpened [] 0 end stack → Deep has sought stack 0 moves
  deep-first has sought moves end len b stack o =
      let is = len b.states b.held in
      record {
        standing = record {
          states = b.states;
          held = b.held;
          sound = (b.explored).sound;
          passed = b.passed;
          explored = λ few. explored-alike eq k b.states moves (λ (j : ℕ). j < 0) (Off stack) (λ j low h. absurd (omega (arith, h)))
              (λ j low off. absurd (off ((o.opens (omega (arith, is, few))).new j (omega arith) (omega (arith, is, low))))) b.explored;
          moved = λ few. b.moved;
        };
        len = let l = o.len in omega (arith, l, is);
        stacked = λ few. subst (IsStack stack) is ((o.opens (omega (arith, is, few))).stack (stack-none 0));
      }

  module _ (has : List S → Type 0) (sought : E → Type 0) (stack rest : List ℕ) (at gone : ℕ) (moves : List Move) (so : Deep has sought stack gone moves)
      (taken : stack ≡ rest ++ at ∷ []) (met : ℕ) (len : (ks : List S) → has ks → met ≡ length ks) where
    stacked : met < 2 ^ 32 → IsStack (rest ++ at ∷ []) met
    stacked few =
        let is = len (so.standing).states (so.standing).held in
        subst (λ l. IsStack l met) taken (subst (IsStack stack) (sym is) (so.stacked (omega (arith, is, few))))

    pub not-before : Off stack at → ⊥
    not-before off = off (subst (λ l. Contains l at) (sym taken) (Contains-push rest at))

    pub gone-fewer : gone < met
    gone-fewer =
        let is = len (so.standing).states (so.standing).held in
        let l = so.len in
        omega (arith, is, l, ap length taken, length-append rest (at ∷ []))

    pub below-met : met < 2 ^ 32 → at < met
    below-met few = (stacked few).within at (Contains-push rest at)

    module _ (new : List S → Type 0) (after : List Move) (low : at < met) (of : OfStateAt k has at (λ ks s. GoesOn k new eq ks at s moves after))
        (known : ℕ) (known-is : (ks : List S) → new ks → known ≡ length ks) (unique : (ks : List S) → new ks → IsUnique eq ks) where
      pub deep-more : (is : Bool) → is ≡ false → OfStates k new (SaysFrom k sought met is) → (more : List ℕ) → IsOpened rest met known more
          → Deep new sought more (gone + 1) after
      deep-more is fails said more o =
          let up = met-known k eq has sought (Off stack) moves so.standing met len at new after low of known known-is in
          let are = now-long k eq has sought (Off stack) moves so.standing met len at new after low of known known-is in
          record {
            standing = standing-more k eq has sought (Off stack) moves so.standing met len at new after low of unique not-before known known-is (Off more)
                (λ few. subst (λ l. Turns (Off l) (Off more) at met known) (sym taken)
                (turns-off rest more at met known (stacked (omega (arith, up, few))) (o.opens (omega (arith, few))))) is fails said;
            len =
                let was = len (so.standing).states (so.standing).held in
                let l = so.len in
                let n = o.len in
                omega (arith, was, l, n, up, are, ap length taken, length-append rest (at ∷ []));
            stacked = λ few. subst (IsStack more) are
                ((o.opens (omega (arith, are, few))).stack (stack-rest rest at met (stacked (omega (arith, up, are, few)))));
          }

  -- where none is on the stack
  pub deep-all : (has : List S → Type 0) (sought : E → Type 0) (stack : List ℕ) (gone : ℕ) (moves : List Move) (so : Deep has sought stack gone moves)
      → length stack ≡ 0 → gone < 2 ^ 32 → (length so.standing.states < 2 ^ 32) × ((j : ℕ) → j < length so.standing.states → Off stack j)
  deep-all has sought stack gone moves so none few = (let l = so.len in omega (arith, l, few, none), λ j low c. omega (arith, c.1, none))
