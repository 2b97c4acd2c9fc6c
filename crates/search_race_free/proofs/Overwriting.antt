-- Touches of what is written over.
use Rattle.std.specs.Prelude.{◌≡◌, ◌≢◌, ◌⊎◌, ◌+◌, ◌<◌, ◌≤◌, ℕ, Option, Some, None, IfNone, List, Contains, length}
use Rattle.std.proofs.Common.{subst, sym, ◌∙◌, inl, inr, arith}
use Rattle.std.proofs.lemmas.Bool.{cases_lt}
use Rattle.std.proofs.lemmas.Option.{same_Some, none-some}
use Rattle.schedule.proofs.Basics.{same_or_not}
use Rattle.search_settled.specs.declared.access.NextAccess.{NextAccess}
use Rattle.search_settled.specs.Accesses.{Race, WritesOver}
use Rattle.search_race_free.specs.declared.owning.Touch.{Touch}
use Rattle.search_race_free.specs.Touches.{access_at, StrikesNobody, Strikes, IsOver, ArePutOver, IsPut, AreInTheWay}
use Rattle.search_race_free.proofs.Racing.{race-swap, over-matched}
use Rattle.search_race_free.proofs.Touching.{access-past}

-- What holds of none, where there is none.
pub if-none-at : {B : Type 0} (P : Type 0) (o : Option B) → o ≡ None → IfNone o P → P
if-none-at P o is h = subst (λ p. IfNone p P) is h

module _ (wanted : List (Option NextAccess)) (n : ℕ) (a : NextAccess) (before : List Touch) where
  -- It was there, or something is written over.
  abbrev IsThere : Touch → Type 0
  IsThere x = Contains before x ⊎ IsOver wanted n a x × StrikesNobody before x.thread x.access

  -- Those of the threads so far.
  pub record OverSoFar (i : ℕ) (now : List Touch) : Type 0 where
    pub kept : (x : Touch) → Contains before x → Contains now x
    pub all : (x : Touch) → x.thread < i → IsOver wanted n a x → Contains now x
    pub each : (x : Touch) → Contains now x → IsThere x

  pub over-none : OverSoFar 0 before
  over-none = record { kept = λ x c. c; all = λ x low. absurd (omega (arith, low)); each = λ x c. inl c }

  -- a thread over whose access nothing is written
  pub over-skip : (i : ℕ) (now : List Touch) → OverSoFar i now → ((b : NextAccess) → access_at wanted i ≡ Some b → i ≢ n → WritesOver a b → ⊥)
      → OverSoFar (i + 1) now
  over-skip i now so skip = record {
    kept = so.kept;
    all = λ x low over. elim (same_or_not x.thread i) [
      | inl e ↦ absurd (skip x.access (subst (λ t. access_at wanted t ≡ Some x.access) e over.wants) (λ q. over.other (e ∙ q)) over.over)
      | inr d ↦ so.all x (omega (arith, d, low)) over
    ];
    each = so.each;
  }

  -- a thread over whose access something is
  pub over-more : (i : ℕ) (now after : List Touch) (b : NextAccess) → OverSoFar i now → access_at wanted i ≡ Some b → i ≢ n → WritesOver a b
      → StrikesNobody now i b → IsPut now (record { thread = i; access = b }) after → OverSoFar (i + 1) after
  over-more i now after b so wants other writes nobody put = record {
    kept = λ x c. (put x).1 (inl (so.kept x c));
    all = λ x low over. (put x).1 (by x low over (same_or_not x.thread i));
    each = λ x c. of x ((put x).0 c);
  }
    where
      new : Touch
      new = record { thread = i; access = b }

      by : (x : Touch) → x.thread < i + 1 → IsOver wanted n a x → (x.thread ≡ i) ⊎ (x.thread ≢ i) → Contains now x ⊎ (x ≡ new)
      by x low over (inr d) = inl (so.all x (omega (arith, d, low)) over)
      by x low over (inl e) =
          let same = same_Some x.access b (sym (subst (λ t. access_at wanted t ≡ Some x.access) e over.wants) ∙ wants) in
          inr (λ j. record { thread = e j; access = same j })

      of : (x : Touch) → Contains now x ⊎ (x ≡ new) → IsThere x
      of x (inl c) = so.each x c
      of x (inr e) = inr (subst (λ (v : Touch). IsOver wanted n a v × StrikesNobody before v.thread v.access) (sym e)
          (record { wants = wants; other = other; over = writes }, λ y c d r. nobody y (so.kept y c) d r))

  -- what strikes one of those strikes one that was there
  pub over-strikes : (i one : ℕ) (now : List Touch) (b : NextAccess) → OverSoFar i now → access_at wanted i ≡ Some b → WritesOver a b
      → Strikes now i b one → AreInTheWay wanted before one i
  over-strikes i one now b so wants writes s = by (so.each s.touch s.among)
    where
      by : IsThere s.touch → AreInTheWay wanted before one i
      by (inl c) = record {
        access = b;
        wants = wants;
        way = inl (record { touch = s.touch; among = c; is = s.is; other = s.other; race = s.race });
      }
      by (inr o) = let r = s.race in absurd (r.unmatched (over-matched a b s.touch.access writes o.0.over))

  pub over-all : (i : ℕ) (now : List Touch) → length wanted ≤ i → OverSoFar i now → ArePutOver wanted n a before now
  over-all i now past so = record {
    kept = so.kept;
    all = λ x over. so.all x (low x over) over;
    each = so.each;
  }
    where
      low : (x : Touch) → IsOver wanted n a x → x.thread < i
      low x over = elim (cases_lt x.thread i) [
        | inl h ↦ h
        | inr high ↦ absurd (none-some x.access (sym (access-past wanted x.thread (omega (arith, past, high))) ∙ over.wants))
      ]

  -- None is in another's way.
  pub over-apart : (after : List Touch) → ((x y : Touch) → Contains before x → Contains before y → x.thread ≢ y.thread → Race x.access y.access → ⊥)
      → ArePutOver wanted n a before after → (x y : Touch) → Contains after x → Contains after y → x.thread ≢ y.thread → Race x.access y.access → ⊥
  over-apart after apart put x y in_x in_y = by (put.each x in_x) (put.each y in_y)
    where
      by : IsThere x → IsThere y → x.thread ≢ y.thread → Race x.access y.access → ⊥
      by (inl c) (inl e) d r = apart x y c e d r
      by (inl c) (inr o) d r = o.1 x c d (race-swap x.access y.access r)
      by (inr o) (inl c) d r = o.1 y c (λ e. d (sym e)) r
      by (inr o) (inr p) d r = r.unmatched (over-matched a x.access y.access o.0.over p.0.over)
