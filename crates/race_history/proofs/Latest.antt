-- The latest write of a list that touches a byte of an access.
use Rattle.std.proofs.Common.{◌≡◌, ◌<◌, ◌≤◌, ◌++◌, ◌&&◌, List, [], ◌∷◌, true, false, Option, Some, None, inl, inr, sym, subst, arith, append_assoc}
use Rattle.std.specs.Prelude.{nat_lt}
use Rattle.std.specs.List.{Contains, fold}
use Rattle.std.proofs.lemmas.Bool.{and_from, and_parts, both_ways, cond_both, ltb-false, ltb-true}
use Rattle.std.proofs.lemmas.List.{append-nil}
use Rattle.std.proofs.lemmas.List.Elements.{Contains-append_left, Contains-push, Contains-push_cases}
use Rattle.race_history.specs.declared.access.ThreadAccess.{ThreadAccess}
use Rattle.race_history.specs.declared.lasts.Last.{Last}
use Rattle.race_history.specs.Accesses.{Meet}
use Rattle.race_history.specs.Lasts.{IsInWord}
use Rattle.race_history.specs.Tests.{touches}
use Rattle.race_history.specs.Writers.{later, later_of}
use Rattle.race_history.proofs.Lists.{Contains-here, Contains-none, Contains-there}
use Rattle.race_history.proofs.Words.{touches_from, touches_to}

-- the last of the writes that were seen
pub record IsLast (a : ThreadAccess) (seen : List Last) (y : Last) : Type 0 where
  pub has : Contains seen y
  pub writes : y.access.writes ≡ true
  pub meet : Meet y.access a
  pub last : (x : Last) → Contains seen x → x.access.writes ≡ true → Meet x.access a → x.place ≤ y.place

abbrev pub IsLatest : ThreadAccess → List Last → Option Last → Type 0
IsLatest a seen None = (x : Last) → Contains seen x → x.access.writes ≡ true → Meet x.access a → ⊥
IsLatest a seen (Some y) = IsLast a seen y

module _ (a : ThreadAccess) (wa : IsInWord a) where
  module _ (seen : List Last) (x : Last) (wx : IsInWord x.access) where
    -- it writes a byte
    module _ (writes : x.access.writes ≡ true) (meet : Meet x.access a) where
      first : ((z : Last) → Contains seen z → z.access.writes ≡ true → Meet z.access a → ⊥) → IsLast a (seen ++ x ∷ []) x
      first none = record {
        has = Contains-push seen x;
        writes = writes;
        meet = meet;
        last = λ z c w m. elim (Contains-push_cases seen x z c) [
          | inl old ↦ absurd (none z old w m)
          | inr e ↦ subst (λ (v : Last). v.place ≤ x.place) e (omega arith)
        ];
      }

      earlier : (y : Last) → x.place < y.place → IsLast a seen y → IsLast a (seen ++ x ∷ []) y
      earlier y lt h = record {
        has = Contains-append_left seen (x ∷ []) y h.has;
        writes = h.writes;
        meet = h.meet;
        last = λ z c w m. elim (Contains-push_cases seen x z c) [
          | inl old ↦ h.last z old w m
          | inr e ↦ subst (λ (v : Last). v.place ≤ y.place) e (omega arith)
        ];
      }

      after : (y : Last) → y.place ≤ x.place → IsLast a seen y → IsLast a (seen ++ x ∷ []) x
      after y le h = record {
        has = Contains-push seen x;
        writes = writes;
        meet = meet;
        last = λ z c w m. elim (Contains-push_cases seen x z c) [
          | inl old ↦ let before : z.place ≤ y.place = h.last z old w m in omega arith
          | inr e ↦ subst (λ (v : Last). v.place ≤ x.place) e (omega arith)
        ];
      }

      writes_more : (o : Option Last) → IsLatest a seen o → IsLatest a (seen ++ x ∷ []) (later_of x o)
      writes_more None h = first h
      writes_more (Some y) h =
          cond_both (nat_lt x.place y.place) (Some y) (Some x) (IsLatest a (seen ++ x ∷ []))
          (λ lt. earlier y (ltb-true x.place y.place lt) h) (λ ge. after y (ltb-false x.place y.place ge) h)

    -- or not
    module _ (isnt_one : (x.access.writes && touches x.access a) ≡ false) where
      isnt : x.access.writes ≡ true → Meet x.access a → ⊥
      isnt w m =
          both_ways (x.access.writes && touches x.access a) isnt_one
          (and_from x.access.writes (touches x.access a) w (touches_to x.access a m))

      others_more : (o : Option Last) → IsLatest a seen o → IsLatest a (seen ++ x ∷ []) o
      others_more None h = λ z c w m. elim (Contains-push_cases seen x z c) [
        | inl old ↦ h z old w m
        | inr e ↦
            isnt (subst (λ (v : Last). v.access.writes ≡ true) (sym e) w) (subst (λ (v : Last). Meet v.access a) (sym e) m)
      ]
      others_more (Some y) h = record {
        has = Contains-append_left seen (x ∷ []) y h.has;
        writes = h.writes;
        meet = h.meet;
        last = λ z c w m. elim (Contains-push_cases seen x z c) [
          | inl old ↦ h.last z old w m
          | inr e ↦
              absurd (isnt (subst (λ (v : Last). v.access.writes ≡ true) (sym e) w) (subst (λ (v : Last). Meet v.access a) (sym e) m))
        ];
      }

    latest_one : (o : Option Last) → IsLatest a seen o → IsLatest a (seen ++ x ∷ []) (later a o x)
    latest_one o h =
        cond_both (x.access.writes && touches x.access a) (later_of x o) o (IsLatest a (seen ++ x ∷ []))
        (λ yes. let p = and_parts x.access.writes (touches x.access a) yes in
        writes_more p.0 (touches_from x.access a wx wa p.1) o h)
        (λ no. others_more no o h)

  latest_all : (xs seen : List Last) (o : Option Last) → ((x : Last) → Contains xs x → IsInWord x.access) → IsLatest a seen o
      → IsLatest a (seen ++ xs) (fold (later a) o xs)
  latest_all [] seen o words h = subst (λ (l : List Last). IsLatest a l o) (sym (append-nil seen)) h
  latest_all (x ∷ xs) seen o words h =
      subst (λ (l : List Last). IsLatest a l (fold (later a) (later a o x) xs)) (append_assoc seen (x ∷ []) xs)
      (latest_all xs (seen ++ x ∷ []) (later a o x) (λ z c. words z (Contains-there x xs z c))
      (latest_one seen x (words x (Contains-here x xs)) o h))

  pub latest_is : (xs : List Last) → ((x : Last) → Contains xs x → IsInWord x.access) → IsLatest a xs (fold (later a) None xs)
  latest_is xs words = latest_all xs [] None words (λ x c w m. Contains-none x c)
