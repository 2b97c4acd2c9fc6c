-- Lists that go together, one place more at a time.
use Rattle.std.proofs.Common.{◌≡◌, suc, All, List, [], ◌∷◌, ◌++◌, length, refl, sym, ◌∙◌, ap, subst, arith, append-nil, append_assoc}
use Rattle.spawn_host_workers.specs.Pairs.{Together, AllThree}
use Rattle.spawn_host_workers.specs.Duties.{Joined}

module _ {A B C : Type 0} (R : A → B → C → Type 0) where
  three_more : (xs : List A) (ys : List B) (zs : List C) (x : A) (y : B) (z : C) → AllThree R xs ys zs → R x y z
      → AllThree R (xs ++ x ∷ []) (ys ++ y ∷ []) (zs ++ z ∷ [])
  three_more [] [] [] x y z h r = (r, tt)
  three_more [] [] (c ∷ zs) x y z h r = absurd h
  three_more [] (b ∷ ys) zs x y z h r = absurd h
  three_more (a ∷ xs) [] zs x y z h r = absurd h
  three_more (a ∷ xs) (b ∷ ys) [] x y z h r = absurd h
  three_more (a ∷ xs) (b ∷ ys) (c ∷ zs) x y z h r = (h.0, three_more xs ys zs x y z h.1 r)

  -- so far: what is left of the first two lists, and the third as far as it goes
  pub record SoFar (xs0 : List A) (ys0 : List B) (zs : List C) (xs : List A) (ys : List B) : Type 0 where
    pub done_x : List A
    pub done_y : List B
    pub parts_x : xs0 ≡ done_x ++ xs
    pub parts_y : ys0 ≡ done_y ++ ys
    pub all : AllThree R done_x done_y zs

  pub so_far_none : (xs0 : List A) (ys0 : List B) → SoFar xs0 ys0 [] xs0 ys0
  so_far_none xs0 ys0 = record { done_x = []; done_y = []; parts_x = refl; parts_y = refl; all = tt }

  pub so_far_more : (xs0 : List A) (ys0 : List B) (zs : List C) (xs xs1 : List A) (ys ys1 : List B) (x : A) (y : B)
      (z : C) → SoFar xs0 ys0 zs xs ys → xs ≡ x ∷ xs1 → ys ≡ y ∷ ys1 → R x y z
      → SoFar xs0 ys0 (zs ++ z ∷ []) xs1 ys1
  so_far_more xs0 ys0 zs xs xs1 ys ys1 x y z h is_x is_y r = record {
    done_x = h.done_x ++ x ∷ [];
    done_y = h.done_y ++ y ∷ [];
    parts_x = h.parts_x ∙ (ap (λ w. h.done_x ++ w) is_x ∙ sym (append_assoc h.done_x (x ∷ []) xs1));
    parts_y = h.parts_y ∙ (ap (λ w. h.done_y ++ w) is_y ∙ sym (append_assoc h.done_y (y ∷ []) ys1));
    all = three_more h.done_x h.done_y zs x y z h.all r;
  }

  pub so_far_all : (xs0 : List A) (ys0 : List B) (zs : List C) (xs : List A) (ys : List B) → SoFar xs0 ys0 zs xs ys → xs ≡ [] → ys ≡ [] → AllThree R xs0 ys0 zs
  so_far_all xs0 ys0 zs xs ys h none_x none_y =
      subst (λ w. AllThree R w ys0 zs) (sym (h.parts_x ∙ (ap (λ w. h.done_x ++ w) none_x ∙ append-nil h.done_x)))
      (subst (λ w. AllThree R h.done_x w zs) (sym (h.parts_y ∙ (ap (λ w. h.done_y ++ w) none_y ∙ append-nil h.done_y))) h.all)

pub none_of : {A : Type 0} (xs : List A) → length xs ≡ 0 → xs ≡ []
none_of [] e = refl
none_of (x ∷ xs) e = absurd (omega (arith, e))

-- a first one
pub first_there : {A : Type 0} (xs now : List A) (x : A) → now ≡ xs ++ x ∷ [] → xs ≡ [] → now ≡ x ∷ []
first_there xs now x is none = is ∙ ap (λ w. w ++ x ∷ []) none

-- of all of a list
pub all_first : {A : Type 0} (P : A → Type 0) (xs xs1 : List A) (x : A) → All P xs → xs ≡ x ∷ xs1 → P x
all_first P xs xs1 x h is = (subst (λ w. All P w) is h) 0 x (omega arith)

pub all_rest : {A : Type 0} (P : A → Type 0) (xs xs1 : List A) (x : A) → All P xs → xs ≡ x ∷ xs1 → All P xs1
all_rest P xs xs1 x h is = λ k d lt. (subst (λ w. All P w) is h) (suc k) d (omega (arith, lt))

module _ {A B : Type 0} (R : A → B → Type 0) where
  together_more : (xs : List A) (ys : List B) (x : A) (y : B) → Together R xs ys → R x y → Together R (xs ++ x ∷ []) (ys ++ y ∷ [])
  together_more [] [] x y h r = (r, tt)
  together_more [] (b ∷ ys) x y h r = absurd h
  together_more (a ∷ xs) [] x y h r = absurd h
  together_more (a ∷ xs) (b ∷ ys) x y h r = (h.0, together_more xs ys x y h.1 r)

  -- so far: what is left of the first list, and the second behind another as far as it goes
  pub record JoinedSoFar (xs0 : List A) (before after : List B) (xs : List A) : Type 0 where
    pub done_x : List A
    pub joined : List B
    pub parts : xs0 ≡ done_x ++ xs
    pub list : after ≡ before ++ joined
    pub all : Together R done_x joined

  pub joined_none : (xs0 : List A) (before : List B) → JoinedSoFar xs0 before before xs0
  joined_none xs0 before = record { done_x = []; joined = []; parts = refl; list = sym (append-nil before); all = tt }

  pub joined_more : (xs0 : List A) (before after : List B) (xs xs1 : List A) (x : A) (y : B) → JoinedSoFar xs0 before after xs → xs ≡ x ∷ xs1 → R x y
      → JoinedSoFar xs0 before (after ++ y ∷ []) xs1
  joined_more xs0 before after xs xs1 x y h is r = record {
    done_x = h.done_x ++ x ∷ [];
    joined = h.joined ++ y ∷ [];
    parts = h.parts ∙ (ap (λ w. h.done_x ++ w) is ∙ sym (append_assoc h.done_x (x ∷ []) xs1));
    list = ap (λ w. w ++ y ∷ []) h.list ∙ append_assoc before h.joined (y ∷ []);
    all = together_more h.done_x h.joined x y h.all r;
  }

  pub joined_all : (xs0 : List A) (before after : List B) (xs : List A) → JoinedSoFar xs0 before after xs → xs ≡ [] → Joined R xs0 before after
  joined_all xs0 before after xs h none = record {
    joined = h.joined;
    list = h.list;
    done = subst (λ w. Together R w h.joined) (sym (h.parts ∙ (ap (λ w. h.done_x ++ w) none ∙ append-nil h.done_x))) h.all;
  }

-- what handles promise was done
pub three_then : {A B C D : Type 0} (R : A → B → C → Type 0) (Q : C → D → Type 0) (P : A → B → D → Type 0)
    → ((x : A) (y : B) (z : C) (w : D) → R x y z → Q z w → P x y w)
    → (xs : List A) (ys : List B) (zs : List C) (ws : List D) → AllThree R xs ys zs → Together Q zs ws → AllThree P xs ys ws
three_then R Q P f [] [] [] [] h k = tt
three_then R Q P f [] [] [] (w ∷ ws) h k = absurd k
three_then R Q P f [] [] (z ∷ zs) ws h k = absurd h
three_then R Q P f [] (y ∷ ys) zs ws h k = absurd h
three_then R Q P f (x ∷ xs) [] zs ws h k = absurd h
three_then R Q P f (x ∷ xs) (y ∷ ys) [] ws h k = absurd h
three_then R Q P f (x ∷ xs) (y ∷ ys) (z ∷ zs) [] h k = absurd k
three_then R Q P f (x ∷ xs) (y ∷ ys) (z ∷ zs) (w ∷ ws) h k = (f x y z w h.0 k.0, three_then R Q P f xs ys zs ws h.1 k.1)
