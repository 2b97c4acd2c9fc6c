-- The accesses to the bytes of an access.
use Rattle.std.proofs.Common.{◌≡◌, ◌∙◌, ◌+◌, ◌++◌, ℕ, suc, List, [], ◌∷◌, ap, refl, sym, subst, arith, append_assoc}
use Rattle.race_history.specs.declared.access.ThreadAccess.{ThreadAccess}
use Rattle.race_history.specs.Accesses.{each_byte, one_byte}

-- to one more
each_more : (a : ThreadAccess) (n : ℕ) → each_byte a (n + 1) ≡ each_byte a n ++ one_byte a n ∷ []
each_more a n =
    let next : suc n ≡ n + 1 = omega arith in
    subst (λ k. each_byte a k ≡ each_byte a n ++ one_byte a n ∷ []) next refl

pub each_next : (before now : List ThreadAccess) (a : ThreadAccess) (n : ℕ) (x : ThreadAccess) {more : List ThreadAccess}
    → now ≡ before ++ each_byte a n → x ≡ one_byte a n → more ≡ now ++ x ∷ [] → more ≡ before ++ each_byte a (n + 1)
each_next before now a n x so is put =
    put
    ∙ (ap (λ (y : ThreadAccess). now ++ y ∷ []) is
    ∙ (ap (λ (l : List ThreadAccess). l ++ one_byte a n ∷ []) so
    ∙ (append_assoc before (each_byte a n) (one_byte a n ∷ [])
    ∙ ap (λ (l : List ThreadAccess). before ++ l) (sym (each_more a n)))))
