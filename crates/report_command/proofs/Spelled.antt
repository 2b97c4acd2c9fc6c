-- What number a text spells, by how it begins.
use Rattle.std.proofs.Common.{◌≡◌, ℕ, ◌+◌, ◌-◌, ◌/◌, ◌%◌, ◌≤◌, inl, inr, List, ◌∷◌, ◌++◌, codes, Option, Some, None, IfSome, refl, sym, ap, subst, ◌∙◌, arith}
use Rattle.report_command.specs.Spells.{AreDigits, IsNegative, Writes}

-- it is something exactly where this holds of it
abbrev pub Gives : Option ℕ → (ℕ → Type 0) → Type 0
Gives o P = (n : ℕ) → (o ≡ Some n → P n) × (P n → o ≡ Some n)

abbrev pub GivesDigits : Option ℕ → ℕ → List ℕ → ℕ → Type 0
GivesDigits o radix text most = Gives o (λ n. AreDigits radix text n × (n ≤ most))

abbrev pub GivesNumber : Option ℕ → List ℕ → ℕ → Type 0
GivesNumber o text most = Gives o (λ n. Writes text n (most + 1))

pub in_range : (o : Option ℕ) (radix : ℕ) (text : List ℕ) (most : ℕ) → GivesDigits o radix text most → IfSome o (λ n. n ≤ most)
in_range None radix text most gives = tt
in_range (Some n) radix text most gives = ((gives n).0 refl).1

not_decimal : (c n : ℕ) (text rest : List ℕ) → text ≡ c ∷ rest → AreDigits 10 text n → AreDigits 10 (c ∷ rest) n
not_decimal c n text rest is digits = subst (λ (t : List ℕ). AreDigits 10 t n) is digits

same_rest : (c d : ℕ) (xs ys : List ℕ) → c ∷ xs ≡ d ∷ ys → xs ≡ ys
same_rest c d xs ys e = cc e

same_head : (c d : ℕ) (xs ys : List ℕ) → c ∷ xs ≡ d ∷ ys → c ≡ d
same_head c d xs ys e = cc e

apart : (c d : ℕ) (text xs ys : List ℕ) → text ≡ c ∷ xs → text ≡ d ∷ ys → c ≡ d
apart c d text xs ys a b = same_head c d xs ys (sym a ∙ b)

module _ (text digits : List ℕ) (most : ℕ) (o : Option ℕ) where
  pub hexadecimal : text ≡ codes "0x" ++ digits → GivesDigits o 16 digits most → GivesNumber o text most
  hexadecimal is gives n = (
    λ e. let h = (gives n).0 e in inl (inr (digits, is, h.0), omega (arith, h.1)),
    λ writes. back writes,
  )
    where
      back : Writes text n (most + 1) → o ≡ Some n
      back (inl (inl decimal, low)) =
          let all = not_decimal 48 n text (120 ∷ digits) is decimal in
          absurd (omega (arith, all.0.1.1.0))
      back (inl (inr (ds, same, are), low)) =
          let e : digits ≡ ds = same_rest 120 120 digits ds (same_rest 48 48 (120 ∷ digits) (120 ∷ ds) (sym is ∙ same)) in
          (gives n).1 (subst (λ (t : List ℕ). AreDigits 16 t n) (sym e) are, omega (arith, low))
      back (inr negative) =
          let e = apart 48 45 text (120 ∷ digits) negative.digits is negative.is in
          absurd (omega (arith, e))

  module _ (is : text ≡ codes "-" ++ digits) where
    -- only a negative number begins with a minus sign
    negative_of : (n : ℕ) → Writes text n (most + 1) → IsNegative text (most + 1) n
    negative_of n (inl (inl decimal, low)) =
        let all = not_decimal 45 n text digits is decimal in
        absurd (omega (arith, all.0.1.0))
    negative_of n (inl (inr (ds, same, are), low)) =
        let e = apart 45 48 text digits (120 ∷ ds) is same in
        absurd (omega (arith, e))
    negative_of n (inr negative) = negative

    module _ (gives : GivesDigits o 10 digits (most - most / 2)) where
      size_of : (n : ℕ) → (x : IsNegative text (most + 1) n) → o ≡ Some x.size
      size_of n x =
          let e : x.digits ≡ digits = same_rest 45 45 x.digits digits (sym x.is ∙ is) in
          let low : x.size ≤ most - most / 2 = omega (arith, x.fits) in
          (gives x.size).1 (subst (λ (t : List ℕ). AreDigits 10 t x.size) e x.are, low)

      pub no_negative : o ≡ None → GivesNumber None text most
      no_negative none n = (
        λ e. absurd (cc e),
        λ writes. let e : None ≡ Some (negative_of n writes).size = sym none ∙ size_of n (negative_of n writes) in absurd (cc e),
      )

      module _ (size value : ℕ) (was : o ≡ Some size) where
        pub small : size ≤ most
        small = let low = ((gives size).0 was).1 in omega (arith, low)

        pub negative : value ≡ (most + 1 - size) % (most + 1) → GivesNumber (Some value) text most
        negative same n = (
          λ e. let same_value : value ≡ n = cc e in inr (record {
            digits = digits;
            is = is;
            size = size;
            are = ((gives size).0 was).0;
            fits = let low = ((gives size).0 was).1 in omega (arith, low);
            value = sym same_value ∙ same;
          }),
          λ writes.
              let x = negative_of n writes in
              let both : Some x.size ≡ Some size = sym (size_of n x) ∙ was in
              let sizes : x.size ≡ size = cc both in
              ap Some (same ∙ (ap (λ k. (most + 1 - k) % (most + 1)) (sym sizes) ∙ sym x.value)),
        )

module _ (text : List ℕ) (most : ℕ) (o : Option ℕ) where
  pub plain : ((ds : List ℕ) → text ≡ codes "0x" ++ ds → ⊥) → ((ds : List ℕ) → text ≡ codes "-" ++ ds → ⊥)
      → GivesDigits o 10 text most → GivesNumber o text most
  plain no_hex no_minus gives n = (
    λ e. let h = (gives n).0 e in inl (inl h.0, omega (arith, h.1)),
    λ writes. back writes,
  )
    where
      back : Writes text n (most + 1) → o ≡ Some n
      back (inl (inl decimal, low)) = (gives n).1 (decimal, omega (arith, low))
      back (inl (inr (ds, same, are), low)) = absurd (no_hex ds same)
      back (inr x) = absurd (no_minus x.digits x.is)
