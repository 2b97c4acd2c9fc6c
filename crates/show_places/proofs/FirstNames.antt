-- A module has one list of names at most.
use Rattle.std.proofs.Common.{◌≡◌, ◌∙◌, ℕ, List, Ok, Err, sym, subst, codes}
use Rattle.binary_wire.specs.declared.fault.Refusal.{Refusal}
use Rattle.binary_wire.specs.Faults.{input}
use Rattle.binary_wire.specs.Reading.{vector_at}
use Rattle.show_places.specs.declared.names.Named.{Named}
use Rattle.show_places.specs.Sections.{Part, HasFirst, HasNone, HasCustom, HasNoCustom}
use Rattle.show_places.specs.Names.{named_at, AreNames, HasNoNames}
use Rattle.show_places.proofs.Behind.{one_first, one_custom}

pub without_section : (bytes : List ℕ) → HasNoCustom bytes (codes "name") → HasNoNames bytes
without_section bytes n names a = n a.text a.custom

-- the subsection of such a list
subsection_in : (bytes text : List ℕ) (names : List Named) (a : AreNames bytes names) → HasCustom bytes (codes "name") text →
    HasFirst (λ x. x.0 ≡ 1) (input text) text a.functions
subsection_in bytes text names a h =
    subst (λ (t : List ℕ). HasFirst (λ x. x.0 ≡ 1) (input t) t a.functions) (one_custom bytes (codes "name") a.text text a.custom h) a.subsection

pub without_subsection : (bytes text : List ℕ) → HasCustom bytes (codes "name") text → HasNone (λ x. x.0 ≡ 1) (input text) text → HasNoNames bytes
without_subsection bytes text h n names a = n a.functions (subsection_in bytes text names a h)

pub without_vector : (bytes text : List ℕ) (functions : Part) (e : Refusal) → HasCustom bytes (codes "name") text →
    HasFirst (λ x. x.0 ≡ 1) (input text) text functions → vector_at 0xffff_ffff named_at (input functions.2) functions.2 ≡ Err e → HasNoNames bytes
without_vector bytes text functions e h f v names a =
    let same : a.functions ≡ functions =
    one_first (λ x. x.0 ≡ 1) (input text) text a.functions functions (subsection_in bytes text names a h) f in
    let there = subst (λ (p : Part). vector_at 0xffff_ffff named_at (input p.2) p.2 ≡ Ok (names, a.rest)) same a.vector in
    absurd (let n : Ok (names, a.rest) ≡ Err e = sym there ∙ v in cc)
