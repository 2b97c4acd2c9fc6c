-- What was told so far of a text.
use Rattle.std.proofs.Common.{◌≡◌, ℕ, List, [], ◌++◌, Option, None, Some, refl, sym, ◌∙◌, ap, append_assoc, subst}
use Rattle.std.proofs.lemmas.List.{append-nil}
use Rattle.std.specs.Io.KnownBytes.{Appends, Keeps}
use Rattle.replay_forms.proofs.Written.{appends_then}
use Rattle.report_jobs.specs.Trapped.{Tells}

-- a beginning was written, and this is left
pub record Telling (old now : Option (List ℕ)) (text rest : List ℕ) : Type 0 where
  pub front : List ℕ
  pub cut : text ≡ front ++ rest
  pub told : Appends old now front

nothing : (old : Option (List ℕ)) → Appends old old []
nothing None = tt
nothing (Some xs) = sym (append-nil xs)

pub begun : (old : Option (List ℕ)) (text : List ℕ) → Telling old old text text
begun old text = record { front = []; cut = refl; told = nothing old }

pub told_more : (old now new : Option (List ℕ)) (text rest more left : List ℕ) → Telling old now text rest
    → rest ≡ more ++ left → Appends now new more → Telling old new text left
told_more old now new text rest more left t cut told = record {
  front = t.front ++ more;
  cut = t.cut ∙ ap (λ (x : List ℕ). t.front ++ x) cut ∙ sym (append_assoc t.front more left);
  told = appends_then old now new t.front more t.told told;
}

kept : (old now new : Option (List ℕ)) (front : List ℕ) → Appends old now front → Keeps now new → Appends old new front
kept None now new front p q = tt
kept (Some a) None new front p q = absurd p
kept (Some a) (Some b) None front p q = absurd q
kept (Some a) (Some b) (Some c) front p q = q ∙ p

pub told_no_more : (old now new : Option (List ℕ)) (text rest : List ℕ) → Telling old now text rest → Keeps now new
    → Telling old new text rest
told_no_more old now new text rest t keeps = record {
  front = t.front;
  cut = t.cut;
  told = kept old now new t.front t.told keeps;
}

pub tells : (old new : Option (List ℕ)) (text rest : List ℕ) → Telling old new text rest → Tells old new text
tells old new text rest t = record { front = t.front; more = rest; cut = t.cut; told = t.told }

-- nothing was told
pub untold : (old : Option (List ℕ)) (text : List ℕ) → Tells old old text
untold old text = tells old old text text (begun old text)

-- a beginning of a text is one of a longer text
pub tells_front : (old new : Option (List ℕ)) (x y : List ℕ) → Tells old new x → Tells old new (x ++ y)
tells_front old new x y t = record {
  front = t.front;
  more = t.more ++ y;
  cut = ap (λ (z : List ℕ). z ++ y) t.cut ∙ append_assoc t.front t.more y;
  told = t.told;
}

-- a text was told, and a beginning of another behind it
pub tells_behind : (old now new : Option (List ℕ)) (x y : List ℕ) → Appends old now x → Tells now new y → Tells old new (x ++ y)
tells_behind old now new x y said t = record {
  front = x ++ t.front;
  more = t.more;
  cut = ap (λ (z : List ℕ). x ++ z) t.cut ∙ sym (append_assoc x t.front t.more);
  told = appends_then old now new x t.front said t.told;
}

-- the same of a text that is equal
pub tells_as : (old new : Option (List ℕ)) (t x : List ℕ) → t ≡ x → Tells old new t → Tells old new x
tells_as old new t x same said = subst (λ (z : List ℕ). Tells old new z) same said

pub appends_as : (old new : Option (List ℕ)) (t x : List ℕ) → t ≡ x → Appends old new t → Appends old new x
appends_as old new t x same said = subst (λ (z : List ℕ). Appends old new z) same said
