-- That a type may be shared among threads is a fact: there is one proof of it at most.
use Rattle.std.proofs.Common.{◌≡◌}
use base.Fml.{Fml, ftrue, ffalse, feq, flt, fsep, fand, for, fwand, fex, fall, fupd, fhide, fat, froom, fleft, fdies}
use base.Fml.{flft, fdead, fobs, fauth, fres, fown, fbor, fobor, flent, fshr_bor, finv, fnamed, ftok, fkid, fme, fsent}
use base.Shift.{Keyless}
use denote.Param.Send.{IsSync}
use denote.RattleType.{RattleType}
use mathlib.Core.Logic.{∥∥₁_elim}

keyless-fact : (P : Fml) (a b : Keyless P) → a ≡ b
keyless-fact ftrue v w = λ i. tt
keyless-fact ffalse v w = λ i. tt
keyless-fact (feq d x y) v w = λ i. tt
keyless-fact (flt m n) v w = λ i. tt
keyless-fact (fat q τ b o x) v w = λ i. tt
keyless-fact (froom τ b o) v w = λ i. tt
keyless-fact (fleft q ω τs b o) v w = λ i. tt
keyless-fact (fdies τ b) v w = λ i. tt
keyless-fact (flft κ q) v w = λ i. tt
keyless-fact (fdead κ) v w = λ i. tt
keyless-fact (fobs γ x) v w = λ i. tt
keyless-fact (fauth γ x) v w = λ i. tt
keyless-fact (fres γ x) v w = λ i. tt
keyless-fact (fown R γ x) v w = λ i. tt
keyless-fact (fsent E) v w = λ i. tt
keyless-fact (fsep P Q) v w = λ i. (keyless-fact P v.0 w.0 i, keyless-fact Q v.1 w.1 i)
keyless-fact (fand P Q) v w = λ i. (keyless-fact P v.0 w.0 i, keyless-fact Q v.1 w.1 i)
keyless-fact (for P Q) v w = λ i. (keyless-fact P v.0 w.0 i, keyless-fact Q v.1 w.1 i)
keyless-fact (fwand P Q) v w = λ i. (keyless-fact P v.0 w.0 i, keyless-fact Q v.1 w.1 i)
keyless-fact (fupd P) v w = keyless-fact P v w
keyless-fact (fhide P) v w = keyless-fact P v w
keyless-fact (fbor κ P) v w = keyless-fact P v w
keyless-fact (fobor κ q P) v w = keyless-fact P v w
keyless-fact (flent κ P) v w = keyless-fact P v w
keyless-fact (finv P) v w = keyless-fact P v w
keyless-fact (fnamed nm P) v w = keyless-fact P v w
keyless-fact (fex X F) v w = λ i x. keyless-fact (F x) (v x) (w x) i
keyless-fact (fall X F) v w = λ i x. keyless-fact (F x) (v x) (w x) i
keyless-fact (fshr_bor κ Φ) v w = λ i q. keyless-fact (Φ q) (v q) (w q) i
keyless-fact (ftok E) v w = absurd v
keyless-fact (fkid h a) v w = absurd v
keyless-fact (fme h) v w = absurd v

sync-one : (R : RattleType) (s t : IsSync R) → s ≡ t
sync-one R s t = λ i. record { shared = λ x b o κ. keyless-fact (R.shr_at x b o κ) (s.shared x b o κ) (t.shared x b o κ) i }

pub sync-fact : {R : RattleType} → ∥ IsSync R ∥₁ → IsSync R
sync-fact {R} h = ∥∥₁_elim h (sync-one R) (λ s. s)
