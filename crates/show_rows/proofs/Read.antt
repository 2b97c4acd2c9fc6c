-- What bytes have as bodies, by what their reading answers.
use Rattle.std.proofs.Common.{◌≡◌, ℕ, List, [], Result, Ok, Err, sym, subst, refl}
use Rattle.binary_wire.specs.declared.fault.Refusal.{Refusal}
use Rattle.show_places.specs.declared.bodies.BodyPlaces.{BodyPlaces}
use Rattle.show_rows.specs.Spots.{AreBodiesIn}

pub bodies_read : (contents : List ℕ) (bodies : List BodyPlaces) (rest : List ℕ) (read : Result (List BodyPlaces × List ℕ) Refusal)
    → read ≡ Ok (bodies, rest) → AreBodiesIn contents bodies read
bodies_read contents bodies rest read is = subst (AreBodiesIn contents bodies) (sym is) refl

pub bodies_refused : (contents : List ℕ) (bodies : List BodyPlaces) (e : Refusal) (read : Result (List BodyPlaces × List ℕ) Refusal)
    → read ≡ Err e → bodies ≡ [] → AreBodiesIn contents bodies read
bodies_refused contents bodies e read is none = subst (AreBodiesIn contents bodies) (sym is) none
