use Rattle.std.proofs.Common.{◌≡◌, ◌↔◌, refl, sym, ◌∙◌, ap, subst}
use Rattle.search_settled.specs.Known.{IsOf}
use Rattle.search_race_free.specs.Met.{held}
use Rattle.search_race_free.proofs.Held.{row-at, some-number}
use Rattle.search_race_free.proofs.met.state_at.Goals as goal

pub returns-in_default : goal.returns-in_default
returns-in_default g c = λ ks s are there.
    let r = row-at c.args.table.now ks are c.args.at s there in
    absurd (cc (r.1, c.in_default.ensures))

pub returns-in_default-split_first : goal.returns-in_default-split_first
returns-in_default-split_first g c = λ ks s are there.
    let t = c.args.table.now in
    let r = row-at t ks are c.args.at s there in
    let same : r.0 ≡ c.in-Some.row.now = cc (r.1, c.in-Some.ensures) in
    absurd (some-number t.parts c.in-Some.row.now (held s) (subst (λ v. IsOf t.parts v (held s)) same r.2) c.in_default-split_first.ensures.cases)

pub returns-in_default-get_index : goal.returns-in_default-get_index
returns-in_default-get_index g c = λ ks s are there.
    let t = c.args.table.now in
    let r = row-at t ks are c.args.at s there in
    let same : r.0 ≡ c.in-Some.row.now = cc (r.1, c.in-Some.ensures) in
    let of = subst (λ v. IsOf t.parts v (held s)) (same ∙ c.in-Some-split_first.ensures.cases.0) r.2 in
    absurd (cc (of.0, c.in_default-get_index.ensures.key))

pub returns : goal.returns
returns g c = λ ks s are there.
    let k = g.M.Moves.threads c.args.system.now in
    let t = c.args.table.now in
    let r = row-at t ks are c.args.at s there in
    let row : r.0 ≡ c.in-Some.row.now = cc (r.1, c.in-Some.ensures) in
    let of = subst (λ v. IsOf t.parts v (held s)) (row ∙ c.in-Some-split_first.ensures.cases.0) r.2 in
    let same : (held s).shared ≡ c.in-Some-get_index.held.now = cc (of.0, c.in-Some-get_index.ensures.key) in (
      record { flat = record { shared = c.in_ok-shared.shared; threads = c.in_ok-threads.threads }; owned = c.in_ok-owned.owned },
      refl,
      record {
        shared = subst (λ l. (x : g.M.Moves.X) → k.shares l x ↔ k.shares c.in_ok-shared.shared x) (sym (ap (λ h. h.shared) same)) c.in_ok-shared.ensures;
        threads = c.in_ok-threads.ensures s.flat.threads.items of.1;
        owned = c.in_ok-owned.ensures.items ∙ (c.as_slice.ensures.value ∙ sym (ap (λ h. h.owned.items) same));
      },
    )
