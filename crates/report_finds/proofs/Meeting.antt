-- What was found, by a run that was made or not.
use Rattle.std.proofs.Common.{ℕ, ◌≡◌, Bool, true, List, Option, Some, None, inl, inr, refl, subst, sym}
use Rattle.std.specs.Prelude.{IfNone, IfOk, IfSome, OnOk, Result, Ok, Err}
use Rattle.spawn_host.specs.Requests.{Requested}
use Rattle.search_endings.specs.Endings.{Ending}
use Rattle.search_scheduled.specs.declared.running.MadeRun.{MadeRun}
use Rattle.search_strategies.specs.Given.{chosen}
use Rattle.search_finds.specs.Drawing.{GoesAlong, LeadToOther, unheard}
use Rattle.search_finds.specs.Endings.{ending_left}
use Rattle.search_finds.specs.Finds.{IsFind}
use Rattle.report_command.specs.declared.search.Search.{Search}
use Rattle.report_json.specs.declared.found.FoundAs.TheVariants as founds
use Rattle.report_telling.specs.declared.found.FoundRun.{FoundRun}
use Rattle.report_telling.specs.declared.found.KeptRun.{KeptRun}
use Rattle.report_finds.specs.Found.{HasOne, HasRun, IsKeptAs, IsKeptOf, can_shrink}

pub one_by : (q : Requested) (s : Search) (choices : List ℕ) (number : ℕ) (ending : Ending) (o : Option MadeRun)
    → IfSome o (IsFind q s.sought.limit) → IfSome o (GoesAlong chosen unheard q s.sought.limit choices)
    → IfSome o (λ made. ending ≡ ending_left s.sought.dump made.end)
    → IfNone o (LeadToOther q s.sought.limit s.sought.dump choices ending)
    → HasOne q s choices number ending (record { found_as = founds.Ending number; made = o })
one_by q s choices number ending (Some made) find along ends none =
    inl (record { found = made; along = along; ends = ends; find = find; made_is = refl; as_is = refl })
one_by q s choices number ending None find along ends none = inr (record { other = none; none = refl; as_is = refl })

-- what is kept, where a smaller run was looked for
pub kept_by : (q : Requested) (s : Search) (f : FoundRun) (was : MadeRun) (k : KeptRun) → can_shrink f.found_as ≡ true → f.made ≡ Some was
    → k.found_as ≡ f.found_as → HasRun q s was k → IsKeptOf q s f k
kept_by q s f was k shrinks made as_is has = record {
  as_is = as_is;
  kept = subst (λ (is : Bool). IsKeptAs q s is f.made k) (sym shrinks) (subst (λ (o : Option MadeRun). IsKeptAs q s true o k) (sym made) has);
}

-- what is so where a call came to its end
pub if_on : {T E : Type 0} (r : Result T E) {P Q : Type 0} → (P → Q) → OnOk r P → IfOk r (λ _. Q)
if_on (Ok x) f p = f p
if_on (Err e) f p = tt

-- nothing is there, where nothing can be
pub none_of : {X : Type 0} (o : Option X) → ((x : X) → o ≡ Some x → ⊥) → o ≡ None
none_of None none = refl
none_of (Some x) none = absurd (none x refl)
