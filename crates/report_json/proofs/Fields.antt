-- How many fields there are of one that is always there.
use Rattle.std.proofs.Common.{suc, ◌≡◌, ◌+◌, List, [], ◌∷◌, ◌++◌, Some, None, refl, subst, arith}
use Rattle.serde.specs.Event.{Log}
use Rattle.report_json.specs.declared.found.FoundAs.{FoundAs}
use Rattle.report_json.specs.declared.found.FoundAs.TheVariants as found
use Rattle.report_json.specs.declared.drawn.DrawnEnd.{DrawnEnd}
use Rattle.report_json.specs.declared.drawn.DrawnEnd.TheVariants as ends
use Rattle.show_json.specs.Json.{Field}
use Rattle.show_json.specs.Sent.{SendsFields, count}
use Rattle.report_json.specs.Found.{found_as}
use Rattle.report_json.specs.Drawn.{end_field}

pub count_found : (f : FoundAs) (fs : List Field) → count (found_as f ∷ fs) ≡ suc (count fs)
count_found (found.Run n) fs = refl
count_found (found.Ending n) fs = refl
count_found (found.NoEndAfter n) fs = refl
count_found (found.ForEverAfter n) fs = refl

pub count_end : (e : DrawnEnd) (fs : List Field) → count (end_field e ∷ fs) ≡ suc (count fs)
count_end (ends.Found f) fs = refl
count_end (ends.Told c) fs = refl
count_end (ends.AllMade c) fs = refl

-- Fields and those behind them: how many there are, and how they are sent.
pub count_more : (fs gs : List Field) → count (fs ++ gs) ≡ count fs + count gs
count_more [] gs = omega arith
count_more (None ∷ fs) gs = count_more fs gs
count_more (Some f ∷ fs) gs = omega (arith, count_more fs gs)

pub sent_more : (fs gs : List Field) (a b c : Log) → SendsFields fs a b → SendsFields gs b c → SendsFields (fs ++ gs) a c
sent_more [] gs a b c sent more = subst (λ (l : Log). SendsFields gs l c) sent more
sent_more (f ∷ fs) gs a b c sent more = (sent.0, sent.1, sent_more fs gs sent.0 b c sent.2 more)
