-- From what a moment sees of a replay to the run's moment.
use Rattle.std.proofs.Common.{◌≡◌, ◌∙◌, ℕ, ◌≤◌, List, length, take, Option, Result, Ok, Err, Bool, true, false, sym, subst}
use Rattle.std.specs.Prelude.{OnOk}
use Rattle.types.specs.declared.parts.Parts.{Parts}
use Rattle.interp.specs.Threads.{meaning_in}
use Rattle.replay_text.specs.declared.parts.RecordParts.{RecordParts}
use Rattle.replay_walk.specs.Walked.{WalkCame}
use Rattle.replay.specs.Watching.{SeesReplay}
use Rattle.spawn_host.specs.declared.end.EndState.{EndState}
use Rattle.show_moments.specs.declared.moment.Bytes.{Bytes}
use Rattle.show_moments.specs.declared.moment.Moment.{Moment}
use Rattle.show_moments.specs.Moments.{MomentSees}
use Rattle.show_moments.proofs.Walked.{whole_asks, whole_sees}
use Rattle.show_moments.specs.declared.scene.MomentView.{MomentView}
use Rattle.selection.specs.declared.spans.Spans.{Spans}
use Rattle.show_named.specs.declared.data_map.DataMap.{DataMap}
use Rattle.show_rows.specs.declared.listing.Shown.{Shown}
use Rattle.report_looks.specs.declared.wanted.Here.{Here}
use Rattle.report_objects.specs.Ends.{WritesEnd}
use Rattle.show_said.specs.declared.said.Said.{Said}
use Rattle.report_looks.specs.Looked.{WritesMomentOf}
use Rattle.report_looks.specs.RunMoments.{IsMomentIn, IsViewOf, WritesAt, WritesHere, WritesIn}

pub seen_moment : (m : Parts) (r : RecordParts) (at : ℕ) (bytes : Bytes) (old new : Moment) (end : EndState) → old.at ≡ at
    → old.wanted ≡ bytes → SeesReplay MomentSees m r (Ok end) old new → new.is_short ≡ false → IsMomentIn m r at bytes new
seen_moment m r at bytes old new end here wanted (first, stands, all) whole = λ within.
    let low : old.at ≤ length r.log = subst (λ (k : ℕ). k ≤ length r.log) (sym here) within in
    let found = whole_sees meaning_in first all.0 r.limit r.log old new low whole all.1 all.2 in
    let asks = whole_asks meaning_in first all.0 r.limit r.log old new all.2 in
    record {
      at_is = asks.0 ∙ here;
      wanted = asks.1 ∙ wanted;
      run = stands.run;
      beginning = stands.beginning;
      same = stands.same;
      walk = found.0;
      came = subst (λ (k : ℕ). WalkCame meaning_in stands.run (take k r.log) found.0) here
          (found.1 stands.run stands.came stands.limit);
      round = found.2;
    }

-- the same of a record and a module that are equal
pub moment_in : (m n : Parts) (r s : RecordParts) (at : ℕ) (bytes : Bytes) (moment : Moment) → m ≡ n → r ≡ s
    → IsMomentIn m r at bytes moment → IsMomentIn n s at bytes moment
moment_in m n r s at bytes moment e f is = subst (λ (p : Parts). IsMomentIn p s at bytes moment) e
    (subst (λ (x : RecordParts). IsMomentIn m x at bytes moment) f is)

-- what is written of a moment, at the end and elsewhere
module _ (m : Parts) (shown : Shown) (map : DataMap) (out : Option Spans) (here : Here) (moment : Moment) (old new : Option (List ℕ))
    (view : MomentView) (is : IsViewOf m shown map out here.is_raw view) where
  pub end_here : here.is_end ≡ true → WritesEnd here.form view moment old new → moment.is_short ≡ false
      → WritesHere m shown map out here moment old new
  end_here end says whole = record {
    view = view;
    view_is = is;
    whole = whole;
    writes = subst (λ (b : Bool). WritesAt view b here.form moment old new) (sym end) says;
  }

  pub scene_here : here.is_end ≡ false → WritesIn here.form view moment old new → moment.is_short ≡ false
      → WritesHere m shown map out here moment old new
  scene_here inside says whole = record {
    view = view;
    view_is = is;
    whole = whole;
    writes = subst (λ (b : Bool). WritesAt view b here.form moment old new) (sym inside) says;
  }

-- the same beside memory that is equal
pub moment_beside : {T E : Type 0} (shown : Shown) (map : DataMap) (a b : Option Spans) (here : Here) (all : List Said)
    (old new : Option (List ℕ)) (r : Result T E) → a ≡ b → OnOk r (WritesMomentOf shown map a here all old new)
    → OnOk r (WritesMomentOf shown map b here all old new)
moment_beside shown map a b here all old new r same =
    subst (λ (out : Option Spans). OnOk r (WritesMomentOf shown map out here all old new)) same

-- two things that hold where it goes well
pub on_ok_both : {T E P Q R : Type 0} (r : Result T E) → (P → Q → R) → OnOk r P → OnOk r Q → OnOk r R
on_ok_both (Ok v) f p q = f p q
on_ok_both (Err e) f p q = tt
