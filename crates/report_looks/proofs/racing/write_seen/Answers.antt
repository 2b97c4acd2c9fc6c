use Rattle.std.proofs.Common.{◌∙◌, List, length, ap, subst, sym}
use Rattle.types.specs.declared.event.Entry.{Entry}
use Rattle.show_rows.specs.Listing.{IsStoryOf}
use Rattle.replay_text.specs.declared.parts.RecordParts.{RecordParts}
use Rattle.show_races.specs.Sites.{opening_of, sites_in}
use Rattle.show_races.specs.Races.{Says}
use Rattle.show_races.proofs.Told.{says_by, told_of}
use Rattle.report_looks.proofs.racing.write_seen.Goals as goal

pub returns-clause-says : goal.returns-clause-says
returns-clause-says g c =
    let log = c.parts-2.result.now.log in
    let m = c.in_ok-known.known.parts.now in
    let rows = c.as_slice.result.now in
    let told = c.in_ok-told.told in
    let are = c.in_ok-told.ensures in
    let allowed = c.args.seen.allowed in
    let is_racy = c.is_racy.result in
    told_of (λ l k o. Says l k o is_racy) allowed log c.args.seen.seen.now.record.log m c.args.module.now.parts rows
    c.args.seen.seen.now.rows.items (ap (λ (r : RecordParts). r.log) c.parts-2.ensures.parts)
    (c.in_ok-known.ensures.parts ∙ c.parts.ensures.parts) c.as_slice.ensures.value
    (says_by log (sites_in allowed m rows log (length log)) (opening_of m) told.races.pairs.items is_racy are.races are.none
    c.is_racy.ensures.some c.is_racy.ensures.none)

pub returns-clause-writes : goal.returns-clause-writes
returns-clause-writes g c =
    let told = c.in_ok-told.told in
    let are = c.in_ok-told.ensures in
    let known = c.in_ok-known.ensures.parts ∙ c.parts.ensures.parts in
    record {
      allowed = c.args.seen.allowed;
      allowed_is = c.requires.allowed;
      found = record { «record» = c.parts-2.result; rows = c.as_slice.result; code = _ };
      told = told;
      is_found = record {
        of_record = c.parts-2.ensures.parts;
        of_rows = c.as_slice.ensures.value;
        of_module = known;
        is_story = are.is_story;
      };
      told_is = are;
      shown = record { «record» = c.parts-4.result; rows = c.as_slice-2.result; code = _ };
      is_shown = record {
        of_record = c.parts-4.ensures.parts;
        of_rows = c.as_slice-2.ensures.value;
        of_module = c.in_ok-code.ensures ∙ known;
        is_story = subst (λ (l : List Entry). IsStoryOf l told.story)
            (ap (λ (r : RecordParts). r.log) (c.parts-2.ensures.parts ∙ sym c.parts-4.ensures.parts)) are.is_story;
      };
      map = c.args.seen.map.now;
      stacks = _;
      stacks_are = c.in_ok-stacks.ensures;
      tells = c.in_ok-write_told.ensures;
    }
