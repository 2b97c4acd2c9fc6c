use Rattle.std.proofs.Common.{◌++◌, ℕ, List, Option}
use Rattle.std.specs.Io.KnownBytes.{Appends}
use Rattle.show_text.specs.Plain.{plain_text}
use Rattle.report_jobs.specs.Trapped.{Tells}
use Rattle.replay_forms.proofs.Written.{appends_then}
use Rattle.report_jobs.proofs.Said.{appends_as, tells_as, tells_behind, tells_front}
use Rattle.report_jobs.proofs.telling.say_named.Goals as goal

pub returns-then-not-say : goal.returns-then-not-say
returns-then-not-say g c =
    let a = c.args in
    let old : Option (List ℕ) = g.E.Write.contents a.err.now in
    let new : Option (List ℕ) = g.E.Write.contents c.say.new.err in
    let front : Tells old new a.front.now = tells_as old new _ _ c.as_bytes.ensures.value c.say.ensures.told in
    tells_front old new _ a.behind.now (tells_front old new _ (plain_text a.name.now) (tells_front old new _ a.words.now front))

pub returns-then-not-say-2 : goal.returns-then-not-say-2
returns-then-not-say-2 g c =
    let a = c.args in
    let old : Option (List ℕ) = g.E.Write.contents a.err.now in
    let now : Option (List ℕ) = g.E.Write.contents c.say.new.err in
    let new : Option (List ℕ) = g.E.Write.contents c.say-2.new.err in
    let front : Appends old now a.front.now =
    appends_as old now _ _ c.as_bytes.ensures.value (c.say.ensures.all c.if-not-say.false) in
    let words : Tells now new a.words.now = tells_as now new _ _ c.as_bytes-2.ensures.value c.say-2.ensures.told in
    tells_front old new _ a.behind.now (tells_front old new _ (plain_text a.name.now)
    (tells_behind old now new a.front.now a.words.now front words))

pub returns-then-not-say_plain : goal.returns-then-not-say_plain
returns-then-not-say_plain g c =
    let a = c.args in
    let old : Option (List ℕ) = g.E.Write.contents a.err.now in
    let first : Option (List ℕ) = g.E.Write.contents c.say.new.err in
    let now : Option (List ℕ) = g.E.Write.contents c.say-2.new.err in
    let new : Option (List ℕ) = g.E.Write.contents c.say_plain.new.err in
    let front : Appends old first a.front.now =
    appends_as old first _ _ c.as_bytes.ensures.value (c.say.ensures.all c.if-not-say.false) in
    let words : Appends first now a.words.now =
    appends_as first now _ _ c.as_bytes-2.ensures.value (c.say-2.ensures.all c.if-not-say-2.false) in
    tells_front old new _ a.behind.now
    (tells_behind old now new (a.front.now ++ a.words.now) (plain_text a.name.now)
    (appends_then old first now a.front.now a.words.now front words) c.say_plain.ensures.told)

pub returns : goal.returns
returns g c =
    let a = c.args in
    let old : Option (List ℕ) = g.E.Write.contents a.err.now in
    let first : Option (List ℕ) = g.E.Write.contents c.say.new.err in
    let second : Option (List ℕ) = g.E.Write.contents c.say-2.new.err in
    let now : Option (List ℕ) = g.E.Write.contents c.say_plain.new.err in
    let new : Option (List ℕ) = g.E.Write.contents c.say-3.new.err in
    let front : Appends old first a.front.now =
    appends_as old first _ _ c.as_bytes.ensures.value (c.say.ensures.all c.if-not-say.false) in
    let words : Appends first second a.words.now =
    appends_as first second _ _ c.as_bytes-2.ensures.value (c.say-2.ensures.all c.if-not-say-2.false) in
    let name : Appends second now (plain_text a.name.now) = c.say_plain.ensures.all c.if-not-say_plain.false in
    let behind : Tells now new a.behind.now = tells_as now new _ _ c.as_bytes-3.ensures.value c.say-3.ensures.told in
    tells_behind old now new (a.front.now ++ a.words.now ++ plain_text a.name.now) a.behind.now
    (appends_then old second now (a.front.now ++ a.words.now) (plain_text a.name.now)
    (appends_then old first second a.front.now a.words.now front words) name) behind
