-- What a search says of races.
use Rattle.std.specs.Prelude.{ℕ, List, [], ◌∷◌, codes, Option, Some, None}
use Rattle.report_json.specs.declared.raced.RacingThreads.{RacingThreads}
use Rattle.report_json.specs.declared.raced.RunRaces.{RunRaces}
use Rattle.report_json.specs.declared.raced.RunRaces.TheVariants.{Never, OnlyBehindTimeouts, Found, Between, Unknown}
use Rattle.show_json.specs.Json.{Json, Field, number, text, is, object_of}
use Rattle.show_json.specs.Rows.{pair_json}

-- Whether any run has one.
abbrev pub races_words : RunRaces → List ℕ
races_words Never = codes "never"
races_words OnlyBehindTimeouts = codes "only behind timeouts"
races_words (Found pair) = codes "found"
races_words (Between threads) = codes "found"
races_words Unknown = codes "unknown"

-- Two threads that race in a run that wasn't made.
abbrev pub racing_json : RacingThreads → Json
racing_json threads =
    object_of (is (codes "thread") (number threads.one) ∷ is (codes "other_thread") (number threads.other) ∷ [])

-- Where races were looked for, whether there are some; and the one that was found.
abbrev pub words_field : Option RunRaces → Field
words_field None = None
words_field (Some races) = is (codes "races") (text (races_words races))

abbrev pub race_field : Option RunRaces → Field
race_field None = None
race_field (Some Never) = None
race_field (Some OnlyBehindTimeouts) = None
race_field (Some (Found pair)) = is (codes "race") (pair_json pair)
race_field (Some (Between threads)) = is (codes "race") (racing_json threads)
race_field (Some Unknown) = None

abbrev pub races_fields : Option RunRaces → List Field
races_fields races = words_field races ∷ race_field races ∷ []
