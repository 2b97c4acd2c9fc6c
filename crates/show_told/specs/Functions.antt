-- An open function as text.
use Rattle.std.specs.Prelude.{ℕ, List, [], ◌∷◌, ◌++◌, codes, flat_map, Option, Some, None, option_map, string_bytes}
use Rattle.dwarf_frames.specs.declared.frames.Chain.{Chain}
use Rattle.show_text.specs.Plain.{plain_text}
use Rattle.show_spots.specs.Around.{around_text}
use Rattle.show_spots.specs.Spots.{source_text, spot_text}
use Rattle.show_spots.specs.declared.spot.Spot.{Spot}
use Rattle.show_told.specs.declared.functions.ChainedSpot.{ChainedSpot}
use Rattle.show_told.specs.declared.functions.ToldFunction.{ToldFunction}
use Rattle.show_told.specs.declared.values.TypedWord.{TypedWord}
use Rattle.show_told.specs.Values.{value_text, word_text}

-- A place in the code: of the calls whose functions were put in their places, the innermost function has the line, and
-- behind it stand the calls. The text of the line stands below it, among the lines around it.
abbrev pub chained_text : Spot → Option Chain → List ℕ
chained_text spot None = spot_text (record spot { text = None })
chained_text spot (Some chain) = spot_text (record { name = spot.name; offset = spot.offset; source = None; text = None })
    ++ (codes " " ++ (plain_text (string_bytes chain.innermost) ++ (source_text (λ file. file.now) spot.source
    ++ plain_text (string_bytes chain.calls))))

abbrev pub chained_spot_text : ChainedSpot → List ℕ
chained_spot_text s = chained_text s.spot (option_map (λ chain. chain.now) s.chain)

abbrev pub typed_text : TypedWord → List ℕ
typed_text word = codes " " ++ word_text word

-- Words behind a name, if there are any.
abbrev pub listed_text : List ℕ → List TypedWord → List ℕ
listed_text name [] = []
listed_text name (w ∷ words) = codes "  " ++ (name ++ flat_map typed_text (w ∷ words))

abbrev pub function_text : ToldFunction → List ℕ
function_text told = codes "    " ++ (chained_text told.spot told.chain
    ++ (listed_text (codes "locals") told.locals.items
    ++ (listed_text (codes "operands") told.operands.items
    ++ (codes "\n" ++ (around_text told.around ++ flat_map value_text told.values.items)))))
