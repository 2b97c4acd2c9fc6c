-- What is done in open blocks begins some typed code: each of them ends behind an `unreachable`.
use Rattle.std.proofs.Common.{◌≡◌, ◌∙◌, ℕ, ◌≤◌, List, [], ◌∷◌, ◌++◌, length, map, take, reverse, Option, Some, None, refl, sym, ap}
use Rattle.std.proofs.Common.{append_assoc, append-nil}
use Rattle.std.proofs.lemmas.List.{take_at, length-take-le}
use Rattle.types.specs.declared.value.ValType.{ValType}
use Rattle.types.specs.declared.value.ValType.TheVariants.{I32}
use Rattle.types.specs.declared.instr.Instr.{Instr}
use Rattle.types.specs.declared.instr.Instr.TheVariants.{If, Else, End}
use Rattle.types.specs.declared.instr.PlainInstr.TheVariants.{Unreachable}
use Rattle.types.specs.Nesting.{Code, Empty, Then, BlockThen, LoopThen, IfElseThen, flat}
use Rattle.validate_typing.specs.Context.{Context}
use Rattle.validate_typing.specs.Typing.{results_of, HasType}
use Rattle.validate_instructions.specs.declared.block.Flow.{Flow}
use Rattle.validate_instructions.specs.declared.block.Flow.TheVariants.{Live, Idle, Free}
use Rattle.validate_instructions.specs.declared.block.OpenBlock.{OpenBlock}
use Rattle.validate_instructions.specs.Blocks.{MayHave, Known}
use Rattle.validate_bodies.specs.Reached.{Opener, ByBlock, ByLoop, ByIf, ByElse, Done, InBody, InBlock, opening, flat_done, carried, condition}
use Rattle.validate_bodies.specs.Reached.{labels_in, HasFirstArm, Leaves, BeginsSome}
use Rattle.validate_bodies.specs.Forth.{Stands, AreDone}
use Rattle.validate_bodies.proofs.Forth.{joined, flat_joined, type_joined}

-- Operands of which something is known may be of these types.

unfoldable pub fill : ValType → Option ValType → ValType
fill d None = d
fill d (Some t) = t

filled_have : (flow : Flow) (d : ValType) (ks : List (Option ValType)) → MayHave flow ks (map (fill d) ks)
unfolding fill
filled_have Live d [] = refl
filled_have Idle d [] = refl
filled_have Free d [] = tt
filled_have Live d (None ∷ ks) = (tt, filled_have Live d ks)
filled_have Idle d (None ∷ ks) = (tt, filled_have Idle d ks)
filled_have Free d (None ∷ ks) = (tt, filled_have Free d ks)
filled_have Live d (Some k ∷ ks) = (refl, filled_have Live d ks)
filled_have Idle d (Some k ∷ ks) = (refl, filled_have Idle d ks)
filled_have Free d (Some k ∷ ks) = (refl, filled_have Free d ks)

pub filled_known : (block : OpenBlock) (d : ValType) → Known block (map (fill d) (reverse block.operands.items))
filled_known block d = filled_have block.flow d (reverse block.operands.items)

-- What is done leaves operands of some types.
leaves_some : (c : Context) (taken : List ValType) (blocks : List OpenBlock) (d : Done) → Stands c taken blocks d →
    (types : List ValType) × Leaves c d taken types
leaves_some c taken [] d h = absurd h
leaves_some c taken (block ∷ blocks) (InBody code) h =
    let own = map (fill I32) (reverse block.operands.items) in (own, h.3.typed own (filled_known block I32))
leaves_some c taken (block ∷ blocks) (InBlock around o code) h =
    let own = map (fill I32) (reverse block.operands.items) in
    let below = leaves_some c (condition o) blocks around h.0 in
    (own ++ below.0, (own, below.0, refl, below.1, h.1.first, h.2.typed own (filled_known block I32)))

-- Any operands may lie before it, and any behind it.
abbrev stop : Code
stop = Then Unreachable Empty

stop_type : (c : Context) (labels : List (List ValType)) (from to : List ValType) → HasType c labels stop from to
stop_type c labels from to = (to, tt, refl)

given : Opener → List ValType
given (ByBlock t) = results_of t
given (ByLoop t) = results_of t
given (ByIf t) = results_of t
given (ByElse t first) = results_of t

-- a block that ends, behind which nothing goes on
unfoldable ended : Opener → Code → Code
ended (ByBlock t) code = BlockThen t code stop
ended (ByLoop t) code = LoopThen t code stop
ended (ByIf t) code = IfElseThen t code stop stop
ended (ByElse t first) code = IfElseThen t first code stop

ended_type : (c : Context) (labels : List (List ValType)) (o : Opener) (code : Code) (below to : List ValType) → HasFirstArm c labels o →
    HasType c (carried o ∷ labels) code [] (given o) → HasType c labels (ended o code) (condition o ++ below) to
unfolding ended given
ended_type c labels (ByBlock t) code below to f h = (h, stop_type c labels (results_of t ++ below) to)
ended_type c labels (ByLoop t) code below to f h = (h, stop_type c labels (results_of t ++ below) to)
ended_type c labels (ByIf t) code below to f h =
    (below, refl, h, stop_type c (results_of t ∷ labels) [] (results_of t), stop_type c labels (results_of t ++ below) to)
ended_type c labels (ByElse t first) code below to f h = (below, refl, f, h, stop_type c labels (results_of t ++ below) to)

-- The whole of a body, with this behind what is done in the innermost block.
unfoldable whole : Done → Code → Code
whole (InBody code) more = joined code more
whole (InBlock around o code) more = whole around (ended o (joined code more))

leads_to : Context → Done → List ValType
leads_to c (InBody code) = c.results
leads_to c (InBlock around o code) = given o

whole_type : (c : Context) (d : Done) (taken types : List ValType) (more : Code) → Leaves c d taken types →
    ((us : List ValType) → HasType c (labels_in c d) more (taken ++ us) (leads_to c d)) → HasType c (c.results ∷ []) (whole d more) [] c.results
unfolding whole leads_to
whole_type c (InBody code) taken types more h m = type_joined c (c.results ∷ []) code more [] (taken ++ types) c.results h (m types)
whole_type c (InBlock around o code) taken types more h m =
    let inner = type_joined c (carried o ∷ labels_in c around) code more [] (taken ++ h.0) (given o) h.5 (m h.0) in
    whole_type c around (condition o) h.1 (ended o (joined code more)) h.3
    (λ us. ended_type c (labels_in c around) o (joined code more) us (leads_to c around) h.4 inner)

closing : Opener → List Instr
closing (ByBlock t) = End ∷ flat stop
closing (ByLoop t) = End ∷ flat stop
closing (ByIf t) = Else ∷ (flat stop ++ (End ∷ flat stop))
closing (ByElse t first) = End ∷ flat stop

flat_ended : (o : Opener) (code : Code) → flat (ended o code) ≡ (opening o ++ flat code) ++ closing o
unfolding ended closing
flat_ended (ByBlock t) code = refl
flat_ended (ByLoop t) code = refl
flat_ended (ByIf t) code = refl
flat_ended (ByElse t first) code =
    let last = End ∷ flat stop in
    sym (ap (λ x. If t ∷ x) (append_assoc (flat first ++ (Else ∷ [])) (flat code) last ∙ append_assoc (flat first) (Else ∷ []) (flat code ++ last)))

regrouped : (a o c m k t : List Instr) → a ++ (((o ++ (c ++ m)) ++ k) ++ t) ≡ (a ++ (o ++ c)) ++ (m ++ (k ++ t))
regrouped a o c m k t = simp append_assoc refl

whole_flat : (d : Done) (more : Code) → (tail : List Instr) × (flat (whole d more) ≡ flat_done d ++ (flat more ++ tail))
unfolding whole
whole_flat (InBody code) more = ([], flat_joined code more ∙ ap (λ x. flat code ++ x) (sym (append-nil (flat more))))
whole_flat (InBlock around o code) more =
    let f = whole_flat around (ended o (joined code more)) in
    let inner : flat (ended o (joined code more)) ≡ (opening o ++ (flat code ++ flat more)) ++ closing o =
    flat_ended o (joined code more) ∙ ap (λ x. (opening o ++ x) ++ closing o) (flat_joined code more) in (
      closing o ++ f.0,
      f.1 ∙ ap (λ x. flat_done around ++ (x ++ f.0)) inner ∙ regrouped (flat_done around) (opening o) (flat code) (flat more) (closing o) f.0,
    )

pub begins_some : (c : Context) (code : List Instr) (place : ℕ) (blocks : List OpenBlock) → place ≤ length code → AreDone c (take place code) blocks →
    BeginsSome c code place
begins_some c code place blocks l h =
    let d = h.0 in
    let left = leaves_some c [] blocks d h.2 in
    let f = whole_flat d stop in
    let rest = (flat stop ++ f.0) ++ (End ∷ []) in
    let split : flat (whole d stop) ++ (End ∷ []) ≡ flat_done d ++ rest =
    ap (λ x. x ++ (End ∷ [])) f.1 ∙ append_assoc (flat_done d) (flat stop ++ f.0) (End ∷ []) in
    let long : length (flat_done d) ≡ place = ap (λ (x : List Instr). length x) (sym h.1) ∙ length-take-le place code l in (
      flat (whole d stop) ++ (End ∷ []),
      ap (take place) split ∙ take_at (flat_done d) rest place long ∙ sym h.1,
      (whole d stop, refl, whole_type c d [] left.0 stop left.1 (λ us. stop_type c (labels_in c d) us (leads_to c d))),
    )
