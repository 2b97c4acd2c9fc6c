-- What is done is read off its flat code, so the types at a place are unique.
use Rattle.std.proofs.Common.{◌≡◌, ◌∙◌, ◌∷◌, ◌++◌, [], List, refl, sym, ap, subst, reverse, true, false, ℕ, take, append_assoc, append-nil}
use Rattle.std.proofs.lemmas.List.{append_cancel_left, reverse-reverse}
use Rattle.types.specs.declared.value.ValType.{ValType}
use Rattle.types.specs.declared.instr.Instr.{Instr}
use Rattle.types.specs.declared.instr.Instr.TheVariants.{Block, Loop, If, Else, End, Plain}
use Rattle.types.specs.Nesting.{Code, Empty, Then, BlockThen, LoopThen, IfThen, IfElseThen, flat}
use Rattle.validate_typing.specs.Context.{Context}
use Rattle.validate_bodies.specs.Reached.{Opener, ByBlock, ByLoop, ByIf, ByElse, Done, InBody, InBlock, opening, flat_done, carried, condition}
use Rattle.validate_bodies.specs.Reached.{labels_in, Leaves, is_reached, Reached, CutOff}
use Rattle.validate_bodies.proofs.Forth.{joined, extended, closed}
use Rattle.validate_bodies.proofs.Unique.{reached_before, same_types}

joined_none : (code : Code) → joined code Empty ≡ code
unfolding joined
joined_none Empty = refl
joined_none (Then op rest) = ap (Then op) (joined_none rest)
joined_none (BlockThen t body rest) = ap (BlockThen t body) (joined_none rest)
joined_none (LoopThen t body rest) = ap (LoopThen t body) (joined_none rest)
joined_none (IfThen t first rest) = ap (IfThen t first) (joined_none rest)
joined_none (IfElseThen t first second rest) = ap (IfElseThen t first second) (joined_none rest)

joined_twice : (code more last : Code) → joined (joined code more) last ≡ joined code (joined more last)
unfolding joined
joined_twice Empty more last = refl
joined_twice (Then op rest) more last = ap (Then op) (joined_twice rest more last)
joined_twice (BlockThen t body rest) more last = ap (BlockThen t body) (joined_twice rest more last)
joined_twice (LoopThen t body rest) more last = ap (LoopThen t body) (joined_twice rest more last)
joined_twice (IfThen t first rest) more last = ap (IfThen t first) (joined_twice rest more last)
joined_twice (IfElseThen t first second rest) more last = ap (IfElseThen t first second) (joined_twice rest more last)

extended_none : (d : Done) → extended d Empty ≡ d
unfolding extended
extended_none (InBody code) = ap InBody (joined_none code)
extended_none (InBlock around o code) = ap (InBlock around o) (joined_none code)

extended_twice : (d : Done) (more last : Code) → extended (extended d more) last ≡ extended d (joined more last)
unfolding extended
extended_twice (InBody code) more last = ap InBody (joined_twice code more last)
extended_twice (InBlock around o code) more last = ap (InBlock around o) (joined_twice code more last)

-- the second arm begins
turned : Opener → Code → Opener
turned (ByIf t) code = ByElse t code
turned (ByBlock t) code = ByBlock t
turned (ByLoop t) code = ByLoop t
turned (ByElse t first) code = ByElse t first

divided : Done → Done
divided (InBody code) = InBody code
divided (InBlock around o code) = InBlock around (turned o code) Empty

ended : Done → Done
ended (InBody code) = InBody code
ended (InBlock around o code) = extended around (closed o code)

-- what is done with one instruction more
after : Done → Instr → Done
after d (Plain op) = extended d (Then op Empty)
after d (Block t) = InBlock d (ByBlock t) Empty
after d (Loop t) = InBlock d (ByLoop t) Empty
after d (If t) = InBlock d (ByIf t) Empty
after d Else = divided d
after d End = ended d

read : Done → List Instr → Done
read d [] = d
read d (i ∷ rest) = read (after d i) rest

inside : (d : Done) (o : Opener) (code : Code) → extended (InBlock d o Empty) code ≡ InBlock d o code
unfolding extended joined
inside d o code = refl

read_block : (d : Done) (o : Opener) (body more last : Code) (rest : List Instr) →
    ((e : Done) (tail : List Instr) → read e (flat body ++ tail) ≡ read (extended e body) tail) →
    ((e : Done) (tail : List Instr) → read e (flat more ++ tail) ≡ read (extended e more) tail) → joined (closed o body) more ≡ last →
    read (InBlock d o Empty) ((flat body ++ (End ∷ flat more)) ++ rest) ≡ read (extended d last) rest
unfolding read after ended
read_block d o body more last rest f g e =
    ap (read (InBlock d o Empty)) (append_assoc (flat body) (End ∷ flat more) rest)
    ∙ f (InBlock d o Empty) (End ∷ (flat more ++ rest))
    ∙ ap (λ (x : Done). read x (End ∷ (flat more ++ rest))) (inside d o body)
    ∙ g (extended d (closed o body)) rest
    ∙ ap (λ (x : Done). read x rest) (extended_twice d (closed o body) more ∙ ap (extended d) e)

read_flat : (code : Code) (d : Done) (rest : List Instr) → read d (flat code ++ rest) ≡ read (extended d code) rest
unfolding read after divided turned closed joined
read_flat Empty d rest = ap (λ (x : Done). read x rest) (sym (extended_none d))
read_flat (Then op more) d rest =
    read_flat more (extended d (Then op Empty)) rest ∙ ap (λ (x : Done). read x rest) (extended_twice d (Then op Empty) more)
read_flat (BlockThen t body more) d rest =
    read_block d (ByBlock t) body more (BlockThen t body more) rest (λ e tail. read_flat body e tail) (λ e tail. read_flat more e tail) refl
read_flat (LoopThen t body more) d rest =
    read_block d (ByLoop t) body more (LoopThen t body more) rest (λ e tail. read_flat body e tail) (λ e tail. read_flat more e tail) refl
read_flat (IfThen t first more) d rest =
    read_block d (ByIf t) first more (IfThen t first more) rest (λ e tail. read_flat first e tail) (λ e tail. read_flat more e tail) refl
read_flat (IfElseThen t first second more) d rest =
    let tail = flat second ++ (End ∷ flat more) in
    ap (read (InBlock d (ByIf t) Empty)) (append_assoc (flat first) (Else ∷ tail) rest)
    ∙ read_flat first (InBlock d (ByIf t) Empty) (Else ∷ (tail ++ rest))
    ∙ ap (λ (x : Done). read x (Else ∷ (tail ++ rest))) (inside d (ByIf t) first)
    ∙ read_block d (ByElse t first) second more (IfElseThen t first second more) rest
    (λ e last. read_flat second e last) (λ e last. read_flat more e last) refl

read_opening : (d : Done) (o : Opener) (rest : List Instr) → read d (opening o ++ rest) ≡ read (InBlock d o Empty) rest
unfolding read after divided turned
read_opening d (ByBlock t) rest = refl
read_opening d (ByLoop t) rest = refl
read_opening d (ByIf t) rest = refl
read_opening d (ByElse t first) rest =
    ap (read (InBlock d (ByIf t) Empty)) (append_assoc (flat first) (Else ∷ []) rest)
    ∙ read_flat first (InBlock d (ByIf t) Empty) (Else ∷ rest)
    ∙ ap (λ (x : Done). read x (Else ∷ rest)) (inside d (ByIf t) first)

read_done : (d : Done) (rest : List Instr) → read (InBody Empty) (flat_done d ++ rest) ≡ read d rest
unfolding extended joined
read_done (InBody code) rest = read_flat code (InBody Empty) rest
read_done (InBlock around o code) rest =
    ap (read (InBody Empty)) (append_assoc (flat_done around) (opening o ++ flat code) rest)
    ∙ read_done around ((opening o ++ flat code) ++ rest)
    ∙ ap (read around) (append_assoc (opening o) (flat code) rest)
    ∙ read_opening around o (flat code ++ rest)
    ∙ read_flat code (InBlock around o Empty) rest
    ∙ ap (λ (x : Done). read x rest) (inside around o code)

done_read : (d : Done) → read (InBody Empty) (flat_done d) ≡ d
unfolding read
done_read d = ap (read (InBody Empty)) (sym (append-nil (flat_done d))) ∙ read_done d []

pub same_done : (front : List Instr) (d e : Done) → front ≡ flat_done d → front ≡ flat_done e → d ≡ e
same_done front d e f g = sym (done_read d) ∙ ap (read (InBody Empty)) (sym f ∙ g) ∙ done_read e

same_left : (c : Context) (d : Done) (taken xs ys : List ValType) → is_reached d ≡ true → Leaves c d taken xs → Leaves c d taken ys → xs ≡ ys
same_left c (InBody code) taken xs ys g a b =
    append_cancel_left taken xs ys (same_types c (c.results ∷ []) code [] (taken ++ xs) (taken ++ ys) g a b)
same_left c (InBlock around o code) taken xs ys g a b =
    let live = reached_before code (is_reached around) g in
    let own : a.0 ≡ b.0 = append_cancel_left taken a.0 b.0
    (same_types c (carried o ∷ labels_in c around) code [] (taken ++ a.0) (taken ++ b.0) (rw live at g) a.5 b.5) in
    let below : a.1 ≡ b.1 = same_left c around (condition o) a.1 b.1 live a.3 b.3 in
    a.2 ∙ ap (λ (x : List ValType). x ++ a.1) own ∙ ap (λ (x : List ValType). b.0 ++ x) below ∙ sym b.2

pub same_reached : (c : Context) (code : List Instr) (place : ℕ) (xs ys : List ValType) → Reached c code place xs → Reached c code place ys → xs ≡ ys
same_reached c code place xs ys a b =
    let same : a.done ≡ b.done = same_done (take place code) a.done b.done a.before b.before in
    let there = subst (λ (d : Done). Leaves c d [] (reverse xs)) same a.leaves in
    let back : reverse xs ≡ reverse ys = same_left c b.done [] (reverse xs) (reverse ys) b.reached there b.leaves in
    sym (reverse-reverse xs) ∙ ap reverse back ∙ reverse-reverse ys

pub never_both : (c : Context) (code : List Instr) (place : ℕ) (xs : List ValType) → Reached c code place xs → CutOff code place → ⊥
never_both c code place xs a b =
    let same : a.done ≡ b.done = same_done (take place code) a.done b.done a.before b.before in
    let never : true ≡ false = sym a.reached ∙ ap is_reached same ∙ b.unreached in
    cc
