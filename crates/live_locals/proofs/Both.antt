-- What is live by both of two rows, and that being alike is an equivalence.
use Rattle.std.proofs.Common.{◌≡◌, ℕ, zero, suc, Bool, true, false, ◌&&◌, List, [], ◌∷◌, Option, Some, None, slice_get, refl, sym, ◌∙◌, subst}
use Rattle.types.specs.declared.value.Value.{Value}
use Rattle.types.specs.declared.instr.PlainInstr.{PlainInstr}
use Rattle.types.specs.declared.instr.Instr.TheVariants as instrs
use Rattle.types.specs.Nesting.{Code, Empty, Then, BlockThen, LoopThen, IfThen, IfElseThen}
use Rattle.interp_machine.specs.Config.{Label, Frame, Config}
use Rattle.live_locals.specs.Live.{IsLive, Covers, written_by}
use Rattle.live_locals.specs.Lives.{Includes, IsLiveBefore, Lives, IsLiveAt, OpensLive, IsLiveFrame}
use Rattle.live_locals.specs.Alike.{Agree, AreFramesAlike, AreCallersAlike, AreAlike}
use Rattle.live_locals.proofs.Marks.{includes_itself, all_lives, agree_itself, agree_back}

-- ---- Rows

-- live by both
abbrev both : List Bool → List Bool → List Bool
both [] ys = ys
both (x ∷ xs) [] = x ∷ xs
both (x ∷ xs) (y ∷ ys) = (x && y) ∷ both xs ys

and_true : (x y : Bool) → x ≡ true → y ≡ true → x && y ≡ true
and_true x y h k = rw (h, k) refl

first_true : (x y : Bool) → x && y ≡ true → x ≡ true
first_true true y h = refl
first_true false y h = absurd cc

second_true : (x y : Bool) → x && y ≡ true → y ≡ true
second_true true y h = h
second_true false y h = absurd cc

both_live : (xs ys : List Bool) (local : ℕ) → IsLive xs local → IsLive ys local → IsLive (both xs ys) local
both_live [] ys local h k = k
both_live (x ∷ xs) [] local h k = h
both_live (x ∷ xs) (y ∷ ys) zero h k = and_true x y h k
both_live (x ∷ xs) (y ∷ ys) (suc local) h k = both_live xs ys local h k

first_live : (xs ys : List Bool) → Includes xs (both xs ys)
first_live [] ys local h = refl
first_live (x ∷ xs) [] local h = h
first_live (x ∷ xs) (y ∷ ys) zero h = first_true x y h
first_live (x ∷ xs) (y ∷ ys) (suc local) h = first_live xs ys local h

second_live : (xs ys : List Bool) → Includes ys (both xs ys)
second_live [] ys local h = h
second_live (x ∷ xs) [] local h = refl
second_live (x ∷ xs) (y ∷ ys) zero h = second_true x y h
second_live (x ∷ xs) (y ∷ ys) (suc local) h = second_live xs ys local h

includes_both : (xs ys us vs : List Bool) → Includes xs us → Includes ys vs → Includes (both xs ys) (both us vs)
includes_both xs ys us vs h k local l =
    both_live xs ys local (h local (first_live us vs local l)) (k local (second_live us vs local l))

covers_both : (xs ys us vs : List Bool) (w : Option ℕ) → Covers xs us w → Covers ys vs w → Covers (both xs ys) (both us vs) w
covers_both xs ys us vs w h k local l n =
    both_live xs ys local (h local (first_live us vs local l) n) (k local (second_live us vs local l) n)

-- row by row, as far as both go
abbrev each_both : List (List Bool) → List (List Bool) → List (List Bool)
each_both [] qs = []
each_both (o ∷ os) [] = []
each_both (o ∷ os) (q ∷ qs) = both o q ∷ each_both os qs

-- a row of both is one of each
record IsOfBoth (os qs : List (List Bool)) (k : ℕ) (out : List Bool) : Type 0 where
  one : List Bool
  two : List Bool
  at_one : slice_get os k ≡ Some one
  at_two : slice_get qs k ≡ Some two
  is : both one two ≡ out

of_both : (os qs : List (List Bool)) (k : ℕ) (out : List Bool) → slice_get (each_both os qs) k ≡ Some out → IsOfBoth os qs k out
of_both [] qs k out e = absurd cc
of_both (o ∷ os) [] k out e = absurd cc
of_both (o ∷ os) (q ∷ qs) zero out e = record { one = o; two = q; at_one = refl; at_two = refl; is = cc }
of_both (o ∷ os) (q ∷ qs) (suc k) out e =
    let h = of_both os qs k out e in record { one = h.one; two = h.two; at_one = h.at_one; at_two = h.at_two; is = h.is }

-- ---- Code

before_both : (os qs : List (List Bool)) (op : PlainInstr) (xs ys us vs : List Bool) → IsLiveBefore os op xs us → IsLiveBefore qs op ys vs →
    IsLiveBefore (each_both os qs) op (both xs ys) (both us vs)
before_both os qs op xs ys us vs h k = record {
  reads = λ local e. both_live xs ys local (h.reads local e) (k.reads local e);
  next = λ e. covers_both xs ys us vs (written_by (instrs.Plain op)) (h.next e) (k.next e);
  labels = λ j out named at.
      let o = of_both os qs j out at in
      subst (λ (row : List Bool). Includes (both xs ys) row) o.is
      (includes_both xs ys o.one o.two (h.labels j o.one named o.at_one) (k.labels j o.two named o.at_two));
}

lives_both : (code : Code) (os qs : List (List Bool)) (xs ys us vs : List Bool) → Lives os xs code us → Lives qs ys code vs →
    Lives (each_both os qs) (both xs ys) code (both us vs)
lives_both Empty os qs xs ys us vs h k = includes_both xs ys us vs h k
lives_both (Then op rest) os qs xs ys us vs h k =
    (both h.0 k.0, before_both os qs op xs ys h.0 k.0 h.1 k.1, lives_both rest os qs h.0 k.0 us vs h.2 k.2)
lives_both (BlockThen t body rest) os qs xs ys us vs h k = (
  both h.0 k.0,
  both h.1 k.1,
  includes_both xs ys h.0 k.0 h.2 k.2,
  lives_both body (h.1 ∷ os) (k.1 ∷ qs) h.0 k.0 h.1 k.1 h.3 k.3,
  lives_both rest os qs h.1 k.1 us vs h.4 k.4,
)
lives_both (LoopThen t body rest) os qs xs ys us vs h k = (
  both h.0 k.0,
  both h.1 k.1,
  includes_both xs ys h.0 k.0 h.2 k.2,
  lives_both body (h.0 ∷ os) (k.0 ∷ qs) h.0 k.0 h.1 k.1 h.3 k.3,
  lives_both rest os qs h.1 k.1 us vs h.4 k.4,
)
lives_both (IfThen t first rest) os qs xs ys us vs h k = (
  both h.0 k.0,
  both h.1 k.1,
  includes_both xs ys h.0 k.0 h.2 k.2,
  includes_both xs ys h.1 k.1 h.3 k.3,
  lives_both first (h.1 ∷ os) (k.1 ∷ qs) h.0 k.0 h.1 k.1 h.4 k.4,
  lives_both rest os qs h.1 k.1 us vs h.5 k.5,
)
lives_both (IfElseThen t first second rest) os qs xs ys us vs h k = (
  both h.0 k.0,
  both h.1 k.1,
  both h.2 k.2,
  includes_both xs ys h.0 k.0 h.3 k.3,
  includes_both xs ys h.1 k.1 h.4 k.4,
  lives_both first (h.2 ∷ os) (k.2 ∷ qs) h.0 k.0 h.2 k.2 h.5 k.5,
  lives_both second (h.2 ∷ os) (k.2 ∷ qs) h.1 k.1 h.2 k.2 h.6 k.6,
  lives_both rest os qs h.2 k.2 us vs h.7 k.7,
)

at_both : (again : Option Code) (o q : List Bool) (os qs : List (List Bool)) (us vs : List Bool) → IsLiveAt again o os us → IsLiveAt again q qs vs →
    IsLiveAt again (both o q) (each_both os qs) (both us vs)
at_both None o q os qs us vs h k = includes_both o q us vs h k
at_both (Some body) o q os qs us vs h k = lives_both body (o ∷ os) (q ∷ qs) o q us vs h k

opens_both : (ls : List Label) (os qs : List (List Bool)) (us vs : List Bool) → OpensLive ls os us → OpensLive ls qs vs →
    OpensLive ls (each_both os qs) (both us vs)
opens_both [] os qs us vs h k = tt
opens_both (l ∷ ls) [] qs us vs h k = absurd h
opens_both (l ∷ ls) (o ∷ os) [] us vs h k = absurd k
opens_both (l ∷ ls) (o ∷ os) (q ∷ qs) us vs h k = (
  both h.0 k.0,
  at_both l.again o q os qs us vs h.1 k.1,
  lives_both l.after os qs us vs h.0 k.0 h.2 k.2,
  opens_both ls os qs h.0 k.0 h.3 k.3,
)

-- ---- All is live

-- a row without marks for each open block
abbrev no_marks : List Label → List (List Bool)
no_marks [] = []
no_marks (l ∷ ls) = [] ∷ no_marks ls

all_at : (again : Option Code) (outs : List (List Bool)) → IsLiveAt again [] outs []
all_at None outs = includes_itself []
all_at (Some body) outs = all_lives ([] ∷ outs) body

all_opens : (ls : List Label) → OpensLive ls (no_marks ls) []
all_opens [] = tt
all_opens (l ∷ ls) = ([], all_at l.again (no_marks ls), all_lives (no_marks ls) l.after, all_opens ls)

all_frame : (f : Frame) → IsLiveFrame [] f
all_frame f = record { outs = no_marks f.labels; behind = []; code = all_lives (no_marks f.labels) f.code; opens = all_opens f.labels }

-- ---- Frames

frame_both : (f g : Frame) (xs ys : List Bool) → f.code ≡ g.code → f.labels ≡ g.labels → IsLiveFrame xs f → IsLiveFrame ys g → IsLiveFrame (both xs ys) f
frame_both f g xs ys c l h k = record {
  outs = each_both h.outs k.outs;
  behind = both h.behind k.behind;
  code = lives_both f.code h.outs k.outs xs ys h.behind k.behind h.code (subst (λ (code : Code). Lives k.outs ys code k.behind) (sym c) k.code);
  opens = opens_both f.labels h.outs k.outs h.behind k.behind h.opens (subst (λ (ls : List Label). OpensLive ls k.outs k.behind) (sym l) k.opens);
}

agree_both : (row other : List Bool) (xs ys zs : List Value) → Agree row xs ys → Agree other ys zs → Agree (both row other) xs zs
agree_both row other xs ys zs a b = record {
  types = a.types ∙ b.types;
  same = λ local h. a.same local (first_live row other local h) ∙ b.same local (second_live row other local h);
}

frame_itself : (f : Frame) → AreFramesAlike f f
frame_itself f = record {
  row = [];
  live = all_frame f;
  same = record { locals = agree_itself [] f.locals; code = refl; operands = refl; labels = refl; arity = refl };
}

frame_back : (f g : Frame) → AreFramesAlike f g → AreFramesAlike g f
frame_back f g a = record {
  row = a.row;
  live = record {
    outs = a.live.outs;
    behind = a.live.behind;
    code = subst (λ (code : Code). Lives a.live.outs a.row code a.live.behind) a.same.code a.live.code;
    opens = subst (λ (ls : List Label). OpensLive ls a.live.outs a.live.behind) a.same.labels a.live.opens;
  };
  same = record {
    locals = agree_back a.row f.locals g.locals a.same.locals;
    code = sym a.same.code;
    operands = sym a.same.operands;
    labels = sym a.same.labels;
    arity = sym a.same.arity;
  };
}

frame_then : (f g h : Frame) → AreFramesAlike f g → AreFramesAlike g h → AreFramesAlike f h
frame_then f g h a b = record {
  row = both a.row b.row;
  live = frame_both f g a.row b.row a.same.code a.same.labels a.live b.live;
  same = record {
    locals = agree_both a.row b.row f.locals g.locals h.locals a.same.locals b.same.locals;
    code = a.same.code ∙ b.same.code;
    operands = a.same.operands ∙ b.same.operands;
    labels = a.same.labels ∙ b.same.labels;
    arity = a.same.arity ∙ b.same.arity;
  };
}

callers_itself : (fs : List Frame) → AreCallersAlike fs fs
callers_itself [] = tt
callers_itself (f ∷ fs) = (frame_itself f, callers_itself fs)

callers_back : (fs gs : List Frame) → AreCallersAlike fs gs → AreCallersAlike gs fs
callers_back [] [] a = tt
callers_back [] (g ∷ gs) a = absurd a
callers_back (f ∷ fs) [] a = absurd a
callers_back (f ∷ fs) (g ∷ gs) a = (frame_back f g a.0, callers_back fs gs a.1)

callers_then : (fs gs hs : List Frame) → AreCallersAlike fs gs → AreCallersAlike gs hs → AreCallersAlike fs hs
callers_then [] [] hs a b = b
callers_then [] (g ∷ gs) hs a b = absurd a
callers_then (f ∷ fs) [] hs a b = absurd a
callers_then (f ∷ fs) (g ∷ gs) [] a b = absurd b
callers_then (f ∷ fs) (g ∷ gs) (h ∷ hs) a b = (frame_then f g h a.0 b.0, callers_then fs gs hs a.1 b.1)

pub itself : (c : Config) → AreAlike c c
itself c = record { globals = refl; frame = frame_itself c.frame; callers = callers_itself c.callers; progress = refl }

pub back : (c d : Config) → AreAlike c d → AreAlike d c
back c d a = record {
  globals = sym a.globals;
  frame = frame_back c.frame d.frame a.frame;
  callers = callers_back c.callers d.callers a.callers;
  progress = sym a.progress;
}

pub in_turn : (c d e : Config) → AreAlike c d → AreAlike d e → AreAlike c e
in_turn c d e a b = record {
  globals = a.globals ∙ b.globals;
  frame = frame_then c.frame d.frame e.frame a.frame b.frame;
  callers = callers_then c.callers d.callers e.callers a.callers b.callers;
  progress = a.progress ∙ b.progress;
}
