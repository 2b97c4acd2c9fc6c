-- Instructions in a block, from what they take and put.
use Rattle.std.proofs.Common.{eq-eqb, ◌≡◌, List, [], ◌∷◌, ◌++◌, Option, Some, None, Bool, false, Result, MatchResult, refl, sym, ◌∙◌, ap, subst}
use Rattle.std.proofs.lemmas.Result.{MatchResult-weaker}
use Rattle.types.specs.declared.value.ValType.{ValType}
use Rattle.types.specs.declared.value.ValType.TheVariants.{I32}
use Rattle.types.specs.declared.instr.PlainInstr.{PlainInstr}
use Rattle.types.specs.declared.instr.PlainInstr.TheVariants as plain
use Rattle.validate_typing.specs.declared.target.Target.{Target}
use Rattle.validate_typing.specs.Context.{Context}
use Rattle.validate_typing.specs.Typing.{Moves, HasOnTop, Fits, CallsType}
use Rattle.validate_typing.specs.Placed.{FlatLabel, types_of, labels_of, goes_on, IsRow}
use Rattle.validate_instructions.specs.declared.block.Flow.TheVariants.{Free}
use Rattle.validate_instructions.specs.declared.block.OpenBlock.{OpenBlock}
use Rattle.validate_typing.specs.declared.fault.Fault.{Fault}
use Rattle.validate_typing.specs.declared.fault.Fault.TheVariants.{TypeMismatch, Alignment}
use Rattle.validate_instructions.specs.declared.problem.Problem.{Problem}
use Rattle.validate_instructions.specs.declared.problem.Problem.TheVariants.{OutOfMemory, Wrong}
use Rattle.validate_instructions.specs.Kinds.{kind_of, access_kind}
use Rattle.validate_instructions.specs.Blocks.{Moving, is_live, Known, Takes, TakesAny, Puts, PutsAny, Moved}
use Rattle.validate_instructions.specs.Blocks.{CantMove, LacksAny}
use Rattle.validate_instructions.specs.Blocks.{Checked, CheckedInside, CheckedAnywhere, Refused, RefusedInside}
use Rattle.validate_instructions.specs.Blocks.{RefusedAnywhere}
use Rattle.validate_instructions.specs.Blocks.{CantStand, CantStandInside, Checks, ChecksInside, ChecksAnywhere}
use Rattle.validate_instructions.proofs.Moves.{matching, known_some, mismatch_is}
use Rattle.std.proofs.Common.{eq-eqb, ℕ, ◌<◌, ◌≤◌, arith, reverse, slice_get, ◌^◌, inl, inr, nat_le, nat_eq}
use Rattle.std.proofs.lemmas.Bool.{le-leb}
use Rattle.std.proofs.lemmas.Bool.Decides.{leb_tells, eqb_tells}
use Rattle.std.proofs.Math.Pow.{pow_mono}
use Rattle.types.specs.declared.parts.FuncType.{FuncType}

-- an instruction that goes on
pub checked_moves : (c : Context) (labels : List FlatLabel) (op : PlainInstr) (takes gives : List ValType)
    (old new : OpenBlock) (targets : List Target) → Moved takes gives old new →
    ((ts us : List ValType) → Moves takes gives ts us → Fits c (types_of labels) op ts us)
    → ((ts us : List ValType) → Fits c (types_of labels) op ts us → Moves takes gives ts us)
    → ((live : Bool) → goes_on op live ≡ live) → IsRow labels (labels_of op) targets →
    Checked c labels op old new targets
checked_moves c labels op takes gives old new targets m f h g r = record {
  shape = m.shape;
  live = ap is_live m.flow ∙ sym (g (is_live old.flow));
  fits = λ us k. let x = m.known us k in (x.0, x.1, f x.0 us x.2);
  row = r;
  kept = λ ts us k x. m.kept ts us k (h ts us x);
}

-- it is refused where what it takes is lacking
pub refused_cant : (c : Context) (labels : List FlatLabel) (op : PlainInstr) (takes : List ValType) (old : OpenBlock) (e : Problem)
    → kind_of c (types_of labels) op ≡ TypeMismatch → ((ts us : List ValType) → Fits c (types_of labels) op ts us → HasOnTop takes ts)
    → CantMove takes old e → Refused c labels op old e
refused_cant c labels op takes old OutOfMemory k h x = tt
refused_cant c labels op takes old (Wrong kind) k h x =
    (x.0 ∙ sym k, λ ts us o f. let m = h ts us f in x.1 m.0 (let P : List ValType → Type 0 = Known old in subst P m.1 o))

-- and where something that it names is lacking
pub refused_missing : (c : Context) (labels : List FlatLabel) (op : PlainInstr) (old : OpenBlock) (e : Problem) (kind : Fault) → e ≡ Wrong kind
    → kind ≡ kind_of c (types_of labels) op → ((ts us : List ValType) → Fits c (types_of labels) op ts us → ⊥) → Refused c labels op old e
refused_missing c labels op old e kind w k h = subst (Refused c labels op old) (sym w) (k, λ ts us o f. h ts us f)

pub refused_memory : (c : Context) (labels : List FlatLabel) (op : PlainInstr) (old : OpenBlock) (e : Problem) → e ≡ OutOfMemory → Refused c labels op old e
refused_memory c labels op old e w = subst (Refused c labels op old) (sym w) tt

pub missing_inside : (c : Context) (op : PlainInstr) (old : OpenBlock) (e : Problem) (kind : Fault) → e ≡ Wrong kind
    → ((labels : List (List ValType)) → kind ≡ kind_of c labels op) → ((labels : List (List ValType)) (ts us : List ValType) → Fits c labels op ts us → ⊥)
    → RefusedInside c op old e
missing_inside c op old e kind w k h = λ labels. refused_missing c labels op old e kind w (k (types_of labels)) (h (types_of labels))

pub same_found : {A : Type 0} (o : Option A) (a b : A) → o ≡ Some a → o ≡ Some b → a ≡ b
same_found o a b e f = cc

pub never_found : {A : Type 0} (o : Option A) (a : A) → o ≡ None → o ≡ Some a → ⊥
never_found o a e f = let n : None ≡ Some a = sym e ∙ f in cc

pub on_top : (takes gives ts us : List ValType) → Moves takes gives ts us → HasOnTop takes ts
on_top takes gives ts us m = (m.0, m.1)

-- one without targets
pub inside : (c : Context) (op : PlainInstr) (takes gives : List ValType) (old new : OpenBlock)
    (r : Result (Unit {0}) Problem) → labels_of op ≡ [] → ((live : Bool) → goes_on op live ≡ live) →
    ((labels : List (List ValType)) → kind_of c labels op ≡ TypeMismatch) →
    ((labels : List (List ValType)) (ts us : List ValType) → Moves takes gives ts us → Fits c labels op ts us) →
    ((labels : List (List ValType)) (ts us : List ValType) → Fits c labels op ts us → Moves takes gives ts us)
    → Moving takes gives old new r → ChecksInside c op old new r
inside c op takes gives old new r e g k f b h =
    MatchResult-weaker r h
    (λ _ m labels. checked_moves c labels op takes gives old new [] m (f (types_of labels)) (b (types_of labels)) g (rw e refl))
    (λ x m labels. refused_cant c labels op takes old x (k (types_of labels))
    (λ ts us y. on_top takes gives ts us (b (types_of labels) ts us y)) m)

pub anywhere : (op : PlainInstr) (takes gives : List ValType) (old new : OpenBlock) (r : Result (Unit {0}) Problem)
    → labels_of op ≡ [] → ((live : Bool) → goes_on op live ≡ live) →
    ((c : Context) (labels : List (List ValType)) → kind_of c labels op ≡ TypeMismatch) →
    ((c : Context) (labels : List (List ValType)) (ts us : List ValType) → Moves takes gives ts us → Fits c labels op ts us) →
    ((c : Context) (labels : List (List ValType)) (ts us : List ValType) → Fits c labels op ts us → Moves takes gives ts us)
    → Moving takes gives old new r → ChecksAnywhere op old new r
anywhere op takes gives old new r e g k f b h =
    MatchResult-weaker r h
    (λ _ m c labels. checked_moves c labels op takes gives old new [] m (f c (types_of labels)) (b c (types_of labels)) g (rw e refl))
    (λ x m c labels. refused_cant c labels op takes old x (k c (types_of labels))
    (λ ts us y. on_top takes gives ts us (b c (types_of labels) ts us y)) m)

-- of a free block without operands nothing is known
all_known : (block : OpenBlock) (us : List ValType) → block.flow ≡ Free → block.operands.items ≡ [] → Known block us
all_known block us e o = rw (e, o) tt

-- one that never goes on
pub checked_stop : (c : Context) (labels : List FlatLabel) (op : PlainInstr) (takes : List ValType)
    (old left new : OpenBlock) (targets : List Target) → Takes takes old left →
    new.shape ≡ left.shape → new.flow ≡ Free → new.operands.items ≡ [] →
    ((below us : List ValType) → Fits c (types_of labels) op (takes ++ below) us)
    → ((live : Bool) → goes_on op live ≡ false) → IsRow labels (labels_of op) targets →
    Checked c labels op old new targets
checked_stop c labels op takes old left new targets t s e o f g r = record {
  shape = s ∙ t.shape;
  live = ap is_live e ∙ sym (g (is_live old.flow));
  fits = λ us k. let x = known_some left in (takes ++ x.0, t.known x.0 x.1, f x.0 us);
  row = r;
  kept = λ ts us k x. all_known new us e o;
}

pub checked_nothing : (op : PlainInstr) (old : OpenBlock) → ((c : Context) (labels : List (List ValType)) (ts : List ValType) → Fits c labels op ts ts) →
    ((c : Context) (labels : List (List ValType)) (ts us : List ValType) → Fits c labels op ts us → ts ≡ us) → ((live : Bool) → goes_on op live ≡ live) →
    labels_of op ≡ [] → CheckedAnywhere op old old
checked_nothing op old f h g e = λ c labels. record {
  shape = refl;
  live = sym (g (is_live old.flow));
  fits = λ us k. (us, k, f c (types_of labels) us);
  row = rw e refl;
  kept = λ ts us k x. let P : List ValType → Type 0 = Known old in subst P (h c (types_of labels) ts us x) k;
}

pub checked_drop : (k : Option ValType) (old new : OpenBlock) → TakesAny k old new → CheckedAnywhere plain.Drop old new
checked_drop k old new x = λ c labels. record {
  shape = x.shape;
  live = ap is_live x.flow;
  fits = λ us h. let m = matching k in (m.0 ∷ us, x.known m.0 us m.1 h, (m.0, (us, refl, refl)));
  row = refl;
  kept = λ ts us h f.
      let P : List ValType → Type 0 = Known old in
      let Q : List ValType → Type 0 = Known new in
      subst Q (sym f.1.2) (x.kept f.0 f.1.0 (subst P f.1.1 h)).1;
}

pub refused_drop : (old : OpenBlock) (e : Problem) → LacksAny old e → RefusedAnywhere plain.Drop old e
refused_drop old e x = λ c labels. refused_cant_any c labels old e x
  where
    refused_cant_any : (c : Context) (labels : List FlatLabel) (old : OpenBlock) (e : Problem) → LacksAny old e → Refused c labels plain.Drop old e
    refused_cant_any c labels old OutOfMemory x = tt
    refused_cant_any c labels old (Wrong kind) x =
        (mismatch_is kind x.0, λ ts us k f. let P : List ValType → Type 0 = Known old in x.1 f.0 f.1.0 (subst P f.1.1 k))

-- where the first operand is of any type, the other one is of the type of the result
checked_select : (k : Option ValType) (a b d e f : OpenBlock) → Takes (I32 ∷ []) a b → TakesAny None b d
    → TakesAny k d e → PutsAny k e f → CheckedAnywhere plain.Select a f
checked_select k a b d e f w x y z = λ c labels. record {
  shape = z.shape ∙ y.shape ∙ x.shape ∙ w.shape;
  live = ap is_live (z.flow ∙ y.flow ∙ x.flow ∙ w.flow);
  fits = λ us h.
      let p = z.known us h in
      let t = p.0 in
      (I32 ∷ (t ∷ (t ∷ p.1)), w.known (t ∷ (t ∷ p.1)) (x.known t (t ∷ p.1) tt (y.known t p.1 p.3 p.4)), (t, (p.1, refl, p.2)));
  row = refl;
  kept = λ ts us h m.
      let P : List ValType → Type 0 = Known a in
      let Q : List ValType → Type 0 = Known f in
      let t = m.0 in
      let two = x.kept t (t ∷ m.1.0) (w.kept (t ∷ (t ∷ m.1.0)) (subst P m.1.1 h)) in
      let one = y.kept t m.1.0 two.1 in
      subst Q (sym m.1.2) (z.kept t m.1.0 one.0 one.1);
}

checked_select_of : (t : ValType) (a b d e f : OpenBlock) → Takes (I32 ∷ []) a b → TakesAny (Some t) b d
    → Takes (t ∷ []) d e → Puts (t ∷ []) e f → CheckedAnywhere plain.Select a f
checked_select_of t a b d e f w x y z = λ c labels. record {
  shape = z.shape ∙ y.shape ∙ x.shape ∙ w.shape;
  live = ap is_live (z.flow ∙ y.flow ∙ x.flow ∙ w.flow);
  fits = λ us h.
      let p = z.known us h in
      (I32 ∷ (t ∷ (t ∷ p.0)), w.known (t ∷ (t ∷ p.0)) (x.known t (t ∷ p.0) refl (y.known p.0 p.2)), (t, (p.0, refl, p.1)));
  row = refl;
  kept = λ ts us h m.
      let P : List ValType → Type 0 = Known a in
      let Q : List ValType → Type 0 = Known f in
      let two = x.kept m.0 (m.0 ∷ m.1.0) (w.kept (m.0 ∷ (m.0 ∷ m.1.0)) (subst P m.1.1 h)) in
      let is : t ≡ m.0 = two.0 in
      let R : ValType → Type 0 = λ s. Known d (s ∷ m.1.0) in
      let T : ValType → Type 0 = λ s. us ≡ s ∷ m.1.0 in
      subst Q (sym (subst T (sym is) m.1.2)) (z.kept m.1.0 (y.kept m.1.0 (subst R (sym is) two.1)));
}

-- what `select` finds lacking
pub select_lacks : (a : OpenBlock) (e : Problem) → ((t : ValType) (below : List ValType) → Known a (I32 ∷ (t ∷ (t ∷ below))) → ⊥)
    → e ≡ Wrong TypeMismatch → RefusedAnywhere plain.Select a e
select_lacks a e h w = λ c labels. subst (Refused c labels plain.Select a) (sym w)
    (refl, λ ts us k m. let P : List ValType → Type 0 = Known a in h m.0 m.1.0 (subst P m.1.1 k))

pub checks_in : (c : Context) (labels : List FlatLabel) (op : PlainInstr) (old new : OpenBlock) (row : List Target)
    (r : Result (Unit {0}) Problem) → row ≡ [] → ChecksInside c op old new r → Checks c labels op old new row r
checks_in c labels op old new row r e h = MatchResult-weaker r h (λ _ k. rw e (k labels)) (λ x k. k labels)

pub checks_any : (c : Context) (labels : List FlatLabel) (op : PlainInstr) (old new : OpenBlock) (row : List Target)
    (r : Result (Unit {0}) Problem) → row ≡ [] → ChecksAnywhere op old new r → Checks c labels op old new row r
checks_any c labels op old new row r e h = MatchResult-weaker r h (λ _ k. rw e (k c labels)) (λ x k. k c labels)

-- those that ask for no memory
pub checks_free : (c : Context) (labels : List FlatLabel) (op : PlainInstr) (old new : OpenBlock) (row : List Target)
    (r : Result (Unit {0}) Problem) → row ≡ [] → MatchResult r (λ _. CheckedAnywhere op old new) (λ _. ⊥) → Checks c labels op old new row r
checks_free c labels op old new row r e h = MatchResult-weaker r h (λ _ k. rw e (k c labels)) (λ x k. absurd k)

pub checks_stand : (c : Context) (labels : List FlatLabel) (op : PlainInstr) (old new : OpenBlock) (row : List Target)
    (r : Result (Unit {0}) Problem) → row ≡ [] → MatchResult r (λ _. CheckedAnywhere op old new) (CantStand op old) → Checks c labels op old new row r
checks_stand c labels op old new row r e h = MatchResult-weaker r h (λ _ k. rw e (k c labels)) (λ x k. k.1 c labels)

pub checks_stand_in : (c : Context) (labels : List FlatLabel) (op : PlainInstr) (old new : OpenBlock) (row : List Target)
    (r : Result (Unit {0}) Problem) → row ≡ [] → MatchResult r (λ _. CheckedInside c op old new) (CantStandInside c op old) → Checks c labels op old new row r
checks_stand_in c labels op old new row r e h = MatchResult-weaker r h (λ _ k. rw e (k labels)) (λ x k. k.1 labels)

pub select_passed : (k : Option ValType) (a b d e f : OpenBlock) (r : Result (Unit {0}) Problem)
    → Takes (I32 ∷ []) a b → TakesAny None b d → TakesAny k d e → MatchResult r (λ _. PutsAny k e f) (λ x. x ≡ OutOfMemory) →
    ChecksAnywhere plain.Select a f r
select_passed k a b d e f r w x y h =
    MatchResult-weaker r h (λ _ z. checked_select k a b d e f w x y z) (λ o z. λ c labels. subst (Refused c labels plain.Select a) (sym z) tt)

pub select_of_passed : (t : ValType) (a b d e f : OpenBlock) (r : Result (Unit {0}) Problem) → Takes (I32 ∷ []) a b
    → TakesAny (Some t) b d → Takes (t ∷ []) d e → MatchResult r (λ _. Puts (t ∷ []) e f) (λ x. x ≡ OutOfMemory) →
    ChecksAnywhere plain.Select a f r
select_of_passed t a b d e f r w x y h =
    MatchResult-weaker r h (λ _ z. checked_select_of t a b d e f w x y z) (λ o z. λ c labels. subst (Refused c labels plain.Select a) (sym z) tt)

-- Calls: of the type that is found.

pub called : (c : Context) (more : List ValType) (index : ℕ) (t : FuncType) (ts us : List ValType) → slice_get c.types index ≡ Some t
    → CallsType c more index ts us → Moves (more ++ reverse t.params) t.results ts us
called c more index t ts us e x =
    subst (λ (s : FuncType). Moves (more ++ reverse s.params) s.results ts us) (same_found (slice_get c.types index) x.0 t x.1 e) x.2

pub called_by : (c : Context) (more : List ValType) (o : Option ℕ) (index : ℕ) (t : FuncType) (ts us : List ValType) → o ≡ Some index
    → slice_get c.types index ≡ Some t → (i : ℕ) → o ≡ Some i → CallsType c more i ts us → Moves (more ++ reverse t.params) t.results ts us
called_by c more o index t ts us e f i g x =
    called c more index t ts us f (subst (λ (n : ℕ). CallsType c more n ts us) (same_found o i index g e) x)

pub uncalled : (c : Context) (more : List ValType) (o : Option ℕ) (index : ℕ) (ts us : List ValType) → o ≡ Some index
    → slice_get c.types index ≡ None → (i : ℕ) → o ≡ Some i → CallsType c more i ts us → ⊥
uncalled c more o index ts us e f i g x =
    never_found (slice_get c.types i) x.0 (subst (λ (n : ℕ). slice_get c.types n ≡ None) (same_found o index i e g) f) x.1

-- Accesses.

pub aligned_kind : {A : Type 0} (o : Option A) (memory : A) (a b : ℕ) → o ≡ Some memory → a ≤ b → access_kind o (nat_le a b) ≡ TypeMismatch
aligned_kind o memory a b e h = rw (e, le-leb a b h) refl

pub misaligned_kind : {A : Type 0} (o : Option A) (memory : A) (a b : ℕ) → o ≡ Some memory → (a ≤ b → ⊥) → Alignment ≡ access_kind o (nat_le a b)
misaligned_kind o memory a b e h = rw (e, not_le a b h) refl
  where
    not_le : (a b : ℕ) → (a ≤ b → ⊥) → nat_le a b ≡ false
    not_le a b h = elim (leb_tells a b) [ inl w ↦ absurd (h w.1) | inr w ↦ w.0 ]

pub exact_kind : {A : Type 0} (o : Option A) (memory : A) (a b : ℕ) → o ≡ Some memory → a ≡ b → access_kind o (nat_eq a b) ≡ TypeMismatch
exact_kind o memory a b e h = rw (e, eq-eqb a b h) refl

pub inexact_kind : {A : Type 0} (o : Option A) (memory : A) (a b : ℕ) → o ≡ Some memory → (a ≡ b → ⊥) → Alignment ≡ access_kind o (nat_eq a b)
inexact_kind o memory a b e h = rw (e, not_eq a b h) refl
  where
    not_eq : (a b : ℕ) → (a ≡ b → ⊥) → nat_eq a b ≡ false
    not_eq a b h = elim (eqb_tells a b) [ inl w ↦ absurd (h w.1) | inr w ↦ w.0 ]

-- an alignment that is too wide for any access
pub wide : (n : ℕ) → 3 < n → 2 ^ n ≤ 8 → ⊥
wide n h k = let m : 2 ^ 4 ≤ 2 ^ n = pow_mono {i = 4} {j = n} (omega arith) in let l : 16 ≤ 2 ^ n = m in omega arith

-- a branch carries what its label carries
pub branched : (o : Option (List ValType)) (carried ts us : List ValType) → o ≡ Some carried → (k : List ValType) → o ≡ Some k
    → Moves (I32 ∷ k) k ts us → Moves (I32 ∷ carried) carried ts us
branched o carried ts us e k f x = subst (λ (j : List ValType). Moves (I32 ∷ j) j ts us) (same_found o k carried f e) x

pub branched_off : (o : Option (List ValType)) (carried ts : List ValType) → o ≡ Some carried → (k : List ValType) → o ≡ Some k
    → HasOnTop (I32 ∷ k) ts → HasOnTop (I32 ∷ carried) ts
branched_off o carried ts e k f x = subst (λ (j : List ValType). HasOnTop (I32 ∷ j) ts) (same_found o k carried f e) x
