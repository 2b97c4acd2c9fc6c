-- The laws of types, of items of sections and of bodies.
use Rattle.std.proofs.Common.{◌≡◌, ℕ, zero, suc, ◌-◌, ◌≤◌, true, false, cond, eqb, List, [], ◌∷◌, ◌++◌, length}
use Rattle.std.proofs.Common.{replicate, Option, Some, Ok, refl, sym, ap, arith}
use Rattle.types.specs.declared.parts.FuncType.{FuncType}
use Rattle.types.specs.declared.parts.Body.{Body}
use Rattle.types.specs.declared.parts.ImportDesc.TheVariants as imports
use Rattle.binary_wire.specs.declared.bounds.Bounds.{Bounds}
use Rattle.binary_wire.specs.declared.fault.Fault.{Fault}
use Rattle.binary_wire.specs.declared.fault.Fault.TheVariants as faults
use Rattle.binary_wire.specs.Faults.{refused, inside}
use Rattle.binary_wire.specs.Reading.{Reading, ◌>>=◌, tag_at, end_at, slice_at, u32_at, u32_within_at}
use Rattle.binary_wire.specs.Reading.{block_at, name_at, vector_at}
use Rattle.binary_wire.specs.Grammar.{Spelling, IsU32, IsU32Within}
use Rattle.binary_wire.proofs.Laws.{Law, bad, gives, bind_case, one_case, some_case, take_is, when_ok, end_case, tag_takes}
use Rattle.binary_wire.proofs.Laws.{slice_ok, slice_again}
use Rattle.binary_wire.proofs.Laws.{u32_law, u32_within_law, block_law, name_law, vector_law, pure_law, map_law}
use Rattle.binary_wire.proofs.Laws.{then_law}
use Rattle.std.proofs.lemmas.Bool.{eqb-true, eq-eqb}
use Rattle.std.proofs.lemmas.List.{length-append}
use Rattle.binary_instructions.specs.Grammar.{IsValType}
use Rattle.binary_instructions.specs.Reading.{val_type_at, expression_at}
use Rattle.binary_instructions.proofs.Laws.{val_type_law, expression_law}
use Rattle.binary.specs.declared.kinds.ExternalKind.{ExternalKind}
use Rattle.binary.specs.declared.kinds.ExternalKind.TheVariants as kinds
use Rattle.binary.specs.declared.kinds.LimitsFlag.{LimitsFlag}
use Rattle.binary.specs.declared.kinds.LimitsFlag.TheVariants as flags
use Rattle.binary.specs.Kinds.{external_kind_of, mutability_of, table_flag_of, memory_flag_of, min_limits, min_max_limits, exported}
use Rattle.types.specs.Within.{param_count}
use Rattle.types.specs.declared.limits.TheConstants.{MOST_PAGES, MOST_BODY_BYTES, MOST_FUNCTIONS, MOST_ELEMENTS, MOST_PARAMS, MOST_LOCALS}
use Rattle.binary.specs.Reading.{coded_at, limits_after_at, memory_at, table_at, global_type_at, func_type_at}
use Rattle.binary.specs.Reading.{global_at, described_at, import_desc_at, import_at, export_desc_at, export_at}
use Rattle.binary.specs.Reading.{element_at, data_at, groups_at, locals_at, body_contents_at, block_within_at}
use Rattle.binary.specs.Reading.{body_at, bodies_at, code_section_at}
use Rattle.binary.specs.Grammar.{IsCoded, IsTagged, IsLimitsAfter, IsMemory, IsTableLimits, IsTable, IsGlobalType}
use Rattle.binary.specs.Grammar.{IsFuncType, IsGlobal, IsDescribed, IsImportDesc, IsImport, IsExportDesc, IsExport}
use Rattle.binary.specs.Grammar.{IsElement, IsData, IsGroups, IsLocals, IsBodyContents, IsBlockWithin, IsBody}
use Rattle.binary.specs.Grammar.{AreBodies, IsCodeSection}

-- ---- single bytes

coded_takes : {A : Type 0} (kind : Fault) (code : ℕ → Option A) (s : Bounds) (bytes : List ℕ) (x : A) (rest : List ℕ)
    → coded_at kind code s bytes ≡ Ok (x, rest) → IsCoded code bytes x rest
unfolding coded_at
coded_takes kind code s [] x rest e = absurd cc
coded_takes {A} kind code s (b ∷ bytes) x rest e =
    some_case (code b) (refused kind s (b ∷ bytes)) (λ y. gives y bytes) (x, rest) e (λ y e1 e2.
    take_is (λ (z : A) (r : List ℕ). (code b ≡ Some z) × (r ≡ bytes)) y x bytes rest e2 (e1, refl))

coded_again : {A : Type 0} (kind : Fault) (code : ℕ → Option A) (s : Bounds) (bytes : List ℕ) (x : A) (rest : List ℕ)
    → IsCoded code bytes x rest → coded_at kind code s bytes ≡ Ok (x, rest)
unfolding coded_at
coded_again kind code s [] x rest h = absurd h
coded_again kind code s (b ∷ bytes) x rest h = rw (h.0, h.1) refl

coded_within : {A : Type 0} (code : ℕ → Option A) (bytes : List ℕ) (x : A) (rest : List ℕ) → IsCoded code bytes x rest → length rest ≤ length bytes
coded_within code [] x rest h = absurd h
coded_within code (b ∷ bytes) x rest h = omega (arith, ap length h.1)

pub coded_law : {A : Type 0} (kind : Fault) (code : ℕ → Option A) → Law (IsCoded code) (coded_at kind code)
coded_law kind code = record { takes = coded_takes kind code; again = coded_again kind code; within = coded_within code }

tag_passes : (kind : Fault) (tag : ℕ) (s : Bounds) (bytes : List ℕ) → tag_at kind tag s (tag ∷ bytes) ≡ Ok bytes
tag_passes kind tag s bytes = rw (eq-eqb tag tag refl) refl

pub tagged_law : {A : Type 0} (kind : Fault) (tag : ℕ) (P : Spelling A) (at : Reading A) → Law P at
    → Law (IsTagged tag P) (λ s bytes. tag_at kind tag s bytes >>= λ start. at s start)
tagged_law kind tag P at law = record {
  takes = λ s bytes x rest e. one_case (tag_at kind tag s bytes) (λ start. at s start)
      (x, rest) e (λ start e1 e2. (start, tag_takes kind tag s bytes start (sym e1), law.takes s start x rest e2));
  again = λ s bytes x rest h. rw (h.1, tag_passes kind tag s h.0) (law.again s h.0 x rest h.2);
  within = λ bytes x rest h. omega (arith, ap length h.1, law.within h.0 x rest h.2);
}

-- ---- types

limits_after_law : (most_min most_max : ℕ) (flag : LimitsFlag) → Law (IsLimitsAfter most_min most_max flag) (limits_after_at most_min most_max flag)
unfolding limits_after_at
limits_after_law most_min most_max flags.Min = map_law min_limits (IsU32Within most_min) (u32_within_at most_min) (u32_within_law most_min)
limits_after_law most_min most_max flags.MinMax =
    then_law (IsU32Within most_min) (u32_within_at most_min) _
    (λ n s bytes. u32_within_at most_max s bytes >>= λ m. Ok (min_max_limits false n m.0, m.1))
    (u32_within_law most_min) (λ n.
    map_law (min_max_limits false n) (IsU32Within most_max) (u32_within_at most_max) (u32_within_law most_max))
limits_after_law most_min most_max flags.SharedMinMax =
    then_law (IsU32Within most_min) (u32_within_at most_min) _
    (λ n s bytes. u32_within_at most_max s bytes >>= λ m. Ok (min_max_limits true n m.0, m.1))
    (u32_within_law most_min) (λ n.
    map_law (min_max_limits true n) (IsU32Within most_max) (u32_within_at most_max) (u32_within_law most_max))

pub memory_law : Law IsMemory memory_at
unfolding memory_at
memory_law = then_law (IsCoded memory_flag_of) (coded_at faults.LimitsFlag memory_flag_of) (IsLimitsAfter MOST_PAGES MOST_PAGES)
    (limits_after_at MOST_PAGES MOST_PAGES) (coded_law faults.LimitsFlag memory_flag_of) (limits_after_law MOST_PAGES MOST_PAGES)

table_limits_law : Law IsTableLimits (λ s bytes. coded_at faults.LimitsFlag table_flag_of s bytes >>= λ flag.
    limits_after_at MOST_ELEMENTS 0xffff_ffff flag.0 s flag.1)
table_limits_law = then_law (IsCoded table_flag_of) (coded_at faults.LimitsFlag table_flag_of) (IsLimitsAfter MOST_ELEMENTS 0xffff_ffff)
    (limits_after_at MOST_ELEMENTS 0xffff_ffff) (coded_law faults.LimitsFlag table_flag_of) (limits_after_law MOST_ELEMENTS 0xffff_ffff)

pub table_law : Law IsTable table_at
unfolding table_at
table_law = tagged_law faults.UnknownByte 0x70 IsTableLimits _ table_limits_law

pub global_type_law : Law IsGlobalType global_type_at
unfolding global_type_at
global_type_law = record {
  takes = λ s bytes g rest e.
      bind_case (val_type_at s bytes) _ _ e (λ t a e1 e2.
      bind_case (coded_at faults.UnknownByte mutability_of s a) _ _ e2 (λ m b e3 e4.
      take_is (IsGlobalType bytes) (record { val_type = t; mutable = m }) g b rest e4 (
        a,
        val_type_law.takes s bytes t a (sym e1),
        coded_takes faults.UnknownByte mutability_of s a m b (sym e3),
      )));
  again = λ s bytes g rest h. rw (val_type_law.again s bytes g.val_type h.0 h.1, coded_again faults.UnknownByte mutability_of s h.0 g.mutable rest h.2) refl;
  within = λ bytes g rest h. omega (arith, val_type_law.within bytes g.val_type h.0 h.1, coded_within mutability_of h.0 g.mutable rest h.2);
}

pub func_type_law : Law IsFuncType func_type_at
unfolding func_type_at
func_type_law =
    let v = vector_law MOST_PARAMS IsValType val_type_at val_type_law in
    record {
      takes = λ s bytes t rest e.
          one_case (tag_at faults.UnknownByte 0x60 s bytes) _ _ e (λ start e1 e2.
          bind_case (vector_at MOST_PARAMS val_type_at s start) _ _ e2 (λ params mid e3 e4.
          bind_case (vector_at MOST_PARAMS val_type_at s mid) _ _ e4 (λ results after e5 e6.
          take_is (IsFuncType bytes) (record { params = params; results = results }) t after rest e6 (
            start,
            mid,
            tag_takes faults.UnknownByte 0x60 s bytes start (sym e1),
            v.takes s start params mid (sym e3),
            v.takes s mid results after (sym e5),
          ))));
      again = λ s bytes t rest h. rw (h.2, v.again s h.0 t.params h.1 h.3, v.again s h.1 t.results rest h.4) refl;
      within = λ bytes t rest h. omega (arith, ap length h.2, v.within h.0 t.params h.1 h.3, v.within h.1 t.results rest h.4);
    }

-- ---- items of sections

pub global_law : Law IsGlobal global_at
unfolding global_at
global_law = record {
  takes = λ s bytes g rest e.
      bind_case (global_type_at s bytes) _ _ e (λ t a e1 e2.
      bind_case (expression_at s a) _ _ e2 (λ init b e3 e4.
      take_is (IsGlobal bytes) (record { global_type = t; init = init }) g b rest e4 (
        a,
        global_type_law.takes s bytes t a (sym e1),
        expression_law.takes s a init b (sym e3),
      )));
  again = λ s bytes g rest h. rw (global_type_law.again s bytes g.global_type h.0 h.1, expression_law.again s h.0 g.init rest h.2) refl;
  within = λ bytes g rest h. omega (arith, global_type_law.within bytes g.global_type h.0 h.1, expression_law.within h.0 g.init rest h.2);
}

described_law : (kind : ExternalKind) → Law (IsDescribed kind) (described_at kind)
unfolding described_at
described_law kinds.Func = map_law (λ n. imports.Func n) IsU32 u32_at u32_law
described_law kinds.Table = map_law (λ l. imports.Table l) IsTable table_at table_law
described_law kinds.Memory = map_law (λ l. imports.Memory l) IsMemory memory_at memory_law
described_law kinds.Global = map_law (λ g. imports.Global g) IsGlobalType global_type_at global_type_law

import_desc_law : Law IsImportDesc import_desc_at
unfolding import_desc_at
import_desc_law = then_law (IsCoded external_kind_of) (coded_at faults.UnknownByte external_kind_of) IsDescribed described_at
    (coded_law faults.UnknownByte external_kind_of) described_law

pub import_law : Law IsImport import_at
unfolding import_at
import_law = record {
  takes = λ s bytes i rest e.
      bind_case (name_at s bytes) _ _ e (λ from a e1 e2.
      bind_case (name_at s a) _ _ e2 (λ name b e3 e4.
      bind_case (import_desc_at s b) _ _ e4 (λ desc c e5 e6.
      take_is (IsImport bytes) (record { «module» = from; name = name; desc = desc }) i c rest e6 (
        a,
        b,
        name_law.takes s bytes from a (sym e1),
        name_law.takes s a name b (sym e3),
        import_desc_law.takes s b desc c (sym e5),
      ))));
  again = λ s bytes i rest h. rw (name_law.again s bytes i.«module» h.0 h.2, name_law.again s h.0 i.name h.1 h.3, import_desc_law.again s h.1 i.desc rest h.4)
      refl;
  within = λ bytes i rest h. omega (
    arith,
    name_law.within bytes i.«module» h.0 h.2,
    name_law.within h.0 i.name h.1 h.3,
    import_desc_law.within h.1 i.desc rest h.4,
  );
}

export_desc_law : Law IsExportDesc export_desc_at
unfolding export_desc_at
export_desc_law =
    then_law (IsCoded external_kind_of) (coded_at faults.UnknownByte external_kind_of) _
    (λ kind s bytes. u32_at s bytes >>= λ n. Ok (exported kind n.0, n.1)) (coded_law faults.UnknownByte external_kind_of) (λ kind.
    map_law (exported kind) IsU32 u32_at u32_law)

pub export_law : Law IsExport export_at
unfolding export_at
export_law = record {
  takes = λ s bytes x rest e.
      bind_case (name_at s bytes) _ _ e (λ name a e1 e2.
      bind_case (export_desc_at s a) _ _ e2 (λ desc b e3 e4.
      take_is (IsExport bytes) (record { name = name; desc = desc }) x b rest e4 (
        a,
        name_law.takes s bytes name a (sym e1),
        export_desc_law.takes s a desc b (sym e3),
      )));
  again = λ s bytes x rest h. rw (name_law.again s bytes x.name h.0 h.1, export_desc_law.again s h.0 x.desc rest h.2) refl;
  within = λ bytes x rest h. omega (arith, name_law.within bytes x.name h.0 h.1, export_desc_law.within h.0 x.desc rest h.2);
}

pub element_law : Law IsElement element_at
unfolding element_at
element_law =
    let v = vector_law MOST_FUNCTIONS IsU32 u32_at u32_law in
    record {
      takes = λ s bytes x rest e.
          bind_case (u32_at s bytes) _ _ e (λ table a e1 e2.
          bind_case (expression_at s a) _ _ e2 (λ offset b e3 e4.
          bind_case (vector_at MOST_FUNCTIONS u32_at s b) _ _ e4 (λ functions c e5 e6.
          take_is (IsElement bytes) (record { table = table; offset = offset; functions = functions }) x c rest e6 (
            a,
            b,
            u32_law.takes s bytes table a (sym e1),
            expression_law.takes s a offset b (sym e3),
            v.takes s b functions c (sym e5),
          ))));
      again = λ s bytes x rest h. rw (u32_law.again s bytes x.table h.0 h.2, expression_law.again s h.0 x.offset h.1 h.3, v.again s h.1 x.functions rest h.4)
          refl;
      within = λ bytes x rest h. omega (
        arith,
        u32_law.within bytes x.table h.0 h.2,
        expression_law.within h.0 x.offset h.1 h.3,
        v.within h.1 x.functions rest h.4,
      );
    }

pub data_law : Law IsData data_at
unfolding data_at
data_law = record {
  takes = λ s bytes x rest e.
      bind_case (u32_at s bytes) _ _ e (λ memory a e1 e2.
      bind_case (expression_at s a) _ _ e2 (λ offset b e3 e4.
      bind_case (block_at s b) _ _ e4 (λ block c e5 e6.
      take_is (IsData bytes) (record { memory = memory; offset = offset; bytes = block }) x c rest e6 (
        a,
        b,
        u32_law.takes s bytes memory a (sym e1),
        expression_law.takes s a offset b (sym e3),
        block_law.takes s b block c (sym e5),
      ))));
  again = λ s bytes x rest h. rw (u32_law.again s bytes x.memory h.0 h.2, expression_law.again s h.0 x.offset h.1 h.3, block_law.again s h.1 x.bytes rest h.4)
      refl;
  within = λ bytes x rest h. omega (
    arith,
    u32_law.within bytes x.memory h.0 h.2,
    expression_law.within h.0 x.offset h.1 h.3,
    block_law.within h.1 x.bytes rest h.4,
  );
}

-- ---- code

groups_law : (count room : ℕ) → Law (IsGroups count room) (groups_at count room)
unfolding groups_at
groups_law zero room = pure_law []
groups_law (suc count) room =
    then_law (IsU32Within room) (u32_within_at room) _
    (λ n s bytes. val_type_at s bytes >>= λ t. groups_at count (room - n) s t.1 >>= λ others. Ok
    (replicate n t.0 ++ others.0, others.1)) (u32_within_law room) (λ n.
    then_law IsValType val_type_at _ (λ t s bytes. groups_at count (room - n) s bytes >>= λ others. Ok (replicate n t ++ others.0, others.1)) val_type_law (λ t.
    map_law (λ others. replicate n t ++ others) (IsGroups count (room - n)) (groups_at count (room - n)) (groups_law count (room - n))))

locals_law : (room : ℕ) → Law (IsLocals room) (locals_at room)
unfolding locals_at
locals_law room = then_law IsU32 u32_at (λ count. IsGroups count room) (λ count. groups_at count room) u32_law (λ count. groups_law count room)

body_contents_law : (params : ℕ) → Law (IsBodyContents params) (body_contents_at params)
unfolding body_contents_at
body_contents_law params =
    let l = locals_law (MOST_LOCALS - params) in
    record {
      takes = λ s bytes x rest e.
          bind_case (locals_at (MOST_LOCALS - params) s bytes) _ _ e (λ locals a e1 e2.
          bind_case (expression_at s a) _ _ e2 (λ code b e3 e4.
          take_is (IsBodyContents params bytes)
          (record { locals = locals; code = code }) x b rest e4 (
            a,
            l.takes s bytes locals a (sym e1),
            expression_law.takes s a code b (sym e3),
          )));
      again = λ s bytes x rest h. rw (l.again s bytes x.locals h.0 h.1, expression_law.again s h.0 x.code rest h.2) refl;
      within = λ bytes x rest h. omega (arith, l.within bytes x.locals h.0 h.1, expression_law.within h.0 x.code rest h.2);
    }

block_within_law : (limit : ℕ) → Law (IsBlockWithin limit) (block_within_at limit)
unfolding block_within_at
block_within_law limit =
    let l = u32_within_law limit in
    record {
      takes = λ s bytes block rest e.
          bind_case (u32_within_at limit s bytes) (λ n. slice_at n.0 s n.1) (block, rest) e (λ n mid e1 e2.
          let p = slice_ok n s mid block rest e2 in
          (mid, rw p.0 (l.takes s bytes n mid (sym e1)), p.1));
      again = λ s bytes block rest h. rw (l.again s bytes (length block) h.0 h.1, h.2) (slice_again s block rest);
      within = λ bytes block rest h. omega (arith, l.within bytes (length block) h.0 h.1, ap length h.2, length-append block rest);
    }

body_law : (params : ℕ) → Law (IsBody params) (body_at params)
unfolding body_at
body_law params =
    let w = block_within_law MOST_BODY_BYTES in
    let c = body_contents_law params in
    record {
      takes = λ s bytes x rest e.
          bind_case (block_within_at MOST_BODY_BYTES s bytes)
          (λ contents. body_contents_at params (inside s contents.1) contents.0 >>= λ b. end_at (inside s contents.1) b.1 >>= λ whole. gives b.0 contents.1)
          (x, rest) e (λ block after e1 e2.
          bind_case (body_contents_at params (inside s after) block) (λ b. end_at (inside s after) b.1 >>= λ whole. gives b.0 after) (x, rest) e2
          (λ y left e3 e4.
          let t = end_case (inside s after) left (gives y after) (x, rest) e4 in
          take_is (IsBody params bytes) y x after rest t.1
          (block, w.takes s bytes block after (sym e1), c.takes (inside s after) block y [] (rw t.0 at (sym e3)))));
      again = λ s bytes x rest h. rw (w.again s bytes h.0 rest h.1, c.again (inside s rest) h.0 x [] h.2) refl;
      within = λ bytes x rest h. w.within bytes h.0 rest h.1;
    }

bodies_take : (types : List FuncType) (functions : List ℕ) (s : Bounds) (bytes : List ℕ) (xs : List Body) (rest : List ℕ)
    → bodies_at types functions s bytes ≡ Ok (xs, rest) → AreBodies types functions bytes xs rest
unfolding bodies_at
bodies_take types [] s bytes xs rest e = take_is (λ (ys : List Body) (r : List ℕ). AreBodies types [] bytes ys r) [] xs bytes rest e refl
bodies_take types (f ∷ functions) s bytes xs rest e =
    bind_case (body_at (param_count types f) s bytes)
    (λ first. bodies_at types functions s first.1 >>= λ others. gives (first.0 ∷ others.0) others.1)
    (xs, rest) e (λ first mid e1 e2.
    bind_case (bodies_at types functions s mid) (λ others. gives (first ∷ others.0) others.1) (xs, rest) e2 (λ others after e3 e4.
    take_is (λ (ys : List Body) (r : List ℕ). AreBodies types (f ∷ functions) bytes ys r) (first ∷ others) xs after rest e4
    (mid, (body_law (param_count types f)).takes s bytes first mid (sym e1), bodies_take types functions s mid others after (sym e3))))

bodies_again : (types : List FuncType) (functions : List ℕ) (s : Bounds) (bytes : List ℕ) (xs : List Body) (rest : List ℕ)
    → AreBodies types functions bytes xs rest → bodies_at types functions s bytes ≡ Ok (xs, rest)
unfolding bodies_at
bodies_again types [] s bytes [] rest h = rw h refl
bodies_again types [] s bytes (x ∷ xs) rest h = absurd h
bodies_again types (f ∷ functions) s bytes [] rest h = absurd h
bodies_again types (f ∷ functions) s bytes (x ∷ xs) rest h =
    rw ((body_law (param_count types f)).again s bytes x h.0 h.1, bodies_again types functions s h.0 xs rest h.2) refl

bodies_within : (types : List FuncType) (functions bytes : List ℕ) (xs : List Body) (rest : List ℕ)
    → AreBodies types functions bytes xs rest → length rest ≤ length bytes
bodies_within types [] bytes [] rest h = omega (arith, ap length h)
bodies_within types [] bytes (x ∷ xs) rest h = absurd h
bodies_within types (f ∷ functions) bytes [] rest h = absurd h
bodies_within types (f ∷ functions) bytes (x ∷ xs) rest h =
    omega (
      arith,
      (body_law (param_count types f)).within bytes x h.0 h.1,
      bodies_within types functions h.0 xs rest h.2,
    )

pub code_section_law : (types : List FuncType) (functions : List ℕ) → Law (IsCodeSection types functions) (code_section_at types functions)
unfolding code_section_at
code_section_law types functions = record {
  takes = λ s bytes xs rest e.
      let wrong = refused faults.CountsDiffer s bytes in
      bind_case (u32_at s bytes) (λ n. cond (eqb n.0 (length functions)) (bodies_at types functions s n.1) (bad wrong)) (xs, rest) e (λ n mid e1 e2.
      let t = when_ok (eqb n (length functions)) (bodies_at types functions s mid) wrong (xs, rest) e2 in
      (mid, rw (eqb-true n (length functions) t.0) at (u32_law.takes s bytes n mid (sym e1)), bodies_take types functions s mid xs rest t.1));
  again = λ s bytes xs rest h. rw (
    u32_law.again s bytes (length functions) h.0 h.1,
    eq-eqb (length functions) (length functions) refl,
  ) (bodies_again types functions s h.0 xs rest h.2);
  within = λ bytes xs rest h. omega (arith, u32_law.within bytes (length functions) h.0 h.1, bodies_within types functions h.0 xs rest h.2);
}
