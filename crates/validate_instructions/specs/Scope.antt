-- What the code of one body may name.
use Rattle.std.specs.Prelude.{◌≡◌, ◌++◌, [], map, Option, Some, None, Result, MatchResult}
use Rattle.types.specs.declared.parts.FuncType.{FuncType}
use Rattle.types.specs.declared.parts.Body.{Body}
use Rattle.validate_typing.specs.Context.{Context, in_function}
use Rattle.validate_typing.specs.Typing.{results_of}
use Rattle.validate_instructions.specs.declared.scope.Declared.{Declared}
use Rattle.validate_instructions.specs.declared.scope.Scope.{Scope}
use Rattle.validate_instructions.specs.declared.problem.Problem.{Problem}
use Rattle.validate_instructions.specs.declared.problem.Problem.TheVariants.{Wrong}
use Rattle.validate_typing.specs.declared.fault.Fault.{Fault}

-- What all code of a module may name (Core specification 1.0, section 3.1.1).
abbrev pub declared_context : Declared → Context
declared_context d = record {
  types = d.types.now;
  functions = d.functions.now;
  tables = d.tables.now;
  memories = d.memories.now;
  globals = map (λ g. g.global_type) d.globals.now;
  locals = [];
  results = [];
}

-- With the locals and the result of one function.
abbrev pub context_of : Scope → Context
context_of s = record (declared_context s.declared) {
  locals = s.params.now ++ s.locals.now;
  results = results_of
      s.result;
}

-- With those of the body of a function of this type.
abbrev pub in_body : Declared → FuncType → Body → Context
in_body d t body = in_function (declared_context d) t body

-- What is named isn't there, and this is the fault.
abbrev pub Misses : {A : Type 0} → Option A → Fault → Problem → Type 0
Misses found kind e = (e ≡ Wrong kind) × (found ≡ None)

-- What is named, or the fault where it isn't there.
abbrev pub Gets : {A : Type 0} → Option A → Fault → Result A Problem → Type 0
Gets found kind r = MatchResult r (λ x. found ≡ Some x) (Misses found kind)

-- The same where what is answered is read so.
abbrev pub GetsAs : {A B : Type 0} → Option A → Fault → Result B Problem → (B → A) → Type 0
GetsAs found kind r read = MatchResult r (λ x. found ≡ Some (read x)) (Misses found kind)

-- That it is there, or the fault.
abbrev pub NeedsSome : {A : Type 0} → Option A → Fault → Result (Unit {0}) Problem → Type 0
NeedsSome {A = A} found kind r = MatchResult r (λ _. (x : A) × (found ≡ Some x)) (Misses found kind)

-- That this holds, or the fault.
abbrev pub Needs : Type 0 → Fault → Result (Unit {0}) Problem → Type 0
Needs holds kind r = MatchResult r (λ _. holds) (λ e. (e ≡ Wrong kind) × (holds → ⊥))
