-- Objects and lists that are sent part by part.
use Rattle.std.proofs.Common.{ℕ, suc, ◌≡◌, ◌+◌, ◌^◌, ◌<◌, ◌≤◌, List, [], ◌∷◌, Option, Some, None, Bool, true, false}
use Rattle.std.proofs.Common.{◌||◌, length, drop, get_or, decimal, if◌then◌else◌, nat_lt, refl, ap, sym, subst, ◌∙◌}
use Rattle.std.proofs.Common.{arith, drop-cons, add-one}
use Rattle.std.proofs.lemmas.List.{drop_all}
use Rattle.std.specs.Io.KnownBytes.{Appends}
use Rattle.serde.specs.Event.{Log, Logs, map_begins, map_ends, seq_begins, seq_ends}
use Rattle.serde_json.specs.Data as shaped
use Rattle.serde_json.specs.Events.{SendsMembers, SendsItems, members_len, items_len}
use Rattle.serde_json.specs.Sent.{IsTextOf}
use Rattle.serde_json.specs.Written.{has_float, items_have_float, members_have_float}
use Rattle.serde_json.proofs.FreeTexts.{text_of_value}
use Rattle.show_json.specs.Json.{Json, Items, Fields, Field, null, truth, number, text, list, object, no_items, item}
use Rattle.show_json.specs.Json.{no_fields, field, value_of, items_of, members_of, json_text, items, list_of}
use Rattle.show_json.specs.Json.{numbered, fields, object_of, is, is_given, are_some}
use Rattle.show_json.specs.Sent.{Sends, SendsField, SendsFields, given, some, count}

-- No value has a fraction.
number_whole : (b : Bool) (n : ℕ) → has_float (if b then shaped.number (shaped.unsigned n) else shaped.string (decimal n)) ≡ false
number_whole true n = refl
number_whole false n = refl

neither : (a b : Bool) → a ≡ false → b ≡ false → (a || b) ≡ false
neither true b p q = p
neither false b p q = q

mutual
  pub whole : (j : Json) → has_float (value_of j) ≡ false
  whole null = refl
  whole (truth b) = refl
  whole (number n) = number_whole (nat_lt n (2 ^ 53)) n
  whole (text s) = refl
  whole (list js) = items_whole js
  whole (object fs) = fields_whole fs

  items_whole : (js : Items) → items_have_float (items_of js) ≡ false
  items_whole no_items = refl
  items_whole (item j js) = neither (has_float (value_of j)) (items_have_float (items_of js)) (whole j) (items_whole js)

  fields_whole : (fs : Fields) → members_have_float (members_of fs) ≡ false
  fields_whole no_fields = refl
  fields_whole (field name j fs) =
      neither (has_float (value_of j)) (members_have_float (members_of fs)) (whole j) (fields_whole fs)

-- What is written of a value that was sent.
pub text_written : (j : Json) (log : Log) (bytes buffer : List ℕ) (a b : Option (List ℕ)) → Sends j (Some []) log → IsTextOf log bytes
    → buffer ≡ bytes → Appends a b buffer → Appends a b (json_text j)
text_written j log bytes buffer a b sent is_text same_bytes_as wrote =
    let same : buffer ≡ json_text j = same_bytes_as ∙ text_of_value (value_of j) log bytes sent is_text (whole j) in
    subst (λ (t : List ℕ). Appends a b t) same wrote

-- An object that was sent field by field.
members_sent : (fs : List Field) (a b c : Log) → SendsFields fs a b → Logs b c map_ends → SendsMembers (members_of (fields fs)) a c
members_sent [] a b c h e = subst (λ (l : Log). Logs l c map_ends) h e
members_sent (None ∷ fs) a b c h e = subst (λ (l : Log). SendsMembers (members_of (fields fs)) l c) h.1 (members_sent fs h.0 b c h.2 e)
members_sent (Some f ∷ fs) a b c h e = (h.1.0, h.0, h.1.1, h.1.2, members_sent fs h.0 b c h.2 e)

count_len : (fs : List Field) → members_len (members_of (fields fs)) ≡ count fs
count_len [] = refl
count_len (None ∷ fs) = count_len fs
count_len (Some f ∷ fs) = ap suc (count_len fs)

pub object_sent : (fs : List Field) (n : ℕ) (a b c d : Log) → n ≡ count fs → Logs a b (map_begins (Some n)) → SendsFields fs b c
    → Logs c d map_ends → Sends (object_of fs) a d
object_sent fs n a b c d len begun all ended =
    (b, subst (λ (k : ℕ). Logs a b (map_begins (Some k))) (len ∙ sym (count_len fs)) begun, members_sent fs b c d all ended)

pub count_given : {A : Type 0} (name : List ℕ) (json : A → Json) (o : Option A) (fs : List Field)
    → count (is_given name json o ∷ fs) ≡ given o + count fs
count_given name json None fs = omega arith
count_given name json (Some x) fs = omega arith

pub count_some : {A : Type 0} (name : List ℕ) (json : A → Json) (xs : List A) (fs : List Field)
    → count (are_some name json xs ∷ fs) ≡ some xs + count fs
count_some name json [] fs = omega arith
count_some name json (x ∷ xs) fs = omega arith

-- A field whose value is another one's by an equation.
pub same_field : (name : List ℕ) (j k : Json) (a b : Log) → j ≡ k → SendsField (is name j) a b → SendsField (is name k) a b
same_field name j k a b same sent = subst (λ (l : Json). SendsField (is name l) a b) same sent

-- A list whose items are another one's by an equation, and a value that may be given.
pub same_some : {A : Type 0} (name : List ℕ) (json : A → Json) (xs ys : List A) (a b : Log) → xs ≡ ys
    → SendsField (are_some name json xs) a b → SendsField (are_some name json ys) a b
same_some {A} name json xs ys a b are sent = subst (λ (zs : List A). SendsField (are_some name json zs) a b) are sent

pub same_given : {A : Type 0} (name : List ℕ) (json : A → Json) (x y : Option A) (a b : Log) → x ≡ y
    → SendsField (is_given name json x) a b → SendsField (is_given name json y) a b
same_given {A} name json x y a b is sent = subst (λ (o : Option A). SendsField (is_given name json o) a b) is sent

pub some_same : {A : Type 0} (xs ys : List A) → xs ≡ ys → some xs ≡ some ys
some_same xs ys are = ap some are

-- The items of a list: whatever ends the rest of them from here ends all of them from the start.
numbered_len : {A : Type 0} (json : ℕ → A → Json) (n : ℕ) (xs : List A) → items_len (items_of (numbered json n xs)) ≡ length xs
numbered_len json n [] = refl
numbered_len json n (x ∷ xs) = ap suc (numbered_len json (suc n) xs)

pub numbered_more : {A : Type 0} (json : ℕ → A → Json) (xs : List A) (k : ℕ) (x : A) (a b : Log) (P : Log → Type 0)
    → k < length xs → x ≡ get_or xs k x → Sends (json k x) a b
    → ((end : Log) → SendsItems (items_of (numbered json k (drop k xs))) a end → P end)
    → (end : Log) → SendsItems (items_of (numbered json (k + 1) (drop (k + 1) xs))) b end → P end
numbered_more {A} json xs k x a b P less same one before end rest =
    let here = subst (λ (y : A). Sends (json k y) a b) same one in
    let later = subst (λ (n : ℕ). SendsItems (items_of (numbered json n (drop n xs))) b end) (add-one k) rest in
    before end (subst (λ (ys : List A). SendsItems (items_of (numbered json k ys)) a end) (sym (drop-cons xs k x less)) (b, here, later))

pub numbered_sent : {A : Type 0} (json : ℕ → A → Json) (xs : List A) (n k : ℕ) (a b c d : Log) → n ≡ length xs → length xs ≤ k
    → Logs a b (seq_begins (Some n))
    → ((end : Log) → SendsItems (items_of (numbered json k (drop k xs))) c end → SendsItems (items_of (numbered json 0 xs)) b end)
    → Logs c d seq_ends → Sends (list (numbered json 0 xs)) a d
numbered_sent {A} json xs n k a b c d len all begun before ended =
    let none : drop k xs ≡ [] = drop_all k xs all in (
      b,
      subst (λ (m : ℕ). Logs a b (seq_begins (Some m))) (len ∙ sym (numbered_len json 0 xs)) begun,
      before d (subst (λ (ys : List A). SendsItems (items_of (numbered json k ys)) c d) (sym none) ended),
    )

-- Items whose values know nothing of their numbers.
items_numbered : {A : Type 0} (json : A → Json) (n : ℕ) (xs : List A) → numbered (λ k x. json x) n xs ≡ items json xs
items_numbered json n [] = refl
items_numbered json n (x ∷ xs) = ap (item (json x)) (items_numbered json (suc n) xs)

pub list_sent : {A : Type 0} (json : A → Json) (xs : List A) (n k : ℕ) (a b c d : Log) → n ≡ length xs → length xs ≤ k
    → Logs a b (seq_begins (Some n))
    → ((end : Log) → SendsItems (items_of (numbered (λ i x. json x) k (drop k xs))) c end
    → SendsItems (items_of (numbered (λ i x. json x) 0 xs)) b end)
    → Logs c d seq_ends → Sends (list_of json xs) a d
list_sent json xs n k a b c d len all begun before ended =
    subst (λ (js : Items). Sends (list js) a d) (items_numbered json 0 xs)
    (numbered_sent (λ i x. json x) xs n k a b c d len all begun before ended)
