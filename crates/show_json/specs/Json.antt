-- JSON values as they are printed, and the text of a value.
use Rattle.std.specs.Prelude.{ℕ, suc, ◌^◌, nat_lt, if◌then◌else◌, Bool, List, [], ◌∷◌, ◌++◌, codes, Option, Some, None, String, decimal, string_bytes}
use Rattle.std.specs.Global.{Global}
use Rattle.serde_json.specs.Data as shaped
use Rattle.serde_json.specs.Written.{compact_text}

-- A value without fractions. A text is its bytes; the fields of an object have an order.
mutual
  pub data Json : Type 0 where
    null : Json
    truth : Bool → Json
    number : ℕ → Json
    text : List ℕ → Json
    list : Items → Json
    object : Fields → Json

  pub data Items : Type 0 where
    no_items : Items
    item : Json → Items → Items

  pub data Fields : Type 0 where
    no_fields : Fields
    field : List ℕ → Json → Fields → Fields

-- It as a value of serde_json. A number from 2 ^ 53 on, which many readers would round, is the text of its digits.
abbrev mutual
  pub value_of : Json → shaped.Data
  value_of null = shaped.null
  value_of (truth b) = shaped.boolean b
  value_of (number n) = if nat_lt n (2 ^ 53) then shaped.number (shaped.unsigned n) else shaped.string (decimal n)
  value_of (text s) = shaped.string s
  value_of (list js) = shaped.array (items_of js)
  value_of (object fs) = shaped.object (members_of fs)

  pub items_of : Items → shaped.Items
  items_of no_items = shaped.no_items
  items_of (item j js) = shaped.item (value_of j) (items_of js)

  pub members_of : Fields → shaped.Members
  members_of no_fields = shaped.no_members
  members_of (field name j fs) = shaped.member name (value_of j) (members_of fs)

-- Its text, with no space between two tokens; and the line of it.
abbrev pub json_text : Json → List ℕ
json_text j = compact_text (value_of j)

abbrev pub json_line : Json → List ℕ
json_line j = json_text j ++ codes "\n"

-- The text of a string.
abbrev pub string_json : String Global → Json
string_json s = text (string_bytes s)

-- The values of the items of a list.
abbrev pub items : {A : Type 0} → (A → Json) → List A → Items
items json [] = no_items
items json (x ∷ xs) = item (json x) (items json xs)

abbrev pub list_of : {A : Type 0} → (A → Json) → List A → Json
list_of json xs = list (items json xs)

-- The same, each item by its number, from a number on.
abbrev pub numbered : {A : Type 0} → (ℕ → A → Json) → ℕ → List A → Items
numbered json n [] = no_items
numbered json n (x ∷ xs) = item (json n x) (numbered json (suc n) xs)

-- A field: always there; there where its value is given; or there where its list has an item.
abbrev pub Field : Type 0
Field = Option (List ℕ × Json)

abbrev pub is : List ℕ → Json → Field
is name j = Some (name, j)

abbrev pub is_given : {A : Type 0} → List ℕ → (A → Json) → Option A → Field
is_given name json None = None
is_given name json (Some x) = is name (json x)

abbrev pub are_some : {A : Type 0} → List ℕ → (A → Json) → List A → Field
are_some name json [] = None
are_some name json (x ∷ xs) = is name (list_of json (x ∷ xs))

-- An object of those fields that are there, in their order.
abbrev pub fields : List Field → Fields
fields [] = no_fields
fields (None ∷ fs) = fields fs
fields (Some f ∷ fs) = field f.0 f.1 (fields fs)

abbrev pub object_of : List Field → Json
object_of fs = object (fields fs)
