-- The keys of a table, the checks of their values, and the names that arrays hold.
use Rattle.std.specs.Prelude.{ℕ, ◌+◌, Bool, not, ◌&&◌, List, [], ◌∷◌, length, filter_map, Option, option_and_then, is_none, is_some, unwrap_or}
use Rattle.std.specs.List.{list_any, list_all}
use Rattle.std.specs.Str.{bytes_eq}
use Rattle.toml.specs.Data.{Data, get, as_str}
use Rattle.rm_base.specs.Checks.{check}
use Rattle.rm_base.specs.Codes.{refuse}
use Rattle.rm_names.specs.Names.{place_of}
use Rattle.rm_base.specs.Text.{Text}
use Rattle.rm_base.specs.declared.Refusal.{Refusal}
use Rattle.rm_base.specs.declared.codes.TheConstants.{POLICY_FILE, UNKNOWN_KEY, BAD_VALUE, UNKNOWN_ENTRY_NAME}
use Rattle.rm_policy.specs.Keys.{key_text, key_number}
use Rattle.rm_policy.specs.Values.{keys_of}
use Rattle.rm_policy.specs.declared.keys.Key.{Key}
use Rattle.rm_policy.specs.declared.keys.Key.TheVariants as key

-- a refusal of the policy by its code, its item and a number
abbrev pub policy_refusal : ℕ → ℕ → ℕ → Refusal
policy_refusal code i b = refuse code POLICY_FILE i b

abbrev pub bad_value : ℕ → Key → Refusal
bad_value i k = policy_refusal BAD_VALUE i (key_number k)

-- ---- values at keys

abbrev pub value_at : Key → Data → Option Data
value_at k d = get (key_text k) d

abbrev pub is_present : Key → Data → Bool
is_present k d = is_some (value_at k d)

-- the value at a key, read so
abbrev pub read_at : {A : Type 0} → (Data → Option A) → Key → Data → Option A
read_at read k d = option_and_then read (value_at k d)

-- a key that is there and doesn't read so
abbrev pub is_bad : {A : Type 0} → (Data → Option A) → Key → Data → Bool
is_bad read k d = is_present k d && is_none (read_at read k d)

abbrev pub optional : {A : Type 0} → (Data → Option A) → Key → ℕ → Data → Option Refusal
optional read k i d = check (is_bad read k d) (bad_value i k)

abbrev pub required : {A : Type 0} → (Data → Option A) → Key → ℕ → Data → Option Refusal
required read k i d = check (is_none (read_at read k d)) (bad_value i k)

-- the elements at a key, none where it is absent
abbrev pub elements_at : (Data → Option (List Data)) → Key → Data → List Data
elements_at read k d = unwrap_or (read_at read k d) []

-- a text is one of these keys
abbrev pub is_key_among : List Key → Text → Bool
is_key_among known text = list_any (λ k. bytes_eq text (key_text k)) known

abbrev pub only_keys : List Key → ℕ → Data → Option Refusal
only_keys known i d = check (not (list_all (is_key_among known) (keys_of d))) (policy_refusal UNKNOWN_KEY i 0)

-- ---- the name of an entry

abbrev pub name_of_entry : Data → Text
name_of_entry e = unwrap_or (read_at as_str key.Name e) []

-- ---- arrays of names

-- the number of the name that an element holds
abbrev pub number_named : List Text → Data → Option ℕ
number_named names d = option_and_then (place_of names) (as_str d)

abbrev pub numbers_of : List Text → List Data → List ℕ
numbers_of names ds = filter_map (number_named names) ds

-- an element must hold a known name; so many elements of the entry stand before its array
abbrev pub name_checks : List Text → ℕ → ℕ → List Data → Data → List (Option Refusal)
name_checks names i first before d = check (is_none (number_named names d)) (policy_refusal UNKNOWN_ENTRY_NAME i (first + length before + 1)) ∷ []
