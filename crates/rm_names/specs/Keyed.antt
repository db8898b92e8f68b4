-- Names that are found by keys.
use Rattle.std.specs.Prelude.{◌≡◌, ◌≢◌, ◌⊎◌, ℕ, ◌<◌, ◌≤◌, ◌==◌, true, false, List, [], length, get_or, slice_get, Option, Some, None, Contains}
use Rattle.std.specs.List.{IsDistinct, list_any}
use Rattle.std.specs.Str.{is_utf8}
use Rattle.rm_base.specs.Text.{Text}
use Rattle.rm_names.specs.Names.{AreDistinct}
use Rattle.rm_names.specs.Keys.{AreBytes, key_of, spare_key}

-- name n has its own key, or it is long, has the spare key of n, and n is listed
abbrev pub IsKeyed : Text → ℕ → ℕ → List ℕ → Type 0
IsKeyed name key n others = (key ≡ key_of name) ⊎ ((7 < length name) × (key ≡ spare_key n) × Contains others n)

-- distinct names, each with a key, which is no other's
pub record AreKeyed (names : List Text) (keys others : List ℕ) : Type 0 where
  pub few : length names ≤ 4000000000
  pub distinct : AreDistinct names
  pub text : (n : ℕ) → n < length names → is_utf8 (get_or names n []) ≡ true
  pub bytes : (n : ℕ) → n < length names → AreBytes (get_or names n [])
  pub as_many : length keys ≡ length names
  pub apart : IsDistinct ◌==◌ keys
  pub keyed : (n : ℕ) → n < length names → IsKeyed (get_or names n []) (get_or keys n 0) n others

-- of some numbers one whose name is this text, or none has it
abbrev pub FindsAmong : List Text → List ℕ → Text → Option ℕ → Type 0
FindsAmong names numbers text (Some n) = slice_get names n ≡ Some text
FindsAmong names numbers text None = (n : ℕ) → Contains numbers n → slice_get names n ≢ Some text

-- the key under which name n is kept: its own, or where another has that, the spare one, and n is listed
abbrev pub IsKept : List ℕ → ℕ → ℕ → List ℕ → ℕ → Type 0
IsKept keys key n others kept =
    ((kept ≡ key) × (list_any (λ k. key == k) keys ≡ false)) ⊎ ((kept ≡ spare_key n) × (list_any (λ k. key == k) keys ≡ true) × Contains others n)
