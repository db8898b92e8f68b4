-- What reading a part of a file answers.
use Rattle.std.specs.Prelude.{◌≡◌, ℕ, true, false, [], ◌∷◌, Option, Some, None, Result, Ok, Err}
use Rattle.rm_base.specs.Text.{Text}
use Rattle.rm_base.specs.declared.Refusal.{Refusal}
use Rattle.rm_ranks.specs.Built.{ListsTold, with_items}
use Rattle.rm_table.specs.Rows.{Row}
use Rattle.rm_roster.specs.Cells.{name_in, is_number, number}
use Rattle.rm_roster.specs.Hospitals.{prefecture_in, capacity_in, target_in, is_target}
use Rattle.rm_roster.specs.declared.hospitals.Hospital.{Hospital}

abbrev pub ReadsNumber : Text → Option ℕ → Type 0
ReadsNumber text (Some n) = (is_number text ≡ true) × (n ≡ number text)
ReadsNumber text None = is_number text ≡ false

abbrev pub ReadsTarget : Text → Option ℕ → Type 0
ReadsTarget text (Some n) = (is_target text ≡ true) × (n ≡ number text)
ReadsTarget text None = is_target text ≡ false

-- the hospital of a row that passes its checks, or their first refusal
abbrev pub ReadsHospital : Option Refusal → Row → Result Hospital Refusal → Type 0
ReadsHospital first row (Ok h) = (first ≡ None) × (h.name.now ≡ name_in row) × (h.prefecture.now ≡ prefecture_in row)
    × (h.capacity ≡ capacity_in row) × (h.target ≡ target_in row)
ReadsHospital first row (Err refusal) = first ≡ Some refusal

-- lists with an item more, if there is one
abbrev pub with_item : ListsTold → Option ℕ → ListsTold
with_item lists None = lists
with_item lists (Some n) = with_items lists (n ∷ [])
