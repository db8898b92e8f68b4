-- Looking for a name among files, one after another.
use Rattle.std.proofs.Common.{suc, ◌≡◌, ◌+◌, ◌<◌, ◌≤◌, ◌∙◌, ℕ, true, false, List, ◌∷◌, length, drop, get_or, Some, None, cond, sym, ap, refl, add-one, drop-cons, string_bytes}
use Rattle.std.specs.Ordering.{nat_cmp}
use Rattle.std.specs.Cmp.Lexicographic.{slice_cmp}
use Rattle.std.specs.Str.{bytes_eq}
use Rattle.std.specs.FinMap.{get, get-insert, get-empty}
use Rattle.std.proofs.lemmas.List.{drop_all}
use Rattle.std.proofs.lemmas.Cmp.{nat_list_cmp_total}
use Rattle.std.proofs.lemmas.Map.Text.{is_eq-slice_cmp}
use Rattle.rm_outside.specs.Kept.{files_of}
use Rattle.rm_outside.specs.declared.memory.NamedFile.{NamedFile}

at-front : (files : List NamedFile) (i : ℕ) (f : NamedFile) → i < length files → f ≡ get_or files i f → drop i files ≡ f ∷ drop (i + 1) files
at-front files i f h e = rw (add-one i) (drop-cons files i f h ∙ ap (λ g. g ∷ drop (suc i) files) (sym e))

-- the first file decides, if it has the name
first-decides : (f : NamedFile) (rest : List NamedFile) (name : List ℕ) → get (files_of (f ∷ rest)) name ≡ cond (bytes_eq name (string_bytes f.name)) (Some f.bytes.items) (get (files_of rest) name)
first-decides f rest name = get-insert nat_list_cmp_total (files_of rest) (string_bytes f.name) f.bytes.items name ∙ rw (is_eq-slice_cmp name (string_bytes f.name)) refl

pub found-here : (files : List NamedFile) (name : List ℕ) (i : ℕ) (f : NamedFile) → i < length files → f ≡ get_or files i f
    → bytes_eq name (string_bytes f.name) ≡ true → get (files_of (drop i files)) name ≡ Some f.bytes.items
found-here files name i f h e same = rw (at-front files i f h e) (first-decides f (drop (i + 1) files) name ∙ rw same refl)

pub passed-over : (files : List NamedFile) (name : List ℕ) (i : ℕ) (f : NamedFile) → i < length files → f ≡ get_or files i f
    → bytes_eq name (string_bytes f.name) ≡ false → get (files_of (drop i files)) name ≡ get (files_of (drop (i + 1) files)) name
passed-over files name i f h e other = rw (at-front files i f h e) (first-decides f (drop (i + 1) files) name ∙ rw other refl)

pub none-left : (files : List NamedFile) (name : List ℕ) (i : ℕ) → length files ≤ i → get (files_of (drop i files)) name ≡ None
none-left files name i h = rw (drop_all i files h) (get-empty (slice_cmp nat_cmp) name)
