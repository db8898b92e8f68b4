-- The entry of a prefecture.
use Rattle.std.proofs.Common.{◌≡◌, ◌∙◌, ◌<◌, ℕ, List, length, [], get_or, take, Option, Some, ap, sym, arith}
use Rattle.std.specs.Prelude.{slice_get}
use Rattle.std.specs.Str.{bytes_eq}
use Rattle.std.proofs.lemmas.List.{get_or-take, length-take}
use Rattle.std.proofs.lemmas.List.Quantifiers.{position-Some}
use Rattle.std.proofs.lemmas.Option.{get_or_from_slice_get, slice_get-get_or}
use Rattle.std.proofs.lemmas.Slice.Eq.{bytes_eq-Decides}
use Rattle.rm_base.specs.Text.{Text}
use Rattle.rm_names.specs.Names.{place_of}
use Rattle.rm_policy.specs.Policy.{PolicyData, entry_names}
use Rattle.rm_roster.specs.Roster.{RosterData, IsRoster}
use Rattle.rm_case.specs.Compiled.{entry_of_prefecture}

pub some_same : (a b : ℕ) → Some a ≡ Some b → a ≡ b
some_same a b e = cc

-- an entry of a prefecture has its name, and so the name's prefecture
pub entry_named : (r : RosterData) (p : PolicyData) (q g : ℕ) → entry_of_prefecture r p q ≡ Some g → (g < length p.orders) × (get_or p.groups.names g [] ≡ get_or r.prefectures q [])
entry_named r p q g e =
    let names = take (length p.orders) p.groups.names in
    let at = position-Some (bytes_eq (get_or r.prefectures q [])) names g [] e in
    let lt : g < length p.orders = omega (arith, at.0, length-take (length p.orders) p.groups.names) in
    (lt, sym (get_or-take (length p.orders) p.groups.names g [] lt) ∙ sym ((bytes_eq-Decides (get_or r.prefectures q []) (get_or names g [])).0 at.1))

pub names_prefecture : (r : RosterData) (p : PolicyData) (q g : ℕ) → IsRoster r → q < length r.prefectures → entry_of_prefecture r p q ≡ Some g → place_of r.prefectures (get_or p.groups.names g []) ≡ Some q
names_prefecture r p q g roster lt e =
    let named = entry_named r p q g e in
    rw named.1 (roster.prefectures.found q (get_or r.prefectures q []) (slice_get-get_or r.prefectures q [] lt))

-- the entry of a prefecture, found by its name
pub entry-found : (r : RosterData) (p : PolicyData) (q : ℕ) (names : List Text) (name : Text) (o : Option ℕ) → names ≡ r.prefectures → slice_get names q ≡ Some name → o ≡ place_of (entry_names p) name → entry_of_prefecture r p q ≡ o
entry-found r p q names name o same at found =
    let named : get_or r.prefectures q [] ≡ name = get_or_from_slice_get r.prefectures q name [] (rw same at at) in
    ap (λ (t : Text). place_of (entry_names p) t) named ∙ sym found
