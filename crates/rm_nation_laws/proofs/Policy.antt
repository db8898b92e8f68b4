-- A nation's policy passes its checks.
use Rattle.std.proofs.Common.{◌≡◌, ◌∙◌, ◌<◌, ◌+◌, nat_lt, nat_le, ℕ, true, false, List, [], ◌∷◌, map, length, codes, Some, None, refl, sym, ap, subst, arith}
use Rattle.std.specs.List.{list_all}
use Rattle.std.proofs.lemmas.Bool.{le-leb}
use Rattle.std.proofs.lemmas.Bool.Decides.{nat_tests}
use Rattle.std.proofs.lemmas.List.FromFn.{length-map-range_with_len}
use Rattle.toml.specs.Data.{Data, table}
use Rattle.toml.specs.View.{items_of}
use Rattle.rm_sets.specs.Sets.{below}
use Rattle.rm_base.specs.Checks.{checks_from, checks_of, first_of}
use Rattle.rm_base.specs.Text.{Text}
use Rattle.rm_base.specs.declared.codes.TheConstants.{GREATEST_CAP, MOST_GROUPS}
use Rattle.rm_base.proofs.CheckLemmas.{first-none}
use Rattle.rm_names.specs.Names.{place_of}
use Rattle.rm_roster.specs.Roster.{RosterData}
use Rattle.rm_policy.specs.Entries.{name_of_entry}
use Rattle.rm_policy.specs.Policy.{entry_checks, policy_checks}
use Rattle.rm_policy.specs.Prefectures.{prefecture_checks_after, targets_of}
use Rattle.rm_policy.specs.Top.{prefecture_entries, top_checks}
use Rattle.rm_policy.specs.Values.{data_in, document_of, has_shape}
use Rattle.rm_policy.specs.declared.Kind.TheVariants as kinds
use Rattle.rm_policy.specs.declared.values.Shape.TheVariants as shape
use Rattle.rm_drill_laws.specs.Numbered.{names_up_to, numbered}
use Rattle.rm_drill_laws.proofs.Names.{are_placed}
use Rattle.rm_drill.specs.Files.{cap, policy_text, prefecture_name}
use Rattle.rm_drill.specs.Hospitals.{prefecture_count}
use Rattle.rm_nation_laws.specs.Document.{entries_data, entry_data, policy_members}
use Rattle.rm_nation_laws.specs.Policy.{SuitsNation}
use Rattle.rm_nation_laws.proofs.Below.{below-pass, map-map, names-below}
use Rattle.rm_nation_laws.proofs.Printed.{read_back}

data_back : (ds : List Data) → data_in (items_of ds) ≡ ds
data_back [] = refl
data_back (d ∷ ds) = ap (λ (es : List Data). d ∷ es) (data_back ds)

module _ (capacities targets : List ℕ) where
  abbrev entry : ℕ → Data
  entry = entry_data capacities targets

  shapes : (qs : List ℕ) → list_all (has_shape shape.Table) (map entry qs) ≡ true
  shapes [] = refl
  shapes (q ∷ qs) = shapes qs

  module _ (qs : List ℕ) where
    abbrev document : Data
    document = table (policy_members (map entry qs))

    top_passes : first_of (top_checks document) ≡ None
    top_passes = rw (data_back (map entry qs), shapes qs) refl

    pub entries_are : prefecture_entries document ≡ map entry qs
    entries_are = rw (data_back (map entry qs), shapes qs) refl

  names_are : (n : ℕ) → map name_of_entry (entries_data capacities targets n) ≡ names_up_to (codes "P") 2 n
  names_are n = map-map name_of_entry entry (below n) ∙ names-below (codes "P") 2 n

  module _ (r : RosterData) (suits : SuitsNation capacities targets r) where
    entry_passes : (q : ℕ) → q < 47 → first_of (prefecture_checks_after r kinds.Flexible (map entry (below q)) (entry q)) ≡ None
    entry_passes q few =
        let c : ℕ = cap capacities targets q in
        let names : List Text = names_up_to (codes "P") 2 q in
        let count : length names ≡ q = length-map-range_with_len (λ i. numbered (codes "P") 2 (i + 1)) 0 q in
        let limit : nat_lt MOST_GROUPS (length names + 1) ≡ false = grind (arith, nat_tests) in
        let most : nat_le c GREATEST_CAP ≡ true = le-leb c GREATEST_CAP (suits.caps q) in
        let found : place_of r.prefectures (prefecture_name q) ≡ Some q = rw suits.prefectures ((are_placed (codes "P") 2 47 (omega arith)).placed q few) in
        let new : place_of names (prefecture_name q) ≡ None = (are_placed (codes "P") 2 q (omega (arith, few))).new q (omega arith) (omega (arith, few)) in
        let fits : nat_lt c (targets_of r q) ≡ false = grind (arith, nat_tests, suits.fit q) in
        rw (names_are q, limit, most, found, new, fits) refl

    pub policy_passes : first_of (policy_checks r (document_of (policy_text capacities targets))) ≡ None
    unfolding checks_from
    policy_passes =
        let d : Data = document (below prefecture_count) in
        let entries : List Data = map entry (below prefecture_count) in
        let each = below-pass (prefecture_checks_after r kinds.Flexible) entry prefecture_count entry_passes in
        rw (read_back capacities targets suits.caps)
        (first-none (top_checks d) (entry_checks r kinds.Flexible (prefecture_entries d) [] []) (top_passes (below prefecture_count))
        ∙ subst (λ (ds : List Data). first_of (entry_checks r kinds.Flexible ds [] []) ≡ None) (sym (entries_are (below prefecture_count)))
        (first-none (checks_of (prefecture_checks_after r kinds.Flexible) entries) [] each))
