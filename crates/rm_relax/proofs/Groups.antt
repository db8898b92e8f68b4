-- A group that is found by its name is one of the policy's.
use Rattle.std.proofs.Common.{◌≡◌, ◌+◌, ◌<◌, ℕ, List, length, take, drop, Option, Some, None, refl, arith}
use Rattle.std.specs.Prelude.{option_map, position}
use Rattle.std.specs.Option.{option_or}
use Rattle.std.specs.Str.{bytes_eq}
use Rattle.std.proofs.lemmas.List.{length-drop, length-take-le}
use Rattle.std.proofs.lemmas.List.Quantifiers.{position-Some}
use Rattle.rm_base.specs.Text.{Text}
use Rattle.rm_names.specs.Names.{place_of}
use Rattle.rm_policy.specs.Policy.{IsPolicy, PolicyData, entry_names, group_named}

place-low : (names : List Text) (name : Text) (k : ℕ) → place_of names name ≡ Some k → k < length names
place-low names name k e = (position-Some (bytes_eq name) names k name e).0

pub group-low : (p : PolicyData) (name : Text) (g : ℕ) → IsPolicy p → group_named p name ≡ Some g → g < length p.groups.members
group-low p name g ok = by (place_of others name) (place_of (entry_names p) name) (place-low others name) (place-low (entry_names p) name)
  where
    n : ℕ
    n = length p.orders

    others : List Text
    others = drop n p.groups.names

    first-long : length (entry_names p) ≡ n
    first-long = length-take-le n p.groups.names (omega (arith, ok.few_orders, ok.names_each))

    by : (o q : Option ℕ) → ((k : ℕ) → o ≡ Some k → k < length others) → ((k : ℕ) → q ≡ Some k → k < length (entry_names p))
        → option_or (option_map (λ k. length (entry_names p) + k) o) q ≡ Some g → g < length p.groups.members
    by (Some k) q low first is =
        let same : length (entry_names p) + k ≡ g = cc in
        omega (arith, same, low k refl, length-drop n p.groups.names, first-long, ok.few_orders, ok.names_each)
    by None q low first is = omega (arith, first g is, first-long, ok.few_orders)
