-- The document of a text, and the policy of a document.
use Rattle.std.proofs.Common.{◌≡◌, ◌∙◌, ◌+◌, ◌≤◌, ℕ, ℤ, Bool, true, false, zero, suc, cond, List, [], ◌∷◌, ◌++◌, length, map, fold, take, Option, Some, None, Ok, Err, option_map, IsUtf8, All, pos, refl, sym, ap, subst, arith, length-append}
use Rattle.std.proofs.lemmas.List.Elements.{All-replicate}
use Rattle.std.specs.Str.{is_utf8}
use Rattle.std.proofs.lemmas.List.{length-map, take-append-le, take_all}
use Rattle.std.proofs.lemmas.Str.{IsUtf8-from_is_utf8, is_utf8-from_IsUtf8}
use Rattle.toml.specs.Data.{Data, Members, table}
use Rattle.toml.specs.Parse.{parse_document}
use Rattle.rm_base.specs.Checks.{first_of}
use Rattle.rm_base.specs.Text.{Text}
use Rattle.rm_base.specs.declared.Refusal.{Refusal}
use Rattle.rm_base.proofs.CheckLemmas.{first-none, first-some}
use Rattle.rm_roster.specs.Roster.{RosterData}
use Rattle.rm_market.specs.declared.ListedPair.{ListedPair}
use Rattle.rm_policy.specs.Entries.{elements_at, is_present, name_of_entry}
use Rattle.rm_policy.specs.Groups.{GroupsData, PrefecturesData, groups_of, groups_joined, members_of_group, no_groups, prefectures_of, steps_of_group, with_group}
use Rattle.rm_base.specs.Reading.{Stops}
use Rattle.rm_base.specs.declared.ReadFault.{ReadFault}
use Rattle.rm_base.specs.declared.ReadFault.TheVariants as fault
use Rattle.rm_policy.specs.Policy.{PolicyData, CapsAreFlat, IsPolicy, ReadsDocument, ReadsPolicy, entry_checks, listed_pairs, policy_checks, policy_of}
use Rattle.rm_policy.specs.Top.{group_entries, hospital_entries, kind_in, prefecture_entries, ties_in, top_checks}
use Rattle.rm_policy.specs.Prefectures.{members_of_prefecture, order_in}
use Rattle.rm_policy.specs.Steps.{cap_in, flat}
use Rattle.rm_policy.specs.Hospitals.{hospital_steps_of}
use Rattle.rm_policy.specs.Values.{document_of, pairs}
use Rattle.rm_policy.specs.declared.Kind.{Kind}
use Rattle.rm_policy.specs.declared.Ties.{Ties}
use Rattle.rm_policy.specs.declared.keys.Key.TheVariants as key

pub document-some : (bytes : List ℕ) (ms : Members) → IsUtf8 bytes → parse_document bytes ≡ Some ms → document_of bytes ≡ Some (table ms)
unfolding document_of
document-some bytes ms u p = rw (is_utf8-from_IsUtf8 bytes u, p) refl

none-either : (bytes : List ℕ) (b : Bool) → is_utf8 bytes ≡ b → (IsUtf8 bytes → parse_document bytes ≡ None) → cond b (option_map table (parse_document bytes)) None ≡ None
none-either bytes true e none = rw (none (IsUtf8-from_is_utf8 bytes e)) refl
none-either bytes false e none = refl

pub document-none : (bytes : List ℕ) → (IsUtf8 bytes → parse_document bytes ≡ None) → document_of bytes ≡ None
unfolding document_of
document-none bytes none = none-either bytes (is_utf8 bytes) refl none

-- ---- the groups are as many by their names, hospitals and steps

pub record AreEven (n : ℕ) (g : GroupsData) : Type 0 where
  pub names : length g.names ≡ n
  pub members : length g.members ≡ n
  pub steps : length g.steps ≡ n
  pub by_cap : length g.by_cap ≡ n

with_group-even : (r : RosterData) (n : ℕ) (g : GroupsData) (d : Data) → AreEven n g → AreEven (n + 1) (with_group r g d)
with_group-even r n g d e = record {
  names = omega (arith, length-append g.names (name_of_entry d ∷ []), e.names);
  members = omega (arith, length-append g.members (members_of_group r g d ∷ []), e.members);
  steps = omega (arith, length-append g.steps (steps_of_group d ∷ []), e.steps);
  by_cap = omega (arith, length-append g.by_cap (is_present key.Cap d ∷ []), e.by_cap);
}

groups-even-from : (r : RosterData) (n : ℕ) (g : GroupsData) (ds : List Data) → AreEven n g → AreEven (n + length ds) (fold (with_group r) g ds)
groups-even-from r n g [] e = record { names = omega (arith, e.names); members = omega (arith, e.members); steps = omega (arith, e.steps); by_cap = omega (arith, e.by_cap) }
groups-even-from r n g (d ∷ ds) e =
    let more = groups-even-from r (n + 1) (with_group r g d) ds (with_group-even r n g d e) in
    record { names = omega (arith, more.names); members = omega (arith, more.members); steps = omega (arith, more.steps); by_cap = omega (arith, more.by_cap) }

groups-even : (r : RosterData) (ds : List Data) → AreEven (length ds) (groups_of r ds)
groups-even r ds =
    let all = groups-even-from r 0 no_groups ds (record { names = refl; members = refl; steps = refl; by_cap = refl }) in
    record { names = omega (arith, all.names); members = omega (arith, all.members); steps = omega (arith, all.steps); by_cap = omega (arith, all.by_cap) }

-- ---- the groups that are given by `cap` have steps of 0

caps-none : CapsAreFlat [] []
caps-none g is = absurd (cc is)

caps-append : (bs cs : List Bool) (ss ts : List (List ℤ)) → length bs ≡ length ss → CapsAreFlat bs ss → CapsAreFlat cs ts → CapsAreFlat (bs ++ cs) (ss ++ ts)
caps-append [] cs [] ts e front back g is = back g is
caps-append [] cs (s ∷ ss) ts e front back g is = absurd (omega (arith, e))
caps-append (b ∷ bs) cs [] ts e front back g is = absurd (omega (arith, e))
caps-append (b ∷ bs) cs (s ∷ ss) ts e front back zero is = front 0 is
caps-append (b ∷ bs) cs (s ∷ ss) ts e front back (suc g) is = caps-append bs cs ss ts (omega (arith, e)) (λ k. front (suc k)) back g is

flat-zero : (n : ℕ) → All (λ z. z ≡ pos 0) (flat n)
flat-zero n = All-replicate (λ z. z ≡ pos 0) n (pos 0) refl

one-cap : (b : Bool) (s : List ℤ) → (b ≡ true → All (λ z. z ≡ pos 0) s) → CapsAreFlat (b ∷ []) (s ∷ [])
one-cap b s zeros zero is = zeros is
one-cap b s zeros (suc g) is = absurd (cc is)

prefecture-caps : (ds : List Data) → CapsAreFlat (map (λ _. true) ds) (map (λ e. flat (cap_in e)) ds)
prefecture-caps [] g is = absurd (cc is)
prefecture-caps (d ∷ ds) zero is = flat-zero (cap_in d)
prefecture-caps (d ∷ ds) (suc g) is = prefecture-caps ds g is

group-caps-from : (r : RosterData) (g : GroupsData) (ds : List Data) → length g.by_cap ≡ length g.steps → CapsAreFlat g.by_cap g.steps → CapsAreFlat (fold (with_group r) g ds).by_cap (fold (with_group r) g ds).steps
group-caps-from r g [] even caps = caps
group-caps-from r g (d ∷ ds) even caps =
    group-caps-from r (with_group r g d) ds (omega (arith, even, length-append g.by_cap (is_present key.Cap d ∷ []), length-append g.steps (steps_of_group d ∷ [])))
    (caps-append g.by_cap (is_present key.Cap d ∷ []) g.steps (steps_of_group d ∷ []) even caps
    (one-cap (is_present key.Cap d) (steps_of_group d) (λ is. rw is (flat-zero (cap_in d)))))

-- whatever the entries are, those with a cap are flat
caps-flat : (r : RosterData) (ps gs : List Data) (all : GroupsData) → all ≡ groups_joined (prefectures_of r ps).groups (groups_of r gs) → CapsAreFlat all.by_cap all.steps
caps-flat r ps gs all is =
    subst (λ (g : GroupsData). CapsAreFlat g.by_cap g.steps) (sym is)
    (caps-append (map (λ _. true) ps) (groups_of r gs).by_cap (map (λ e. flat (cap_in e)) ps) (groups_of r gs).steps
    (length-map ps (λ _. true) ∙ sym (length-map ps (λ e. flat (cap_in e)))) (prefecture-caps ps) (group-caps-from r no_groups gs refl caps-none))

pub policy-even : (r : RosterData) (ps gs : List Data) (p : PolicyData) → p.groups ≡ groups_joined (prefectures_of r ps).groups (groups_of r gs) → p.orders ≡ (prefectures_of r ps).orders → length ps + length gs ≤ 5000 → IsPolicy p
policy-even r ps gs p groups orders few =
    let g = groups_of r gs in
    let even = groups-even r gs in
    let names : length p.groups.names ≡ length ps + length gs = ap (λ (q : GroupsData). length q.names) groups ∙ length-append (map name_of_entry ps) g.names ∙ rw (length-map ps name_of_entry, even.names) refl in
    let members : length p.groups.members ≡ length ps + length gs = ap (λ (q : GroupsData). length q.members) groups ∙ length-append (map (members_of_prefecture r) ps) g.members ∙ rw (length-map ps (members_of_prefecture r), even.members) refl in
    let steps : length p.groups.steps ≡ length ps + length gs = ap (λ (q : GroupsData). length q.steps) groups ∙ length-append (map (λ e. flat (cap_in e)) ps) g.steps ∙ rw (length-map ps (λ e. flat (cap_in e)), even.steps) refl in
    let by_cap : length p.groups.by_cap ≡ length ps + length gs = ap (λ (q : GroupsData). length q.by_cap) groups ∙ length-append (map (λ _. true) ps) g.by_cap ∙ rw (length-map ps (λ _. true), even.by_cap) refl in
    let order_count : length p.orders ≡ length ps = ap length orders ∙ length-map ps (order_in r) in
    record { names_each = names ∙ sym members; steps_each = steps ∙ sym members; few_groups = omega (arith, members, few); few_orders = omega (arith, members, order_count); by_cap_each = by_cap ∙ sym members; caps_flat = caps-flat r ps gs p.groups groups }

-- ---- the checks of a document

pub top-stops : (r : RosterData) (d : Data) (refusal : Refusal) → first_of (top_checks d) ≡ Some refusal → first_of (policy_checks r (Some d)) ≡ Some refusal
top-stops r d refusal some = first-some (top_checks d) (entry_checks r (kind_in d) (prefecture_entries d) (group_entries d) (hospital_entries d)) refusal some

pub entries-decide : (r : RosterData) (d : Data) → first_of (top_checks d) ≡ None → first_of (policy_checks r (Some d)) ≡ first_of (entry_checks r (kind_in d) (prefecture_entries d) (group_entries d) (hospital_entries d))
entries-decide r d none = first-none (top_checks d) (entry_checks r (kind_in d) (prefecture_entries d) (group_entries d) (hospital_entries d)) none

pub document-fault : (r : RosterData) (document : Option Data) (e : ReadFault) → ReadsDocument document (Err e) → Stops (first_of (policy_checks r document)) e
document-fault r document (fault.Refused refusal) h = rw (h.0, h.1) refl
document-fault r document fault.NoMemory h = tt

pub policy-fault : (r : RosterData) (document : Option Data) (d : Data) (e : ReadFault) → document ≡ Some d → Stops (first_of (policy_checks r (Some d))) e → Stops (first_of (policy_checks r document)) e
policy-fault r document d e is h = rw is h

pub policy-told : (r : RosterData) (document : Option Data) (d : Data) (told : PolicyData) → document ≡ Some d → first_of (policy_checks r (Some d)) ≡ None → told ≡ policy_of r d → ReadsPolicy r document (Ok told)
policy-told r document d told is none same = (rw is none, d, is, same)

-- ---- what a document says

pub groups-groups_joined : (r : RosterData) (ps gs : List Data) (all parts : GroupsData) (prefectures : PrefecturesData) (groups : GroupsData) → all ≡ groups_joined parts groups → parts ≡ prefectures.groups → prefectures ≡ prefectures_of r ps → groups ≡ groups_of r gs
    → all ≡ groups_joined (prefectures_of r ps).groups (groups_of r gs)
groups-groups_joined r ps gs all parts prefectures groups is parts_are prefectures_are groups_are =
    is ∙ ap (λ (g : GroupsData). groups_joined g groups) (parts_are ∙ ap (λ (p : PrefecturesData). p.groups) prefectures_are) ∙ ap (λ (g : GroupsData). groups_joined (prefectures_of r ps).groups g) groups_are

pub orders-told : (r : RosterData) (ps : List Data) (orders : List (Option (List ℕ))) (prefectures : PrefecturesData) → orders ≡ prefectures.orders → prefectures ≡ prefectures_of r ps → orders ≡ (prefectures_of r ps).orders
orders-told r ps orders prefectures is prefectures_are = is ∙ ap (λ (p : PrefecturesData). p.orders) prefectures_are

-- the names of the prefecture entries come first
pub entries-told : (r : RosterData) (ps gs : List Data) (g : GroupsData) (all : List (Option (List ℕ))) (entries : List Text) → g ≡ groups_joined (prefectures_of r ps).groups (groups_of r gs) → entries ≡ map name_of_entry ps → all ≡ (prefectures_of r ps).orders
    → entries ≡ take (length all) g.names
entries-told r ps gs g all entries groups told orders =
    let names = map name_of_entry ps in
    let count : length all ≡ length names = ap length orders ∙ length-map ps (order_in r) ∙ sym (length-map ps name_of_entry) in
    rw (told, groups, count) (sym (take-append-le (length names) names (groups_of r gs).names (omega arith) ∙ take_all (length names) names (omega arith)))

pub policy-is : (r : RosterData) (d : Data) (kind : Kind) (ties : Ties) (listed : List ListedPair) (groups : GroupsData) (orders : List (Option (List ℕ))) (steps : List (Option (List ℤ))) → kind ≡ kind_in d → ties ≡ ties_in d
    → listed ≡ listed_pairs r (elements_at pairs key.Listed d) → groups ≡ groups_joined (prefectures_of r (prefecture_entries d)).groups (groups_of r (group_entries d)) → orders ≡ (prefectures_of r (prefecture_entries d)).orders
    → steps ≡ hospital_steps_of r (hospital_entries d) → record { kind = kind; ties = ties; listed = listed; groups = groups; orders = orders; hospital_steps = steps } ≡ policy_of r d
policy-is r d kind ties listed groups orders steps kind_is ties_is listed_is groups_are orders_are steps_are = rw (kind_is, ties_is, listed_is, groups_are, orders_are, steps_are) refl
