-- The checks of an entry, block by block.
use Rattle.std.proofs.Common.{◌≡◌, ◌∙◌, ◌+◌, ◌&&◌, ℕ, Bool, true, false, List, [], ◌∷◌, ◌++◌, length, Option, Some, None, option_map, refl, sym, ap}
use Rattle.std.specs.Prelude.{nat_lt, if◌then◌else◌}
use Rattle.toml.specs.Data.{Data}
use Rattle.rm_base.specs.Checks.{check, checks_from, first_of}
use Rattle.rm_market.specs.Steps.{step_fault}
use Rattle.rm_names.specs.Names.{place_of}
use Rattle.rm_base.specs.Text.{Text}
use Rattle.rm_base.specs.Reading.{Stops}
use Rattle.rm_base.specs.declared.ReadFault.{ReadFault}
use Rattle.rm_base.specs.declared.Refusal.{Refusal}
use Rattle.rm_base.specs.declared.codes.TheConstants.{REPEATED_ENTRY, TARGETS_ABOVE_CAP}
use Rattle.rm_base.proofs.CheckLemmas.{first-none, first-some}
use Rattle.rm_base.proofs.Stopping.{stops-on}
use Rattle.rm_roster.specs.Roster.{RosterData}
use Rattle.rm_policy.specs.Entries.{policy_refusal, name_of_entry, read_at}
use Rattle.rm_policy.specs.Prefectures.{order_checks, prefecture_checks, prefecture_name_checks, prefecture_shape_checks, prefecture_of_entry, targets_check, targets_of}
use Rattle.rm_policy.specs.Groups.{group_element_checks, group_entry_checks, group_name_checks, group_shape_checks, groups_named, hospitals_named, prefectures_named}
use Rattle.rm_policy.specs.Steps.{cap_in, runs_in, step_checks}
use Rattle.rm_policy.specs.Top.{is_flexible}
use Rattle.rm_policy.specs.Values.{texts}
use Rattle.rm_policy.specs.declared.Kind.{Kind}
use Rattle.rm_policy.specs.declared.keys.Key.TheVariants as key

abbrev pub Checks : Type 0
Checks = List (Option Refusal)

-- ---- four blocks, of which the first ones find nothing

pub both-pass : (a b : Checks) → first_of a ≡ None → first_of b ≡ None → first_of (a ++ b) ≡ None
both-pass a b x y = first-none a b x ∙ y

pub second-stops : (a b c d : Checks) (f : Refusal) → first_of a ≡ None → first_of b ≡ Some f → first_of (a ++ b ++ c ++ d) ≡ Some f
second-stops a b c d f x y = first-some (a ++ b ++ c) d f (first-some (a ++ b) c f (first-none a b x ∙ y))

pub third-stops : (a b c d : Checks) (f : Refusal) → first_of a ≡ None → first_of b ≡ None → first_of c ≡ Some f → first_of (a ++ b ++ c ++ d) ≡ Some f
third-stops a b c d f x y z = first-some (a ++ b ++ c) d f (first-none (a ++ b) c (both-pass a b x y) ∙ z)

pub fourth-decides : (a b c d : Checks) → first_of a ≡ None → first_of b ≡ None → first_of c ≡ None → first_of (a ++ b ++ c ++ d) ≡ first_of d
fourth-decides a b c d x y z = first-none (a ++ b ++ c) d (both-pass (a ++ b) c (both-pass a b x y) z)

-- ---- prefectures

prefecture-third : (r : RosterData) (kind : Kind) (names : List Text) (d : Data) (p : ℕ) (refusal : Refusal) → first_of (prefecture_shape_checks (length names + 1) d) ≡ None
    → first_of (prefecture_name_checks r.prefectures names (length names + 1) (name_of_entry d)) ≡ None → place_of r.prefectures (name_of_entry d) ≡ Some p
    → first_of (order_checks r (length names + 1) p (read_at texts key.Order d)) ≡ Some refusal → first_of (prefecture_checks r kind names d) ≡ Some refusal
prefecture-third r kind names d p refusal shape named found some =
    let i = length names + 1 in
    let same : prefecture_of_entry r d ≡ p = rw found refl in
    third-stops (prefecture_shape_checks i d) (prefecture_name_checks r.prefectures names i (name_of_entry d)) (order_checks r i (prefecture_of_entry r d) (read_at texts key.Order d))
    (targets_check r kind i (prefecture_of_entry r d) (cap_in d) ∷ []) refusal shape named (ap (λ (q : ℕ). first_of (order_checks r i q (read_at texts key.Order d))) same ∙ some)

prefecture-fourth : (r : RosterData) (kind : Kind) (names : List Text) (d : Data) (p : ℕ) → first_of (prefecture_shape_checks (length names + 1) d) ≡ None
    → first_of (prefecture_name_checks r.prefectures names (length names + 1) (name_of_entry d)) ≡ None → place_of r.prefectures (name_of_entry d) ≡ Some p
    → first_of (order_checks r (length names + 1) p (read_at texts key.Order d)) ≡ None → first_of (prefecture_checks r kind names d) ≡ first_of (targets_check r kind (length names + 1) p (cap_in d) ∷ [])
prefecture-fourth r kind names d p shape named found none =
    let i = length names + 1 in
    let same : prefecture_of_entry r d ≡ p = rw found refl in
    fourth-decides (prefecture_shape_checks i d) (prefecture_name_checks r.prefectures names i (name_of_entry d)) (order_checks r i (prefecture_of_entry r d) (read_at texts key.Order d))
    (targets_check r kind i (prefecture_of_entry r d) (cap_in d) ∷ []) shape named (ap (λ (q : ℕ). first_of (order_checks r i q (read_at texts key.Order d))) same ∙ none)
    ∙ ap (λ (q : ℕ). first_of (targets_check r kind i q (cap_in d) ∷ [])) same

-- where item i is the next one, an order stops, or the targets decide
pub prefecture-order-stops : (r : RosterData) (kind : Kind) (names : List Text) (d : Data) (i p : ℕ) (refusal : Refusal) → i ≡ length names + 1 → first_of (prefecture_shape_checks i d) ≡ None
    → first_of (prefecture_name_checks r.prefectures names i (name_of_entry d)) ≡ None → place_of r.prefectures (name_of_entry d) ≡ Some p
    → first_of (order_checks r i p (read_at texts key.Order d)) ≡ Some refusal → first_of (prefecture_checks r kind names d) ≡ Some refusal
prefecture-order-stops r kind names d i p refusal e shape named found some = prefecture-third r kind names d p refusal (rw e at shape) (rw e at named) found (rw e at some)

pub prefecture-last : (r : RosterData) (kind : Kind) (names : List Text) (d : Data) (i p : ℕ) → i ≡ length names + 1 → first_of (prefecture_shape_checks i d) ≡ None
    → first_of (prefecture_name_checks r.prefectures names i (name_of_entry d)) ≡ None → place_of r.prefectures (name_of_entry d) ≡ Some p
    → first_of (order_checks r i p (read_at texts key.Order d)) ≡ None → first_of (prefecture_checks r kind names d) ≡ first_of (targets_check r kind i p (cap_in d) ∷ [])
prefecture-last r kind names d i p e shape named found none =
    prefecture-fourth r kind names d p (rw e at shape) (rw e at named) found (rw e at none) ∙ ap (λ (n : ℕ). first_of (targets_check r kind n p (cap_in d) ∷ [])) (sym e)

abbrev pub where_set : Bool → ℕ → Option ℕ
where_set b n = if b then Some n else None

exceeds : (b : Bool) (i t x : ℕ) → Some x ≡ where_set b t → first_of (check b (policy_refusal TARGETS_ABOVE_CAP i t) ∷ []) ≡ Some (policy_refusal TARGETS_ABOVE_CAP i x)
exceeds true i t x e = ap (λ (o : Option ℕ). option_map (λ n. policy_refusal TARGETS_ABOVE_CAP i n) o) (sym e)
exceeds false i t x e = absurd (cc)

fits-under : (b : Bool) (t : ℕ) (f : Refusal) → None ≡ where_set b t → first_of (check b f ∷ []) ≡ None
fits-under true t f e = absurd (cc)
fits-under false t f e = refl

pub targets-stop : (r : RosterData) (kind : Kind) (i p cap x : ℕ) (refusal : Refusal) → Some x ≡ where_set (is_flexible kind && nat_lt cap (targets_of r p)) (targets_of r p) → refusal ≡ policy_refusal TARGETS_ABOVE_CAP i x
    → first_of (targets_check r kind i p cap ∷ []) ≡ Some refusal
targets-stop r kind i p cap x refusal e is = exceeds (is_flexible kind && nat_lt cap (targets_of r p)) i (targets_of r p) x e ∙ ap (λ (f : Refusal). Some f) (sym is)

pub targets-pass : (r : RosterData) (kind : Kind) (i p cap : ℕ) → None ≡ where_set (is_flexible kind && nat_lt cap (targets_of r p)) (targets_of r p) → first_of (targets_check r kind i p cap ∷ []) ≡ None
targets-pass r kind i p cap e = fits-under (is_flexible kind && nat_lt cap (targets_of r p)) (targets_of r p) (policy_refusal TARGETS_ABOVE_CAP i (targets_of r p)) e

-- ---- steps

pub no_runs : step_fault [] ≡ None
unfolding step_fault checks_from
no_runs = refl

-- ---- groups

-- three blocks
pub three-first : (a b c : Checks) (f : Refusal) → first_of a ≡ Some f → first_of (a ++ b ++ c) ≡ Some f
three-first a b c f x = first-some (a ++ b) c f (first-some a b f x)

pub three-second : (a b c : Checks) (f : Refusal) → first_of a ≡ None → first_of b ≡ Some f → first_of (a ++ b ++ c) ≡ Some f
three-second a b c f x y = first-some (a ++ b) c f (first-none a b x ∙ y)

pub three-third : (a b c : Checks) → first_of a ≡ None → first_of b ≡ None → first_of (a ++ b ++ c) ≡ first_of c
three-third a b c x y = first-none (a ++ b) c (both-pass a b x y)

pub record Blocks : Type 0 where
  pub one : Checks
  pub two : Checks
  pub three : Checks

-- where reading one of them stops, after those before it
pub stops-first : (b : Blocks) (e : ReadFault) → Stops (first_of b.one) e → Stops (first_of (b.one ++ b.two ++ b.three)) e
stops-first b e h = stops-on (first_of b.one) (first_of (b.one ++ b.two ++ b.three)) e (λ refusal some. three-first b.one b.two b.three refusal some) h

pub stops-second : (b : Blocks) (e : ReadFault) → first_of b.one ≡ None → Stops (first_of b.two) e → Stops (first_of (b.one ++ b.two ++ b.three)) e
stops-second b e x h = stops-on (first_of b.two) (first_of (b.one ++ b.two ++ b.three)) e (λ refusal some. three-second b.one b.two b.three refusal x some) h

pub stops-third : (b : Blocks) (e : ReadFault) → first_of b.one ≡ None → first_of b.two ≡ None → Stops (first_of b.three) e → Stops (first_of (b.one ++ b.two ++ b.three)) e
stops-third b e x y h = stops-on (first_of b.three) (first_of (b.one ++ b.two ++ b.three)) e (λ refusal some. three-third b.one b.two b.three x y ∙ some) h

pub name-repeated : (first : ℕ) (names : List Text) (i f : ℕ) (name : Text) (refusal : Refusal) → Some f ≡ place_of names name → refusal ≡ policy_refusal REPEATED_ENTRY i (first + f + 1) → first_of (group_name_checks first names i name) ≡ Some refusal
name-repeated first names i f name refusal found is = rw (← found, is) refl

pub name-new : (first : ℕ) (names : List Text) (i : ℕ) (name : Text) → None ≡ place_of names name → first_of (group_name_checks first names i name) ≡ None
name-new first names i name found = rw (← found) refl

pub group-second : (r : RosterData) (first : ℕ) (names : List Text) (d : Data) (i : ℕ) (refusal : Refusal) → i ≡ first + length names + 1 → first_of (group_shape_checks i d) ≡ None
    → first_of (group_name_checks first names i (name_of_entry d)) ≡ Some refusal → first_of (group_entry_checks r first names d) ≡ Some refusal
group-second r first names d i refusal e shape some =
    rw (← e) (second-stops (group_shape_checks i d) (group_name_checks first names i (name_of_entry d)) (group_element_checks r names i (hospitals_named d) (prefectures_named d) (groups_named d)) (step_checks i (runs_in d)) refusal shape some)

pub group-third : (r : RosterData) (first : ℕ) (names : List Text) (d : Data) (i : ℕ) (refusal : Refusal) → i ≡ first + length names + 1 → first_of (group_shape_checks i d) ≡ None
    → first_of (group_name_checks first names i (name_of_entry d)) ≡ None → first_of (group_element_checks r names i (hospitals_named d) (prefectures_named d) (groups_named d)) ≡ Some refusal → first_of (group_entry_checks r first names d) ≡ Some refusal
group-third r first names d i refusal e shape named some =
    rw (← e) (third-stops (group_shape_checks i d) (group_name_checks first names i (name_of_entry d)) (group_element_checks r names i (hospitals_named d) (prefectures_named d) (groups_named d)) (step_checks i (runs_in d)) refusal shape named some)

pub group-last : (r : RosterData) (first : ℕ) (names : List Text) (d : Data) (i : ℕ) → i ≡ first + length names + 1 → first_of (group_shape_checks i d) ≡ None
    → first_of (group_name_checks first names i (name_of_entry d)) ≡ None → first_of (group_element_checks r names i (hospitals_named d) (prefectures_named d) (groups_named d)) ≡ None → first_of (group_entry_checks r first names d) ≡ first_of (step_checks i (runs_in d))
group-last r first names d i e shape named elements =
    rw (← e) (fourth-decides (group_shape_checks i d) (group_name_checks first names i (name_of_entry d)) (group_element_checks r names i (hospitals_named d) (prefectures_named d) (groups_named d)) (step_checks i (runs_in d)) shape named elements)
