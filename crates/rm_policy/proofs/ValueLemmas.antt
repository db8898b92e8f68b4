-- Arrays of values beside the lists of their data.
use Rattle.std.proofs.Common.{◌≡◌, ◌&&◌, ◌+◌, ◌<◌, ◌≤◌, ◌∙◌, ℕ, Bool, true, false, List, [], ◌∷◌, ◌++◌, map, take, get_or, length, Option, Some, None, refl, sym, ap}
use Rattle.std.specs.Prelude.{filter_map}
use Rattle.std.specs.List.{list_all, cons_option}
use Rattle.std.proofs.lemmas.List.{take_all, take_more, map-append, append-nil}
use Rattle.std.proofs.lemmas.List.Elements.{filter_map-append}
use Rattle.std.proofs.lemmas.List.Folds.{list_all_more, list_all_at}
use Rattle.toml.specs.Data.{Data}
use Rattle.toml.specs.View.{view, items_of}
use Rattle.toml.specs.declared.value.Value.{Value}
use Rattle.rm_policy.specs.Values.{data_in, has_shape}
use Rattle.rm_policy.specs.declared.values.Shape.{Shape}

pub list_of_items : (ds : List Data) → data_in (items_of ds) ≡ ds
list_of_items [] = refl
list_of_items (d ∷ ds) = ap (λ (l : List Data). d ∷ l) (list_of_items ds)

pub list_all_map : {X Y : Type 0} (p : Y → Bool) (f : X → Y) (xs : List X) → list_all p (map f xs) ≡ list_all (λ x. p (f x)) xs
list_all_map p f [] = refl
list_all_map p f (x ∷ xs) = ap (λ (b : Bool). p (f x) && b) (list_all_map p f xs)

-- ---- values of one shape

-- the values before place i have the shape
abbrev pub HaveShape : Shape → List Value → ℕ → Type 0
HaveShape s vs i = list_all (λ v. has_shape s (view v)) (take i vs) ≡ true

pub shapes_more : (s : Shape) (vs : List Value) (i : ℕ) (v : Value) → i < length vs → v ≡ get_or vs i v → HaveShape s vs i → has_shape s (view v) ≡ true → HaveShape s vs (i + 1)
shapes_more s vs i v h at so_far here = list_all_more (λ x. has_shape s (view x)) vs i v h ∙ rw (so_far, ← at, here) refl

pub shapes_stop : (s : Shape) (vs : List Value) (i : ℕ) (v : Value) → i < length vs → v ≡ get_or vs i v → has_shape s (view v) ≡ false → false ≡ list_all (has_shape s) (map view vs)
shapes_stop s vs i v h at here = sym (list_all_map (has_shape s) view vs ∙ list_all_at (λ x. has_shape s (view x)) vs i v h (rw (← at) here))

pub shapes_end : (s : Shape) (vs : List Value) (i : ℕ) → length vs ≤ i → HaveShape s vs i → true ≡ list_all (has_shape s) (map view vs)
shapes_end s vs i h all = sym (list_all_map (has_shape s) view vs ∙ ap (list_all (λ x. has_shape s (view x))) (sym (take_all i vs h)) ∙ all)

-- ---- what is gathered of values

-- one more value
pub gathered : {X : Type 0} (f : Data → Option X) (vs : List Value) (i : ℕ) (v : Value) → i < length vs → v ≡ get_or vs i v
    → filter_map f (map view (take (i + 1) vs)) ≡ filter_map f (map view (take i vs)) ++ cons_option (f (view v)) []
gathered f vs i v lt at =
    ap (λ (l : List Value). filter_map f (map view l)) (take_more vs i v lt ∙ ap (λ (x : Value). take i vs ++ x ∷ []) (sym at))
    ∙ ap (filter_map f) (map-append view (take i vs) (v ∷ [])) ∙ filter_map-append f (map view (take i vs)) (view v ∷ [])

pub gathered-none : {X : Type 0} (f : Data → Option X) (vs : List Value) (i : ℕ) (v : Value) (items : List X) → i < length vs → v ≡ get_or vs i v → items ≡ filter_map f (map view (take i vs)) → f (view v) ≡ None
    → items ≡ filter_map f (map view (take (i + 1) vs))
gathered-none f vs i v items lt at are none = are ∙ sym (gathered f vs i v lt at ∙ rw none (append-nil (filter_map f (map view (take i vs)))))

pub gathered-one : {X : Type 0} (f : Data → Option X) (vs : List Value) (i : ℕ) (v : Value) (items new : List X) (x : X) → i < length vs → v ≡ get_or vs i v → items ≡ filter_map f (map view (take i vs)) → f (view v) ≡ Some x
    → new ≡ items ++ x ∷ [] → new ≡ filter_map f (map view (take (i + 1) vs))
gathered-one {X = X} f vs i v items new x lt at are some more = more ∙ ap (λ (l : List X). l ++ x ∷ []) are ∙ sym (gathered f vs i v lt at ∙ rw some refl)
