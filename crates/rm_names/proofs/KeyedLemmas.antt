-- Names that are found by keys.
use Rattle.std.proofs.Common.{eqb, ◌≡◌, ◌≢◌, ◌⊎◌, ◌∙◌, ℕ, ◌<◌, ◌≤◌, true, false, List, [], ◌∷◌, ◌++◌, length, get_or, slice_get, Option, Some, None, inl, inr, refl, sym, ap, arith, Contains, true≢false, length-append, All}
use Rattle.std.specs.List.{IsDistinct, list_any, position}
use Rattle.std.specs.Str.{bytes_eq, is_utf8}
use Rattle.std.proofs.lemmas.Bool.{cases_lt, eq-eqb, ne_eqb}
use Rattle.std.proofs.lemmas.Bool.Decides.{Decides-eqb}
use Rattle.std.proofs.lemmas.Option.{slice_get-get_or, none-some}
use Rattle.std.proofs.lemmas.List.{get_or_append_left, get_or_push, get_or_default}
use Rattle.std.proofs.lemmas.List.Folds.{list_any_at, list_any_none}
use Rattle.std.proofs.lemmas.List.Quantifiers.{position-Some}
use Rattle.std.proofs.lemmas.Map.Keys.{apart_from_distinct}
use Rattle.std.proofs.lemmas.Slice.Eq.{bytes_eq-Decides}
use Rattle.indexmap.specs.IndexSet.{insert_key}
use Rattle.rm_names.specs.Names.{place_of}
use Rattle.rm_names.proofs.NameLemmas.{distinct-more}
use Rattle.rm_names.specs.Keys.{AreBytes, key_of, spare_key, IsKeyOf}
use Rattle.rm_names.specs.Keyed.{IsKeyed, AreKeyed, FindsAmong, IsKept}
use Rattle.rm_names.proofs.KeyLemmas.{IsShort, short-tells, key-no-spare, key-of-short}

-- a name stands at its place
place-stands : (names : List (List ℕ)) (name : List ℕ) (n : ℕ) → place_of names name ≡ Some n → (n < length names) × (get_or names n [] ≡ name)
place-stands names name n at =
    let told = position-Some (bytes_eq name) names n [] at in
    (told.0, sym ((bytes_eq-Decides name (get_or names n [])).0 told.1))

-- a name that stands nowhere has no place
none-where : (names : List (List ℕ)) (name : List ℕ) (o : Option ℕ) → place_of names name ≡ o
    → ((n : ℕ) → n < length names → get_or names n [] ≢ name) → None ≡ o
none-where names name None e nowhere = refl
none-where names name (Some n) e nowhere = let stands = place-stands names name n e in absurd (nowhere n stands.0 stands.1)

-- a key that is not among the keys is at no place
no-key : (keys : List ℕ) (key n : ℕ) → list_any (λ k. eqb key k) keys ≡ false → n < length keys → get_or keys n 0 ≢ key
no-key keys key n none lt at = true≢false (sym (list_any_at (λ k. eqb key k) keys n 0 lt (eq-eqb key (get_or keys n 0) (sym at))) ∙ none)

-- a key that is at no place is not among the keys
key-none : (keys : List ℕ) (key : ℕ) → ((n : ℕ) → n < length keys → get_or keys n 0 ≢ key) → list_any (λ k. eqb key k) keys ≡ false
key-none keys key nowhere =
    let all : All (λ k. eqb key k ≡ false) keys = λ n d lt. ne_eqb key (get_or keys n d) (λ e. nowhere n lt (get_or_default keys n 0 d lt ∙ sym e)) in
    list_any_none (λ k. eqb key k) keys all

-- where a key is found it stands
key-stands : (keys : List ℕ) (key n : ℕ) → position (λ k. eqb key k) keys ≡ Some n → (n < length keys) × (get_or keys n 0 ≡ key)
key-stands keys key n at =
    let told = position-Some (λ k. eqb key k) keys n 0 at in
    (told.0, sym ((Decides-eqb key (get_or keys n 0)).0 told.1))

-- distinct keys stand at one place each
same-place : (keys : List ℕ) (n m : ℕ) → IsDistinct eqb keys → n < length keys → m < length keys → get_or keys n 0 ≡ get_or keys m 0 → n ≡ m
same-place keys n m apart ln lm same = elim (cases_lt n m) [
  | inl lt ↦ absurd (true≢false (sym (eq-eqb (get_or keys n 0) (get_or keys m 0) same) ∙ apart_from_distinct eqb keys n m 0 apart lt lm))
  | inr ge ↦ elim (cases_lt m n) [
    | inl lt ↦ absurd (true≢false (sym (eq-eqb (get_or keys m 0) (get_or keys n 0) (sym same)) ∙ apart_from_distinct eqb keys m n 0 apart lt ln))
    | inr le ↦ omega (arith, ge, le)
  ]
]

module _ (names : List (List ℕ)) (keys others : List ℕ) (k : AreKeyed names keys others) where
  stands-at : (name : List ℕ) (n : ℕ) → n < length names → get_or names n [] ≡ name → slice_get names n ≡ Some name
  stands-at name n lt is = slice_get-get_or names n [] lt ∙ ap Some is

  -- the name at a short name's key is that name
  short-at : (name : List ℕ) (key n : ℕ) → IsShort name key → n < length names → get_or keys n 0 ≡ key → get_or names n [] ≡ name
  short-at name key n s lt at = elim (k.keyed n lt) [
    | inl own ↦ short-tells name (get_or names n []) key s (k.bytes n lt) (sym at ∙ own)
    | inr spare ↦ absurd (key-no-spare name n s.bytes (key-of-short name s.short ∙ sym s.is ∙ sym at ∙ spare.1))
  ]

  pub short-found : (name : List ℕ) (key n : ℕ) → IsShort name key → position (λ k. eqb key k) keys ≡ Some n → Some n ≡ place_of names name
  short-found name key n s at =
      let stands = key-stands keys key n at in
      let lt : n < length names = omega (arith, stands.0, k.as_many) in
      sym (k.distinct.found n name (stands-at name n lt (short-at name key n s lt stands.1)))

  -- a text that is at none of the places of its key is where it is looked for last
  rest : (name : List ℕ) (key : ℕ) (r : Option ℕ) → key ≡ key_of name
      → ((n : ℕ) → n < length names → get_or keys n 0 ≡ key → get_or names n [] ≢ name) → FindsAmong names others name r → r ≡ place_of names name
  rest name key (Some n) is nowhere found = sym (k.distinct.found n name found)
  rest name key None is nowhere found = none-where names name (place_of names name) refl (λ n lt here. (elim (k.keyed n lt) [
    | inl own ↦ nowhere n lt (own ∙ ap key_of here ∙ sym is) here
    | inr spare ↦ found n spare.2 (stands-at name n lt here)
  ]))

  pub long-none : (name : List ℕ) (key : ℕ) (r : Option ℕ) → key ≡ key_of name → list_any (λ k. eqb key k) keys ≡ false
      → FindsAmong names others name r → r ≡ place_of names name
  long-none name key r is none found = rest name key r is (λ n lt at here. no-key keys key n none (omega (arith, lt, k.as_many)) at) found

  pub long-other : (name : List ℕ) (key m : ℕ) (r : Option ℕ) → key ≡ key_of name → position (λ k. eqb key k) keys ≡ Some m
      → slice_get names m ≢ Some name → FindsAmong names others name r → r ≡ place_of names name
  long-other name key m r is at other found =
      let stands = key-stands keys key m at in
      rest name key r is (λ n lt same here.
      let n-is : n ≡ m = same-place keys n m k.apart (omega (arith, lt, k.as_many)) stands.0 (same ∙ sym stands.1) in
      other (rw n-is at (stands-at name n lt here))) found

  pub short-none : (name : List ℕ) (key : ℕ) → IsShort name key → list_any (λ k. eqb key k) keys ≡ false → None ≡ place_of names name
  short-none name key s none = none-where names name (place_of names name) refl (λ n lt here. (elim (k.keyed n lt) [
    | inl own ↦ no-key keys key n none (omega (arith, lt, k.as_many)) (own ∙ ap key_of here ∙ key-of-short name s.short ∙ sym s.is)
    | inr spare ↦ omega (arith, spare.0, ap length here, s.short)
  ]))

  -- ---- one name more

  module _ (name : List ℕ) (key kept : ℕ) (more : List ℕ) (none : place_of names name ≡ None) (of : IsKeyOf key name)
      (kept-is : IsKept keys key (length names) more kept) where
    spare-new : list_any (λ k. eqb (spare_key (length names)) k) keys ≡ false
    spare-new = key-none keys (spare_key (length names)) (λ n lt at.
        let within : n < length names = omega (arith, lt, k.as_many) in
        (elim (k.keyed n within) [
          | inl own ↦ key-no-spare (get_or names n []) (length names) (k.bytes n within) (sym own ∙ at)
          | inr spare ↦ omega (arith, within, sym spare.1 ∙ at)
        ]))

    kept-new : list_any (λ k. eqb kept k) keys ≡ false
    kept-new = elim kept-is [
      | inl own ↦ rw own.0 own.1
      | inr spare ↦ rw spare.0 spare-new
    ]

    -- a short name that is not held finds its key free
    short-free : length name ≤ 7 → list_any (λ k. eqb key k) keys ≡ false
    short-free short =
        let s : IsShort name key = record { short = short; bytes = of.bytes; is = of.is ∙ key-of-short name short } in
        key-none keys key (λ n lt at.
        let within : n < length names = omega (arith, lt, k.as_many) in
        let here = k.distinct.found n name (stands-at name n within (short-at name key n s within at)) in
        none-some n (sym none ∙ here))

    kept-keyed : IsKeyed name kept (length names) more
    kept-keyed = elim kept-is [
      | inl own ↦ inl (own.0 ∙ of.is)
      | inr spare ↦ elim (cases_lt 7 (length name)) [
        | inl long ↦ inr (long, spare.0, spare.2)
        | inr short ↦ absurd (true≢false (sym spare.1 ∙ short-free short))
      ]
    ]

    -- the keys and the list of numbers after that
    module _ (text : is_utf8 name ≡ true) (few : length names < 4000000000)
        (new : List ℕ) (new-is : new ≡ insert_key eqb keys kept) (apart : IsDistinct eqb new)
        (kept-others : (x : ℕ) → Contains others x → Contains more x) where
      pushed : new ≡ keys ++ kept ∷ []
      pushed = new-is ∙ rw kept-new refl

      last-or : (n : ℕ) → n < length (names ++ name ∷ []) → (n < length names) ⊎ (n ≡ length names)
      last-or n lt = elim (cases_lt n (length names)) [
        | inl front ↦ inl front
        | inr ge ↦ inr (omega (arith, lt, ge, length-append names (name ∷ [])))
      ]

      -- what holds of each name, and of one more
      each : (P : ℕ → List ℕ → Type 0) → ((n : ℕ) → n < length names → P n (get_or names n [])) → P (length names) name → (n : ℕ)
          → n < length (names ++ name ∷ []) → P n (get_or (names ++ name ∷ []) n [])
      each P front last n lt = elim (last-or n lt) [
        | inl within ↦ rw (get_or_append_left names (name ∷ []) [] n within) (front n within)
        | inr end ↦ rw (end, get_or_push names name [] (length names) refl) last
      ]

      front-keyed : (n : ℕ) → n < length names → IsKeyed (get_or names n []) (get_or (keys ++ kept ∷ []) n 0) n more
      front-keyed n within = rw (get_or_append_left keys (kept ∷ []) 0 n (omega (arith, within, k.as_many))) (elim (k.keyed n within) [
        | inl own ↦ inl own
        | inr spare ↦ inr (spare.0, spare.1, kept-others n spare.2)
      ])

      last-keyed : IsKeyed name (get_or (keys ++ kept ∷ []) (length names) 0) (length names) more
      last-keyed = rw (get_or_push keys kept 0 (length names) k.as_many) kept-keyed

      pub keyed-more : AreKeyed (names ++ name ∷ []) new more
      keyed-more = record {
        few = omega (arith, few, length-append names (name ∷ []));
        distinct = distinct-more names name k.distinct none;
        text = each (λ n t. is_utf8 t ≡ true) k.text text;
        bytes = each (λ n t. AreBytes t) k.bytes of.bytes;
        as_many = omega (arith, ap length pushed, length-append keys (kept ∷ []), length-append names (name ∷ []), k.as_many);
        apart = apart;
        keyed = rw pushed (each (λ n t. IsKeyed t (get_or (keys ++ kept ∷ []) n 0) n more) front-keyed last-keyed);
      }
