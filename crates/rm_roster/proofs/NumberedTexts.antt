-- Texts and their numbers, as more of them come.
use Rattle.std.proofs.Common.{◌≡◌, ◌+◌, ◌<◌, ◌≤◌, ℕ, List, [], ◌∷◌, ◌++◌, length, map, All, Option, Some, None, is_some, if◌then◌else◌, refl, ap, arith, length-append}
use Rattle.std.specs.Str.{bytes_eq}
use Rattle.std.proofs.lemmas.List.Quantifiers.{position-Some}
use Rattle.std.proofs.lemmas.List.Elements.{All-nil, All-cons}
use Rattle.rm_names.proofs.NameLemmas.{place-front, place-last, distinct-more}
use Rattle.rm_names.specs.Names.{AreDistinct}
use Rattle.rm_base.specs.Text.{Text}
use Rattle.rm_names.specs.Names.{place_of}
use Rattle.rm_roster.specs.Hospitals.{with_text, number_in}

longer : (texts : List Text) (more : Text) → length (texts ++ more ∷ []) ≡ length texts + 1
longer texts more = length-append texts (more ∷ [])

-- a place is the number of a text
pub place-within : (texts : List Text) (text : Text) (n : ℕ) → place_of texts text ≡ Some n → n < length texts
place-within texts text n h = (position-Some (bytes_eq text) texts n [] h).0

-- a text is among texts
abbrev pub IsPlaced : List Text → Text → Type 0
IsPlaced texts text = (n : ℕ) × (place_of texts text ≡ Some n)

-- each of these is among the texts
unfoldable pub ArePlaced : List Text → List Text → Type 0
ArePlaced texts [] = Unit {0}
ArePlaced texts (text ∷ few) = IsPlaced texts text × ArePlaced texts few

pub placed-none : (texts : List Text) → ArePlaced texts []
unfolding ArePlaced
placed-none texts = tt

pub placed-push : (texts few : List Text) (text : Text) → IsPlaced texts text → ArePlaced texts few → ArePlaced texts (few ++ text ∷ [])
unfolding ArePlaced
placed-push texts [] text h p = (h, tt)
placed-push texts (t ∷ few) text h p = (p.0, placed-push texts few text h p.1)

-- texts keep their numbers
pub record Kept (old new few : List Text) : Type 0 where
  pub placed : ArePlaced new few
  pub numbers : map (number_in new) few ≡ map (number_in old) few

kept-push : (texts few : List Text) (text : Text) → ArePlaced texts few → Kept texts (texts ++ text ∷ []) few
unfolding ArePlaced
kept-push texts [] text p = record { placed = tt; numbers = refl }
kept-push texts (t ∷ few) text p =
    let rest = kept-push texts few text p.1 in
    let now = place-front texts t text p.0.0 p.0.1 in
    record {
      placed = ((p.0.0, now), rest.placed);
      numbers = rw (now, p.0.1) (ap (λ (ns : List ℕ). p.0.0 ∷ ns) rest.numbers);
    }

kept-by : (texts few : List Text) (text : Text) (o : Option ℕ) → ArePlaced texts few → Kept texts (if is_some o then texts else texts ++ text ∷ []) few
kept-by texts few text None p = kept-push texts few text p
kept-by texts few text (Some n) p = record { placed = p; numbers = refl }

pub kept-with : (texts few : List Text) (text : Text) → ArePlaced texts few → Kept texts (with_text texts text) few
kept-with texts few text p = kept-by texts few text (place_of texts text) p

placed-by : (texts : List Text) (text : Text) (o : Option ℕ) → place_of texts text ≡ o → IsPlaced (if is_some o then texts else texts ++ text ∷ []) text
placed-by texts text None e = (length texts, place-last texts text e)
placed-by texts text (Some n) e = (n, e)

pub placed-with : (texts : List Text) (text : Text) → IsPlaced (with_text texts text) text
placed-with texts text = placed-by texts text (place_of texts text) refl

length-by : (texts : List Text) (text : Text) (o : Option ℕ) → length (if is_some o then texts else texts ++ text ∷ []) ≤ length texts + 1
length-by texts text None = omega (arith, longer texts text)
length-by texts text (Some n) = omega arith

pub length-with : (texts : List Text) (text : Text) → length (with_text texts text) ≤ length texts + 1
length-with texts text = length-by texts text (place_of texts text)

-- what `add` leaves of a text that is new
pub with-new : (old new : List Text) (text : Text) (n : ℕ) → place_of old text ≡ None → n ≡ length old → new ≡ old ++ text ∷ []
    → (new ≡ with_text old text) × (place_of new text ≡ Some n)
with-new old new text n absent number is = (rw (absent, is) refl, rw (is, number) (place-last old text absent))

-- texts stay distinct where one that is not among them is added
distinct-by : (texts : List Text) (text : Text) (o : Option ℕ) → place_of texts text ≡ o → AreDistinct texts → AreDistinct (if is_some o then texts else texts ++ text ∷ [])
distinct-by texts text None e d = distinct-more texts text d e
distinct-by texts text (Some n) e d = d

pub distinct-with : (texts : List Text) (text : Text) → AreDistinct texts → AreDistinct (with_text texts text)
distinct-with texts text d = distinct-by texts text (place_of texts text) refl d

-- the numbers of texts that are among others
pub numbers-within : (texts few : List Text) → ArePlaced texts few → All (λ n. n < length texts) (map (number_in texts) few)
unfolding ArePlaced
numbers-within texts [] p = All-nil (λ n. n < length texts)
numbers-within texts (text ∷ few) p =
    let within : number_in texts text < length texts = rw p.0.1 (place-within texts text p.0.0 p.0.1) in
    All-cons (λ n. n < length texts) (number_in texts text) (map (number_in texts) few) within (numbers-within texts few p.1)
