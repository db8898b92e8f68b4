-- The doctors at a desk: what becomes of their counts and places where one of them is replaced.
use Rattle.std.proofs.Common.{◌≡◌, ◌∙◌, ℕ, ◌+◌, ◌<◌, ◌^◌, List, [], length, get_or, set, replicate, refl, sym, ap, zero, suc, None, arith}
use Rattle.std.proofs.lemmas.List.{length-map, map-set, get_or-replicate, length-replicate}
use Rattle.std.proofs.Math.Seq.{map-set_same}
use Rattle.std.proofs.Math.ListN.{get_or-map}
use Rattle.rm_market.specs.declared.Outcome.{Outcome}
use Rattle.rm_rounds.specs.declared.turn.Doctor.{Doctor}
use Rattle.rm_market.specs.Stable.{Wishes}
use Rattle.rm_market.specs.Machine.{start}
use Rattle.rm_market.specs.Laws.{AreWishes}
use Rattle.rm_rounds.specs.Desk.{IsDesk, state, spent_each, place_each, places_after}

pub place_set : (ds : List Doctor) (i : ℕ) (a : Doctor) → place_each (set ds i a) ≡ set (place_each ds) i a.place
place_set ds i a = map-set (λ (b : Doctor). b.place) ds i a

pub spent_set : (ds : List Doctor) (i : ℕ) (a : Doctor) → spent_each (set ds i a) ≡ set (spent_each ds) i a.spent
spent_set ds i a = map-set (λ (b : Doctor). b.spent) ds i a

pub spent_same : (ds : List Doctor) (i : ℕ) (a d : Doctor) → a.spent ≡ (get_or ds i d).spent → spent_each (set ds i a) ≡ spent_each ds
spent_same ds i a d e = map-set_same (λ (b : Doctor). b.spent) ds i a d e

pub place_same : (ds : List Doctor) (i : ℕ) (a d : Doctor) → a.place ≡ (get_or ds i d).place → place_each (set ds i a) ≡ place_each ds
place_same ds i a d e = map-set_same (λ (b : Doctor). b.place) ds i a d e

pub count_places : (ds : List Doctor) → length (place_each ds) ≡ length ds
count_places ds = length-map ds (λ b. b.place)

pub spent_alike : (n : ℕ) (a : Doctor) → spent_each (replicate n a) ≡ replicate n a.spent
spent_alike zero a = refl
spent_alike (suc n) a = rw (spent_alike n a) refl

pub place_alike : (n : ℕ) (a : Doctor) → place_each (replicate n a) ≡ replicate n a.place
place_alike zero a = refl
place_alike (suc n) a = rw (place_alike n a) refl

-- nobody has offered
pub nothing_spent : (m : ℕ) (w : Wishes) (ds : List Doctor) (held : List ℕ) → m ≡ length w.listed → held ≡ [] → ds ≡ replicate m (record { spent = 0; place = None }) → state (spent_each ds) held ≡ start w
nothing_spent m w ds held count none is = rw (is, none, count, spent_alike (length w.listed) (record { spent = 0; place = None })) refl

pub new_desk : (n m : ℕ) (C : List ℕ → List ℕ) (w : Wishes) (ds : List Doctor) (held : List ℕ) → n < 2 ^ 32 → AreWishes n w → m ≡ length w.listed → held ≡ [] → ds ≡ replicate m (record { spent = 0; place = None })
    → IsDesk n C w (state (spent_each ds) held) (place_each ds)
new_desk n m C w ds held few wishes count none is =
    let places : place_each ds ≡ replicate m None = ap place_each is ∙ place_alike m (record { spent = 0; place = None }) in
    record {
      few = few;
      wishes = wishes;
      reached = ([], nothing_spent m w ds held count none is);
      long = rw places (length-replicate m None ∙ count);
      place = λ d lt. rw (places, none) (get_or-replicate m d None None (omega (arith, count, lt)));
    }

-- ---- what a doctor's turn reads, and what it leaves

module _ (ds : List Doctor) (d : ℕ) where
  abbrev of_d : Doctor
  of_d = get_or ds d (record { spent = 0; place = None })

  pub spent_at : get_or (spent_each ds) d 0 ≡ of_d.spent
  spent_at = get_or-map (λ (b : Doctor). b.spent) ds d (record { spent = 0; place = None })

  pub place_at : get_or (place_each ds) d None ≡ of_d.place
  place_at = get_or-map (λ (b : Doctor). b.place) ds d (record { spent = 0; place = None })

  abbrev one_more : Doctor
  one_more = record { spent = of_d.spent + 1; place = of_d.place }

  module _ (more : List Doctor) where
    pub spent_after : spent_each more ≡ spent_each (set ds d one_more) → spent_each more ≡ set (spent_each ds) d (get_or (spent_each ds) d 0 + 1)
    spent_after is = is ∙ spent_set ds d one_more ∙ sym (ap (λ k. set (spent_each ds) d (k + 1)) spent_at)

    pub places_then : (owners L : List ℕ) (o : Outcome) → place_each more ≡ places_after owners (place_each (set ds d one_more)) d (get_or L of_d.spent 0) o
        → place_each more ≡ places_after owners (place_each ds) d (get_or L (get_or (spent_each ds) d 0) 0) o
    places_then owners L o is =
        is ∙ ap (λ P. places_after owners P d (get_or L of_d.spent 0) o) (place_same ds d one_more (record { spent = 0; place = None }) refl)
        ∙ sym (ap (λ k. places_after owners (place_each ds) d (get_or L k 0) o) spent_at)
