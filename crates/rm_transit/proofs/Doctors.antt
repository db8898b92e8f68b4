-- The doctors: what becomes of their counts and marks where one of them is replaced.
use Rattle.std.proofs.Common.{◌≡◌, ℕ, ◌<◌, ◌^◌, List, [], length, get_or, set, replicate, refl, zero, suc}
use Rattle.std.proofs.lemmas.List.{length-map, map-set}
use Rattle.std.proofs.Math.Seq.{map-set_same}
use Rattle.std.proofs.Math.ListN.{get_or-map}
use Rattle.rm_market.specs.Stable.{Wishes}
use Rattle.rm_market.specs.Laws.{AreWishes}
use Rattle.rm_transit_laws.specs.Transit as law
use Rattle.rm_transit.specs.declared.moves.Doctor.{Doctor}
use Rattle.rm_transit.specs.declared.moves.Sign.TheVariants as own
use Rattle.rm_transit.specs.Travel.{sign_told, spent_each, sign_each, state, IsTransit}

pub sign_set : (ds : List Doctor) (i : ℕ) (a : Doctor) → sign_each (set ds i a) ≡ set (sign_each ds) i (sign_told a.sign)
sign_set ds i a = map-set (λ (b : Doctor). sign_told b.sign) ds i a

pub spent_set : (ds : List Doctor) (i : ℕ) (a : Doctor) → spent_each (set ds i a) ≡ set (spent_each ds) i a.spent
spent_set ds i a = map-set (λ (b : Doctor). b.spent) ds i a

pub spent_same : (ds : List Doctor) (i : ℕ) (a d : Doctor) → a.spent ≡ (get_or ds i d).spent → spent_each (set ds i a) ≡ spent_each ds
spent_same ds i a d e = map-set_same (λ (b : Doctor). b.spent) ds i a d e

pub count_spent : (ds : List Doctor) → length (spent_each ds) ≡ length ds
count_spent ds = length-map ds (λ b. b.spent)

spent_alike : (n : ℕ) (a : Doctor) → spent_each (replicate n a) ≡ replicate n a.spent
spent_alike zero a = refl
spent_alike (suc n) a = rw (spent_alike n a) refl

sign_alike : (n : ℕ) (a : Doctor) → sign_each (replicate n a) ≡ replicate n (sign_told a.sign)
sign_alike zero a = refl
sign_alike (suc n) a = rw (sign_alike n a) refl

abbrev pub newcomer : Doctor
newcomer = record { spent = 0; sign = own.Empty }

-- nothing was sent
pub nothing_sent : (m : ℕ) (w : Wishes) (ds : List Doctor) (held : List ℕ) → m ≡ length w.listed → held ≡ [] → ds ≡ replicate m newcomer → state ds held ≡ law.departed w
nothing_sent m w ds held count none is = rw (is, none, count, spent_alike (length w.listed) newcomer, sign_alike (length w.listed) newcomer) refl

pub new_transit : (n m : ℕ) (C : List ℕ → List ℕ) (w : Wishes) (ds : List Doctor) (held : List ℕ) → n < 2 ^ 32 → AreWishes n w → m ≡ length w.listed → held ≡ [] → ds ≡ replicate m newcomer
    → IsTransit n C w (state ds held)
new_transit n m C w ds held few wishes count none is = record { few = few; wishes = wishes; reached = ([], nothing_sent m w ds held count none is) }

module _ (ds : List Doctor) (d : ℕ) where
  pub spent_at : get_or (spent_each ds) d 0 ≡ (get_or ds d newcomer).spent
  spent_at = get_or-map (λ (b : Doctor). b.spent) ds d newcomer

  pub sign_at : get_or (sign_each ds) d law.none ≡ sign_told (get_or ds d newcomer).sign
  sign_at = get_or-map (λ (b : Doctor). sign_told b.sign) ds d newcomer
