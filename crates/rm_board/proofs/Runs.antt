-- The hospital of a contract, found between the hospitals of two runs.
use Rattle.std.proofs.Common.{◌≡◌, ◌∙◌, sym, ap, refl, ℕ, zero, suc, ◌+◌, ◌-◌, ◌*◌, ◌<◌, ◌≤◌, ◌/◌, ◌⊎◌, List, [], ◌∷◌, ◌++◌, length, map, take, drop, get_or, replicate, leb, true, false, inl, inr, arith, add-one, length-append, length-drop, take-append-drop}
use Rattle.std.specs.Int.{div_ceil}
use Rattle.std.specs.List.{slice_range}
use Rattle.std.specs.List.Sorted.{IsPartitionPoint, IsPartitionedBy}
use Rattle.std.proofs.lemmas.Bool.{cases_lt}
use Rattle.std.proofs.lemmas.Bool.Decides.{nat_tests}
use Rattle.std.proofs.lemmas.Grind.{div_ceil_times}
use Rattle.std.proofs.lemmas.List.{get_or-map, get_or-take, get_or-drop, get_or-append_right, get_or_append_left, get_or-replicate, get_or_push, get_or_past, get_or_read, length-map, length-replicate, map-append, take_all, take-take, length-take-le}
use Rattle.std.proofs.lemmas.List.Sorted.{IsPartitionedBy-leb, IsNonDecreasingBy-from_default}
use Rattle.std.proofs.Math.Nat.{div-mul-le_self, lt-div-mul-add}
use Rattle.rm_market.specs.Board.{pairs_from, pairs_of, hospital_of_number}
use Rattle.rm_board.specs.Numbers.{AreContracts, AreRuns}
use Rattle.rm_board.specs.declared.hospitals.ByHospital.{ByHospital}
use Rattle.rm_board.specs.declared.hospitals.TheConstants.{RUN}
use Rattle.rm_board.proofs.Numbering.{own, pairs-append, pairs-more, pairs-front, length-own, hospitals-own}

-- how many contracts stand before those of a hospital
abbrev pub start : List (List ℕ) → ℕ → ℕ
start ranks h = length (pairs_of (take h ranks))

module _ (ranks : List (List ℕ)) where
  pub start-more : (h : ℕ) → h < length ranks → start ranks (h + 1) ≡ start ranks h + length (get_or ranks h [])
  start-more h lt = omega (arith, ap length (pairs-more ranks h lt), length-append (pairs_of (take h ranks)) (own h (get_or ranks h [])), length-own h (get_or ranks h []))

  pub start-rises : (h g : ℕ) → h ≤ g → start ranks h ≤ start ranks g
  start-rises h g le = rw (take-take h g ranks le) at (pairs-front (take g ranks) h)

  -- x is a contract of hospital h
  pub record IsOf (h x : ℕ) : Type 0 where
    pub known : h < length ranks
    pub from : start ranks h ≤ x
    pub to : x < start ranks (h + 1)

  -- each contract of the first n hospitals is one of theirs
  of-one : (n x : ℕ) → n ≤ length ranks → x < start ranks n → (h : ℕ) × IsOf h x
  of-one zero x le lt = absurd (omega arith)
  of-one (suc n) x le lt = elim (cases_lt x (start ranks n)) [
    | inl before ↦ of-one n x (omega arith) before
    | inr from ↦ (n, record { known = omega arith; from = from; to = rw (add-one n) lt })
  ]

  -- the list of all contracts' hospitals has h at each contract of h
  hospital-is : (h x d : ℕ) → IsOf h x → get_or (map (λ p. p.1) (pairs_of ranks)) x d ≡ h
  hospital-is h x d of =
      let hospital = λ (p : ℕ × ℕ). p.1 in
      let before = map hospital (pairs_of (take h ranks)) in
      let rank = get_or ranks h [] in
      let rest = pairs_from (0 + length (take (h + 1) ranks)) (drop (h + 1) ranks) in
      let whole : map hospital (pairs_of ranks) ≡ (before ++ replicate (length rank) h) ++ map hospital rest =
      ap (λ (rs : List (List ℕ)). map hospital (pairs_of rs)) (sym (take-append-drop (h + 1) ranks))
      ∙ ap (map hospital) (pairs-append 0 (take (h + 1) ranks) (drop (h + 1) ranks))
      ∙ map-append hospital (pairs_of (take (h + 1) ranks)) rest
      ∙ ap (λ (ps : List (ℕ × ℕ)). map hospital ps ++ map hospital rest) (pairs-more ranks h of.known)
      ∙ ap (λ (hs : List ℕ). hs ++ map hospital rest) (map-append hospital (pairs_of (take h ranks)) (own h rank))
      ∙ ap (λ (hs : List ℕ). (before ++ hs) ++ map hospital rest) (hospitals-own h rank) in
      let long : length before ≡ start ranks h = length-map {B = ℕ} (pairs_of (take h ranks)) hospital in
      let less : x - start ranks h < length rank = omega (arith, of.from, of.to, start-more h of.known) in
      let within : x < length (before ++ replicate (length rank) h) = omega (arith, long, less, of.from, length-append before (replicate (length rank) h), length-replicate {A = ℕ} (length rank) h) in
      ap (λ (hs : List ℕ). get_or hs x d) whole
      ∙ get_or_append_left (before ++ replicate (length rank) h) (map hospital rest) d x within
      ∙ get_or-append_right before (replicate (length rank) h) (start ranks h) x d long of.from
      ∙ get_or-replicate (length rank) (x - start ranks h) h d less

  all-starts : start ranks (length ranks) ≡ length (pairs_of ranks)
  all-starts = ap (λ (rs : List (List ℕ)). length (pairs_of rs)) (take_all (length ranks) ranks (omega arith))

  pub number-is-of : (h x : ℕ) → IsOf h x → h ≡ hospital_of_number ranks x
  number-is-of h x of =
      let lt : x < length (pairs_of ranks) = omega (arith, of.to, all-starts, start-rises (h + 1) (length ranks) (omega (arith, of.known))) in
      sym (hospital-is h x h of) ∙ get_or-map (λ (p : ℕ × ℕ). p.1) (pairs_of ranks) x (0, 0) h lt

  pub of-number : (x : ℕ) → x < length (pairs_of ranks) → IsOf (hospital_of_number ranks x) x
  of-number x lt =
      let of = of-one (length ranks) x (omega arith) (omega (arith, lt, all-starts)) in
      rw (← number-is-of of.0 x of.1) of.1

  -- ---- the runs, as they are built

  -- the first contracts of the runs of the first h hospitals have these hospitals
  pub record AreBegun (h : ℕ) (runs : List ℕ) : Type 0 where
    pub long : length runs ≡ div_ceil (start ranks h) RUN
    pub of : (k : ℕ) → k < length runs → IsOf (get_or runs k 0) (k * RUN)

  pub none-begun : (runs : List ℕ) → runs ≡ [] → AreBegun 0 runs
  none-begun runs none = rw none (record { long = omega (arith, div_ceil_times 0 RUN (omega arith)); of = λ k lt. absurd (omega arith) })

  pub more-begun : (h : ℕ) (runs new : List ℕ) → AreBegun h runs → h < length ranks → new ≡ runs ++ replicate (div_ceil (start ranks (h + 1)) RUN - length runs) h → AreBegun (h + 1) new
  more-begun h runs new so-far lt more =
      let past = div_ceil_times (start ranks h) RUN (omega arith) in
      let end = div_ceil_times (start ranks (h + 1)) RUN (omega arith) in
      let count = div_ceil (start ranks (h + 1)) RUN - length runs in
      let le : length runs ≤ div_ceil (start ranks (h + 1)) RUN = omega (arith, so-far.long, past, end, start-more h lt) in
      let long : length new ≡ div_ceil (start ranks (h + 1)) RUN = omega (arith, le, ap length more, length-append runs (replicate count h), length-replicate {A = ℕ} count h) in
      record {
        long = long;
        of = λ k less. elim (cases_lt k (length runs)) [
          | inl before ↦
              let same : get_or new k 0 ≡ get_or runs k 0 = rw more (get_or_append_left runs (replicate count h) 0 k before) in
              rw same (so-far.of k before)
          | inr after ↦
              let here : get_or new k 0 ≡ h = rw more (get_or-append_right runs (replicate count h) (length runs) k 0 refl after ∙ get_or-replicate count (k - length runs) h 0 (omega (arith, less, long, le, after))) in
              rw here (record { known = lt; from = omega (arith, after, so-far.long, past); to = omega (arith, less, long, end) })
        ];
      }

  pub all-begun : (runs new : List ℕ) → AreBegun (length ranks) runs → new ≡ runs ++ length ranks ∷ [] → AreRuns ranks new
  all-begun runs new begun more =
      let end = div_ceil_times (start ranks (length ranks)) RUN (omega arith) in
      let long : length new ≡ length runs + 1 = ap length more ∙ length-append runs (length ranks ∷ []) in
      record {
        many = omega (arith, long, begun.long, end, all-starts);
        first = λ k less. elim (cases_lt k (length runs)) [
          | inl before ↦
              let same : get_or new k 0 ≡ get_or runs k 0 = rw more (get_or_append_left runs (length ranks ∷ []) 0 k before) in
              same ∙ sym (hospital-is (get_or runs k 0) (k * RUN) (length ranks) (begun.of k before))
          | inr after ↦
              let last : get_or new k 0 ≡ length ranks = rw more (get_or_push runs (length ranks) 0 k (omega (arith, less, long, after))) in
              last ∙ sym (get_or_past (map (λ (p : ℕ × ℕ). p.1) (pairs_of ranks)) (k * RUN) (length ranks) (omega (arith, after, begun.long, end, all-starts, length-map {B = ℕ} (pairs_of ranks) (λ p. p.1))))
        ];
      }

-- ---- the hospital of contract x, between those of its run and the next

module _ (ranks : List (List ℕ)) (b : ByHospital) (by_doctor : List (List ℕ)) (are : AreContracts ranks b by_doctor) (x : ℕ) (lt : x < length (pairs_of ranks)) where
  abbrev starts : List ℕ
  starts = b.starts.items

  abbrev runs : List ℕ
  runs = b.runs.items

  -- the run of x and the one after it are kept
  pub has-run : x / RUN + 1 < length runs
  has-run = omega (arith, are.runs.many, lt, div-mul-le_self x RUN)

  -- what is kept of a run is the hospital of its first contract
  of-first : (k : ℕ) → k < length runs → k * RUN < length (pairs_of ranks) → IsOf ranks (get_or runs k 0) (k * RUN)
  of-first k less within =
      let of = of-one ranks (length ranks) (k * RUN) (omega arith) (omega (arith, within, all-starts ranks)) in
      let e : get_or runs k 0 ≡ of.0 = are.runs.first k less ∙ hospital-is ranks of.0 (k * RUN) (length ranks) of.1 in
      rw e of.1

  module _ (first last : ℕ) (first-read : first ≡ get_or runs (x / RUN) first) (last-read : last ≡ get_or runs (x / RUN + 1) last) where
    first-is : first ≡ get_or runs (x / RUN) 0
    first-is = get_or_read runs (x / RUN) first (omega (arith, has-run)) first-read 0

    last-is : last ≡ get_or runs (x / RUN + 1) 0
    last-is = get_or_read runs (x / RUN + 1) last has-run last-read 0

    first-of : IsOf ranks first (x / RUN * RUN)
    first-of = rw first-is (of-first (x / RUN) (omega (arith, has-run)) (omega (arith, lt, div-mul-le_self x RUN)))

    last-of : IsOf ranks last ((x / RUN + 1) * RUN) ⊎ (last ≡ length ranks)
    last-of = elim (cases_lt ((x / RUN + 1) * RUN) (length (pairs_of ranks))) [
      | inl within ↦ inl (rw last-is (of-first (x / RUN + 1) has-run within))
      | inr past ↦ inr (last-is ∙ are.runs.first (x / RUN + 1) has-run ∙ get_or_past (map (λ (p : ℕ × ℕ). p.1) (pairs_of ranks)) ((x / RUN + 1) * RUN) (length ranks) (omega (arith, past, length-map {B = ℕ} (pairs_of ranks) (λ p. p.1))))
    ]

    -- the contracts of the last hospital end past x
    last-to : (last < length ranks) → x < start ranks (last + 1)
    last-to known = elim last-of [
      | inl of ↦ let past : x < x / RUN * RUN + RUN = lt-div-mul-add (omega arith) in omega (arith, of.to, past)
      | inr all ↦ absurd (omega (arith, all))
    ]

    last-within : last ≤ length ranks
    last-within = elim last-of [ inl of ↦ omega (arith, of.known) | inr all ↦ omega (arith, all) ]

    pub forward : first ≤ last
    forward = elim (cases_lt last first) [
      | inl less ↦ let known : last < length ranks = omega (arith, less, first-of.known) in absurd (omega (arith, last-to known, start-rises ranks (last + 1) first (omega arith), first-of.from, div-mul-le_self x RUN))
      | inr le ↦ le
    ]

    pub inside : last + 1 ≤ length starts
    inside = omega (arith, last-within, are.as_many)

    -- where the contracts of the hospitals before the last one end
    abbrev ends : List ℕ
    ends = slice_range starts (first + 1) (last + 1)

    length-ends : length ends ≡ last - first
    length-ends = omega (arith, length-take-le (last + 1 - (first + 1)) (drop (first + 1) starts) (omega (arith, length-drop (first + 1) starts, are.as_many, last-within)), forward)

    end-at : (i : ℕ) → i < last - first → get_or ends i 0 ≡ start ranks (first + i + 1)
    end-at i less =
        let e : first + 1 + i ≡ first + i + 1 = omega arith in
        get_or-take (last + 1 - (first + 1)) (drop (first + 1) starts) i 0 (omega arith)
        ∙ get_or-drop (first + 1) starts i 0
        ∙ ap (λ (h : ℕ). get_or starts h 0) e
        ∙ are.start (first + i + 1) (omega (arith, less, last-within))

    pub parted : IsPartitionedBy (λ y. leb y x) ends
    parted = IsPartitionedBy-leb (λ (y : ℕ). y) ends x (IsNonDecreasingBy-from_default (λ (y : ℕ). y) ends 0 (λ i j le less.
        let within : j < last - first = omega (arith, less, length-ends) in
        omega (arith, end-at i (omega (arith, le, within)), end-at j within, start-rises ranks (first + i + 1) (first + j + 1) (omega (arith, le)))))

    -- the hospitals that end at or before x stand before its own
    pub found : (passed : ℕ) → IsPartitionPoint (λ y. leb y x ≡ true) (λ y. leb y x ≡ false) ends passed → passed ≤ length ends → IsOf ranks (first + passed) x
    found passed point within =
        let from : start ranks (first + passed) ≤ x = elim (cases_lt 0 passed) [
          | inl some ↦
              let i = passed - 1 in
              let there : i < last - first = omega (arith, some, within, length-ends) in
              let ended = point.0 i 0 (omega arith) (omega (arith, some)) in
              let e : first + i + 1 ≡ first + passed = omega (arith, some) in
              let le : get_or ends i 0 ≤ x = grind (arith, nat_tests, ended) in
              let last-passed : start ranks (first + i + 1) ≤ x = omega (arith, end-at i there, le) in
              rw e at last-passed
          | inr none ↦ let e : first + passed ≡ first = omega (arith, none) in rw e (omega (arith, first-of.from, div-mul-le_self x RUN))
        ] in
        let known : first + passed < length ranks = elim (cases_lt (first + passed) (length ranks)) [
          | inl less ↦ less
          | inr all ↦ absurd (omega (arith, from, lt, all-starts ranks, start-rises ranks (length ranks) (first + passed) all))
        ] in
        record {
          known = known;
          from = from;
          to = elim (cases_lt passed (length ends)) [
            | inl less ↦
                let there : passed < last - first = omega (arith, less, length-ends) in
                let left = point.1 passed 0 (omega arith) less in
                let at = end-at passed there in
                let past : x < get_or ends passed 0 = grind (arith, nat_tests, left) in
                omega (arith, at, past)
            | inr all ↦ let e : first + passed ≡ last = omega (arith, all, within, length-ends, forward) in rw e (last-to (rw e at known))
          ];
        }
