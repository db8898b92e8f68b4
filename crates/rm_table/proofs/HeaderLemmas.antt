-- The cells of a header, compared one by one.
use Rattle.std.proofs.Common.{◌≡◌, ◌+◌, ◌<◌, ◌∙◌, ℕ, List, [], length, map, drop, get_or, Some, None, Ok, Bool, true, false, refl, sym, arith, add-one, drop-cons, Bor, if◌then◌else◌}
use Rattle.std.proofs.lemmas.List.{drop_all}
use Rattle.std.specs.Str.{bytes_eq}
use Rattle.rm_table.specs.Header.{data_rows, header_of, wrong_cell}
use Rattle.rm_table.specs.Rows.{Row}
use Rattle.rm_table.specs.Source.{IsAt, Moves, Stand, begins_at}
use Rattle.rm_table.proofs.AtLemmas.{at-begin, at-next, at-past}

abbrev pub texts : List (Bor (List ℕ)) → List (List ℕ)
texts ws = map (λ w. w.now) ws

-- the wanted cells from j on agree with the header where those before it did
abbrev pub Agrees : List (Bor (List ℕ)) → ℕ → List (List ℕ) → Type 0
Agrees ws j header = wrong_cell 0 (texts ws) header ≡ wrong_cell j (texts (drop j ws)) header

wrong-at : (ws : List (Bor (List ℕ))) (j : ℕ) (d : Bor (List ℕ)) (header : List (List ℕ)) (b : Bool) → j < length ws → bytes_eq (get_or header j []) (get_or ws j d).now ≡ b
    → wrong_cell j (texts (drop j ws)) header ≡ (if b then wrong_cell (j + 1) (texts (drop (j + 1) ws)) header else Some (j + 1))
unfolding wrong_cell
wrong-at ws j d header b h same =
    rw (drop-cons ws j d h, add-one j, same) refl

pub header-stop : (ws : List (Bor (List ℕ))) (j : ℕ) (d : Bor (List ℕ)) (header : List (List ℕ)) → Agrees ws j header → j < length ws
    → bytes_eq (get_or header j []) (get_or ws j d).now ≡ false → Some (j + 1) ≡ wrong_cell 0 (texts ws) header
header-stop ws j d header so_far h differs = sym (so_far ∙ wrong-at ws j d header false h differs)

pub header-more : (ws : List (Bor (List ℕ))) (j : ℕ) (d : Bor (List ℕ)) (header : List (List ℕ)) → Agrees ws j header → j < length ws
    → bytes_eq (get_or header j []) (get_or ws j d).now ≡ true → Agrees ws (j + 1) header
header-more ws j d header so_far h same = so_far ∙ wrong-at ws j d header true h same

pub header-end : (ws : List (Bor (List ℕ))) (j : ℕ) (header : List (List ℕ)) → Agrees ws j header → j ≡ length ws → None ≡ wrong_cell 0 (texts ws) header
unfolding wrong_cell
header-end ws j header so_far e =
    let none : drop j ws ≡ [] = drop_all j ws (omega (arith, e)) in
    sym (so_far ∙ rw none refl)

-- the row at hand after the first step is the header
pub header-read : (rows : List Row) (a b : Stand) (some : Bool) → a ≡ begins_at rows → Moves a b (Ok some) → (b.row ≡ header_of rows) × IsAt rows b × (b.coming ≡ data_rows rows)
header-read rows a b true begins m =
    let from : Moves (begins_at rows) b (Ok true) = rw begins at m in
    (rw from.0 refl, at-next rows (begins_at rows) b (at-begin rows) from, rw from.0 refl)
header-read rows a b false begins m =
    let from : Moves (begins_at rows) b (Ok false) = rw begins at m in
    (rw (from.0, from.1) refl, at-past rows (begins_at rows) b (at-begin rows) from, rw (from.0, from.1) refl)
