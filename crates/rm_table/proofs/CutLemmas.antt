-- Rows that are cut from a list of cells.
use Rattle.std.proofs.Common.{◌≡◌, ◌+◌, ◌-◌, ◌<◌, ◌≤◌, ◌∙◌, ℕ, zero, suc, true, None, Ok, List, [], ◌∷◌, ◌++◌, length, drop, get_or, refl, ap, sym, arith, append_assoc, length-append}
use Rattle.std.proofs.lemmas.List.{append-nil, drop-append-le, take-append-le, get_or-drop, get_or-take, length-drop, take_all}
use Rattle.std.proofs.Math.Seq.{drop-append_seam}
use Rattle.csv.specs.Records.{Rising, last_end, prev}
use Rattle.csv.proofs.RecordFacts.{rising-first, rising-end, rising-more, last-append, field-bounds}
use Rattle.rm_table.specs.Rows.{Row, bad_text}
use Rattle.rm_table.specs.Source.{IsAt, Moves, Stand, begins_at}
use Rattle.rm_table.proofs.AtLemmas.{at-begin, at-end, at-next}
use Rattle.rm_table.specs.Packed.{between, rows_cut, ArePackedRows}

-- one row for each place
pub cut-length : (start : ℕ) (ends : List ℕ) (cells : Row) → length (rows_cut start ends cells) ≡ length ends
unfolding rows_cut
cut-length start [] cells = refl
cut-length start (end ∷ ends) cells = ap suc (cut-length end ends cells)

-- the row at a place
pub cut-row : (start : ℕ) (ends : List ℕ) (cells : Row) (i : ℕ) → i < length ends
    → get_or (rows_cut start ends cells) i [] ≡ between (prev start ends i) (get_or ends i 0) cells
unfolding rows_cut prev
cut-row start [] cells i h = absurd (omega (arith, h))
cut-row start (end ∷ ends) cells zero h = refl
cut-row start (end ∷ ends) cells (suc i) h = cut-row end ends cells i (omega (arith, h))

-- cells after a row's end change nothing in it
between-more : (start end : ℕ) (cells more : Row) → start ≤ end → end ≤ length cells → between start end (cells ++ more) ≡ between start end cells
between-more start end cells more h g =
    let size = length-drop start cells in
    rw (drop-append-le start cells more (omega (arith, h, g)))
    (take-append-le (end - start) (drop start cells) more (rw size (omega (arith, h, g))))

pub cut-more : (start : ℕ) (ends : List ℕ) (cells more : Row) → Rising start ends (length cells) → rows_cut start ends (cells ++ more) ≡ rows_cut start ends cells
unfolding rows_cut Rising
cut-more start [] cells more h = refl
cut-more start (end ∷ ends) cells more h =
    rw (between-more start end cells more h.0 (rising-first end ends (length cells) h.1), cut-more end ends cells more h.1) refl

-- one place more
pub cut-end : (start : ℕ) (ends : List ℕ) (end : ℕ) (cells : Row) → rows_cut start (ends ++ end ∷ []) cells ≡ rows_cut start ends cells ++ between (last_end start ends) end cells ∷ []
unfolding rows_cut last_end
cut-end start [] end cells = refl
cut-end start (e ∷ ends) end cells = ap (λ (rows : List Row). between start e cells ∷ rows) (cut-end e ends end cells)

-- the last cells
between-last : (cells row : Row) → between (length cells) (length (cells ++ row)) (cells ++ row) ≡ row
between-last cells row =
    rw (drop-append_seam cells row) (take_all (length (cells ++ row) - length cells) row (omega (arith, length-append cells row)))

pub none-packed : ArePackedRows [] []
unfolding Rising last_end
none-packed = record { rising = omega arith; last = refl }

-- one row more
pub row-packed : (ends new_ends : List ℕ) (cells new row : Row) → ArePackedRows ends cells → new ≡ cells ++ row → new_ends ≡ ends ++ length new ∷ []
    → ArePackedRows new_ends new × (rows_cut 0 new_ends new ≡ rows_cut 0 ends cells ++ row ∷ [])
row-packed ends new_ends cells new row p is ends_are = rw (ends_are, is) (
  record {
    rising = rising-end 0 ends (length (cells ++ row)) (rising-more 0 ends (length cells) (length (cells ++ row)) p.rising (omega (arith, length-append cells row)));
    last = last-append 0 ends (length (cells ++ row));
  },
  cut-end 0 ends (length (cells ++ row)) (cells ++ row) ∙ rw (cut-more 0 ends cells row p.rising, p.last, between-last cells row) refl,
)

-- where a row starts and ends
pub row-bounds : (ends : List ℕ) (cells : Row) (i : ℕ) → ArePackedRows ends cells → i < length ends → (prev 0 ends i ≤ get_or ends i 0) × (get_or ends i 0 ≤ length cells)
row-bounds ends cells i p h = field-bounds 0 ends (length cells) i p.rising h

-- the cell at a place of a row
pub cell-between : (start end : ℕ) (cells : Row) (j : ℕ) → start ≤ end → end ≤ length cells → j < end - start → get_or (between start end cells) j [] ≡ get_or cells (start + j) []
cell-between start end cells j h g lt = get_or-take (end - start) (drop start cells) j [] lt ∙ get_or-drop start cells j []

-- ---- rows that are kept, from a source in their midst

pub record AreKept (rows : List Row) (ends : List ℕ) (cells : Row) (stand : Stand) : Type 0 where
  pub packed : ArePackedRows ends cells
  pub at : IsAt rows stand
  pub kept : rows ≡ rows_cut 0 ends cells ++ stand.coming

pub none-kept : (rows : List Row) → AreKept rows [] [] (begins_at rows)
unfolding rows_cut
none-kept rows = record { packed = none-packed; at = at-begin rows; kept = refl }

pub one-kept : (rows : List Row) (ends : List ℕ) (cells : Row) (a b : Stand) (new_ends : List ℕ) (new_cells : Row) → AreKept rows ends cells a → Moves a b (Ok true)
    → ArePackedRows new_ends new_cells → rows_cut 0 new_ends new_cells ≡ rows_cut 0 ends cells ++ b.row ∷ [] → AreKept rows new_ends new_cells b
one-kept rows ends cells a b new_ends new_cells k m packed more = record {
  packed = packed;
  at = at-next rows a b k.at m;
  kept = k.kept ∙ ap (λ (l : List Row). rows_cut 0 ends cells ++ l) m.0 ∙ sym (append_assoc (rows_cut 0 ends cells) (b.row ∷ []) b.coming) ∙ ap (λ (l : List Row). l ++ b.coming) (sym more);
}

pub all-kept : (rows : List Row) (ends : List ℕ) (cells : Row) (a : Stand) → AreKept rows ends cells a → a.coming ≡ [] → (bad_text rows ≡ None) × (rows_cut 0 ends cells ≡ rows)
all-kept rows ends cells a k none = (at-end rows a k.at none, sym (k.kept ∙ rw none (append-nil (rows_cut 0 ends cells))))
