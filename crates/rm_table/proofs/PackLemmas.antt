-- Cells that are packed in one text.
use Rattle.std.proofs.Common.{◌≡◌, ◌+◌, ◌-◌, ◌<◌, ◌∙◌, ℕ, zero, suc, true, List, [], ◌∷◌, ◌++◌, length, drop, get_or, slice_range, All, IsUtf8, IsCharBoundary, refl, arith, length-append}
use Rattle.std.proofs.lemmas.List.{drop-append-le}
use Rattle.std.proofs.lemmas.List.Elements.{All-nil, All-head, All-tail, All-push, All-get_or, All-weaker}
use Rattle.std.proofs.lemmas.Str.{IsUtf8-append, IsUtf8-between, IsUtf8-drop, IsCharBoundary-from_drop, IsCharBoundary-start, IsCharBoundary-end}
use Rattle.std.proofs.Math.Seq.{drop-append_seam}
use Rattle.csv.specs.Records.{AllText, Rising, cut_from, last_end, prev}
use Rattle.csv.proofs.RecordFacts.{rising-end, rising-more, last-append, cut-end, cut-more, field-cut, field-get, prev-first, prev-next, text-take}
use Rattle.rm_table.specs.Packed.{ArePackedCells, between, rows_cut}
use Rattle.rm_table.specs.Rows.{is_text}
use Rattle.rm_table.proofs.TextLemmas.{test-true}
use Rattle.std.specs.List.{list_all}
use Rattle.std.proofs.lemmas.Bool.{and_from}

pub no-cell-packed : ArePackedCells [] []
unfolding Rising last_end
no-cell-packed = record { rising = omega arith; last = refl; chars = All-nil (IsCharBoundary []) }

-- what is put behind a text moves no character in it
char-more : (bytes more : List ℕ) (i : ℕ) → IsUtf8 bytes → IsUtf8 more → IsCharBoundary bytes i → IsCharBoundary (bytes ++ more) i
char-more bytes more i u v h =
    let rest : IsUtf8 (drop i (bytes ++ more)) = rw (drop-append-le i bytes more h.0) (IsUtf8-append (drop i bytes) more (IsUtf8-drop bytes i u h) v) in
    IsCharBoundary-from_drop (bytes ++ more) i (omega (arith, h.0, length-append bytes more)) rest

chars-more : (ends bytes more : List ℕ) → IsUtf8 bytes → IsUtf8 more → All (IsCharBoundary bytes) ends → All (IsCharBoundary (bytes ++ more)) ends
chars-more ends bytes more u v h =
    All-weaker (IsCharBoundary bytes) (IsCharBoundary (bytes ++ more)) (λ i. char-more bytes more i u v) ends h

rising-behind : (ends bytes text : List ℕ) → ArePackedCells ends bytes → Rising 0 ends (length (bytes ++ text))
rising-behind ends bytes text p = rising-more 0 ends (length bytes) (length (bytes ++ text)) p.rising (omega (arith, length-append bytes text))

-- one cell more
pub cell-packed : (ends bytes text : List ℕ) → IsUtf8 bytes → IsUtf8 text → ArePackedCells ends bytes → ArePackedCells (ends ++ length (bytes ++ text) ∷ []) (bytes ++ text)
cell-packed ends bytes text u v p = record {
  rising = rising-end 0 ends (length (bytes ++ text)) (rising-behind ends bytes text p);
  last = last-append 0 ends (length (bytes ++ text));
  chars = All-push (IsCharBoundary (bytes ++ text)) ends (length (bytes ++ text)) (chars-more ends bytes text u v p.chars) (IsCharBoundary-end (bytes ++ text));
}

pub cell-cut : (ends bytes text : List ℕ) → ArePackedCells ends bytes → cut_from 0 (ends ++ length (bytes ++ text) ∷ []) (bytes ++ text) ≡ cut_from 0 ends bytes ++ text ∷ []
cell-cut ends bytes text p =
    cut-end 0 ends (bytes ++ text) (rising-behind ends bytes text p)
    ∙ rw (cut-more 0 ends bytes text p.rising, p.last, drop-append_seam bytes text) refl

-- the cell at a place
pub cell-is-cut : (ends bytes : List ℕ) (i : ℕ) → i < length ends → get_or (cut_from 0 ends bytes) i [] ≡ slice_range bytes (prev 0 ends i) (get_or ends i 0)
cell-is-cut ends bytes i lt = field-get (cut_from 0 ends bytes) i (slice_range bytes (prev 0 ends i) (get_or ends i 0)) (field-cut 0 ends bytes i lt)

-- a cell starts and ends where a character does
pub end-char : (ends bytes : List ℕ) (i : ℕ) → ArePackedCells ends bytes → i < length ends → IsCharBoundary bytes (get_or ends i 0)
end-char ends bytes i p lt = All-get_or (IsCharBoundary bytes) ends i 0 lt p.chars

pub start-char : (ends bytes : List ℕ) (i : ℕ) → ArePackedCells ends bytes → i < length ends → 0 < prev 0 ends i → IsCharBoundary bytes (prev 0 ends i)
start-char ends bytes zero p lt some = absurd (omega (arith, some, prev-first ends))
start-char ends bytes (suc i) p lt some =
    let step : suc i ≡ i + 1 = omega arith in
    let at : prev 0 ends (suc i) ≡ get_or ends i 0 = rw step (prev-next 0 ends i 0 (omega (arith, lt))) in
    rw at (end-char ends bytes i p (omega (arith, lt)))

-- each cell is text
cut-text : (start : ℕ) (ends bytes : List ℕ) → IsUtf8 bytes → IsCharBoundary bytes start → All (IsCharBoundary bytes) ends → Rising start ends (length bytes)
    → AllText (cut_from start ends bytes)
unfolding AllText cut_from Rising
cut-text start [] bytes text at chars rising = tt
cut-text start (end ∷ ends) bytes text at chars rising =
    let here = All-head (IsCharBoundary bytes) end ends chars in
    (IsUtf8-between bytes start end text rising.0 at here, cut-text end ends bytes text here (All-tail (IsCharBoundary bytes) end ends chars) rising.1)

pub cells-text : (ends bytes : List ℕ) → IsUtf8 bytes → ArePackedCells ends bytes → AllText (cut_from 0 ends bytes)
cells-text ends bytes text p = cut-text 0 ends bytes text (IsCharBoundary-start bytes text) p.chars p.rising

text-drop : (n : ℕ) (cells : List (List ℕ)) → AllText cells → AllText (drop n cells)
unfolding AllText
text-drop zero cells h = h
text-drop (suc n) [] h = tt
text-drop (suc n) (cell ∷ cells) h = text-drop n cells h.1

pub between-text : (start end : ℕ) (cells : List (List ℕ)) → AllText cells → AllText (between start end cells)
between-text start end cells h = text-take (end - start) (drop start cells) (text-drop start cells h)

pub rows-text : (start : ℕ) (ends : List ℕ) (cells : List (List ℕ)) → AllText cells → list_all is_text (rows_cut start ends cells) ≡ true
unfolding rows_cut
rows-text start [] cells h = refl
rows-text start (end ∷ ends) cells h =
    and_from (is_text (between start end cells)) (list_all is_text (rows_cut end ends cells)) (test-true (between start end cells) (between-text start end cells h)) (rows-text end ends cells h)
