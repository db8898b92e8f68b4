-- Texts with one more row.
use Rattle.std.proofs.Common.{◌≡◌, ◌∙◌, ◌++◌, ◌+◌, ◌<◌, ℕ, length, take, get_or, List, [], ◌∷◌, flat_map, map, ap, sym, add-one}
use Rattle.std.proofs.lemmas.List.{append_assoc, append-nil, map-append, map_more}
use Rattle.std.proofs.lemmas.Grind.{flat_map-append}
use Rattle.csv.specs.Writing.{row_text, default_writer}
use Rattle.rm_base.specs.Text.{Text}
use Rattle.rm_market.specs.Tree.{below}
use Rattle.rm_case.specs.Case.{CaseData}
use Rattle.rm_roster.specs.Roster.{hospitals_in}
use Rattle.rm_report.specs.Report.{hospital_row, prefecture_rows, report_header, report_rows, whole_row}
use Rattle.rm_report.specs.Texts.{csv_text, PlacesData}

pub csv-one : (row : List Text) → csv_text (row ∷ []) ≡ row_text default_writer row
unfolding csv_text
csv-one row = append-nil (row_text default_writer row)

-- one more row at the end
pub csv-more : (rows : List (List Text)) (row : List Text) → csv_text (rows ++ row ∷ []) ≡ csv_text rows ++ row_text default_writer row
unfolding csv_text
csv-more rows row = flat_map-append (row_text default_writer) rows (row ∷ []) ∙ ap (λ (t : List ℕ). flat_map (row_text default_writer) rows ++ t) (append-nil (row_text default_writer row))

-- the row of the next doctor
pub row-more : (header : List Text) (row : ℕ → List Text) (d : ℕ)
    → csv_text (header ∷ map row (below (d + 1))) ≡ csv_text (header ∷ map row (below d)) ++ row_text default_writer (row d)
row-more header row d =
    rw (add-one d) (ap (λ (rows : List (List Text)). csv_text (header ∷ rows)) (map-append row (below d) (d ∷ []))
    ∙ csv-more (header ∷ map row (below d)) (row d))

-- the row of the next item of a list
pub item-more : {A : Type 0} (header : List Text) (row : A → List Text) (items : List A) (i : ℕ) (d : A) → i < length items
    → csv_text (header ∷ map row (take (i + 1) items)) ≡ csv_text (header ∷ map row (take i items)) ++ row_text default_writer (row (get_or items i d))
item-more header row items i d low =
    ap (λ (rows : List (List Text)). csv_text (header ∷ rows)) (map_more row items i d low)
    ∙ csv-more (header ∷ map row (take i items)) (row (get_or items i d))

-- rows and then rows
pub csv-append : (rows more : List (List Text)) → csv_text (rows ++ more) ≡ csv_text rows ++ csv_text more
unfolding csv_text
csv-append rows more = flat_map-append (row_text default_writer) rows more

-- the rows of the next prefecture
pub prefecture-more : (c : CaseData) (places : PlacesData) (q : ℕ)
    → csv_text (report_rows c places (q + 1)) ≡ csv_text (report_rows c places q) ++ csv_text (prefecture_rows c places q)
prefecture-more c places q =
    rw (add-one q) (ap (λ (rows : List (List Text)). csv_text (report_header ∷ rows))
    (flat_map-append (prefecture_rows c places) (below q) (q ∷ []) ∙ ap (λ (rows : List (List Text)). flat_map (prefecture_rows c places) (below q) ++ rows) (append-nil (prefecture_rows c places q)))
    ∙ csv-append (report_rows c places q) (prefecture_rows c places q))

-- the row of the next hospital of a prefecture
pub hospital-more : (c : CaseData) (places : PlacesData) (q : ℕ) (hospitals : List ℕ) (i : ℕ) (text : Text) → i < length hospitals
    → text ++ csv_text (map (hospital_row c places q) (take (i + 1) hospitals))
    ≡ (text ++ csv_text (map (hospital_row c places q) (take i hospitals))) ++ row_text default_writer (hospital_row c places q (get_or hospitals i 0))
hospital-more c places q hospitals i text low =
    ap (λ (rows : List (List Text)). text ++ csv_text rows) (map_more (hospital_row c places q) hospitals i 0 low)
    ∙ ap (λ (t : Text). text ++ t) (csv-more (map (hospital_row c places q) (take i hospitals)) (hospital_row c places q (get_or hospitals i 0)))
    ∙ sym (append_assoc text (csv_text (map (hospital_row c places q) (take i hospitals))) (row_text default_writer (hospital_row c places q (get_or hospitals i 0))))

-- the row of the whole prefecture
pub whole-more : (c : CaseData) (places : PlacesData) (q : ℕ) (text : Text)
    → text ++ csv_text (prefecture_rows c places q)
    ≡ (text ++ csv_text (map (hospital_row c places q) (hospitals_in c.roster q))) ++ row_text default_writer (whole_row c places q)
whole-more c places q text =
    ap (λ (t : Text). text ++ t) (csv-more (map (hospital_row c places q) (hospitals_in c.roster q)) (whole_row c places q))
    ∙ sym (append_assoc text (csv_text (map (hospital_row c places q) (hospitals_in c.roster q))) (row_text default_writer (whole_row c places q)))
