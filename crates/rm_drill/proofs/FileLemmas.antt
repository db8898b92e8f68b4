-- Texts with one more row or entry.
use Rattle.std.proofs.Common.{◌≡◌, ◌∙◌, ◌++◌, ◌+◌, ℕ, List, [], ◌∷◌, flat_map, map, ap, sym, add-one}
use Rattle.std.proofs.lemmas.List.{append_assoc, append-nil, map-append}
use Rattle.std.proofs.lemmas.Grind.{flat_map-append}
use Rattle.csv.specs.Writing.{row_text}
use Rattle.rm_sets.specs.Sets.{below}
use Rattle.rm_base.specs.Text.{Text}
use Rattle.rm_table.specs.Rows.{Row}
use Rattle.rm_drill_laws.specs.Written.{flexible_writer, written}
use Rattle.rm_drill_laws.proofs.Writers.{written_more}
use Rattle.rm_drill.specs.Files.{entries_text, entry_text, policy_head}

pub written-one : (row : Row) → written (row ∷ []) ≡ row_text flexible_writer row
unfolding written
written-one row = append-nil (row_text flexible_writer row)

-- the row of the next number
pub row-more : (header : Row) (row : ℕ → Row) (k : ℕ)
    → written (header ∷ map row (below (k + 1))) ≡ written (header ∷ map row (below k)) ++ row_text flexible_writer (row k)
row-more header row k =
    rw (add-one k) (ap (λ (rows : List Row). written (header ∷ rows)) (map-append row (below k) (k ∷ []))
    ∙ written_more (header ∷ map row (below k)) (row k))

-- the entry of the next prefecture
pub entry-more : (capacities targets : List ℕ) (q : ℕ) (before after : Text) → before ≡ entries_text capacities targets q
    → after ≡ before ++ entry_text capacities targets q → after ≡ entries_text capacities targets (q + 1)
entry-more capacities targets q before after so_far more =
    let entry = entry_text capacities targets in
    let next : flat_map entry (below q ++ q ∷ []) ≡ flat_map entry (below q) ++ entry q =
    flat_map-append entry (below q) (q ∷ []) ∙ ap (λ (t : Text). flat_map entry (below q) ++ t) (append-nil (entry q)) in
    rw (add-one q) (rw so_far at more ∙ append_assoc policy_head (flat_map entry (below q)) (entry q) ∙ ap (λ (t : Text). policy_head ++ t) (sym next))
