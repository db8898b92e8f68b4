-- A source that goes over rows.
use Rattle.std.proofs.Common.{◌≡◌, ◌∙◌, false, true, List, [], ◌∷◌, ◌++◌, Some, None, Ok, Err, refl, ap, sym, arith, append_assoc, length-append}
use Rattle.std.proofs.lemmas.List.{append-nil}
use Rattle.std.proofs.lemmas.List.Folds.{list_all-append}
use Rattle.rm_table.specs.Rows.{Row, bad_text, is_text}
use Rattle.rm_table.specs.Source.{FindsBadText, IsAt, Moves, Stand, begins_at}
use Rattle.rm_table.specs.declared.TableFault.{TableFault}
use Rattle.rm_table.specs.declared.TableFault.TheVariants as fault
use Rattle.rm_table.proofs.TextLemmas.{next-bad-text, no-bad-text}

-- before the first row
pub at-begin : (rows : List Row) → IsAt rows (begins_at rows)
at-begin rows = record { given = []; parts = refl; number = refl; texts = refl }

-- one row more
pub at-next : (rows : List Row) (a b : Stand) → IsAt rows a → Moves a b (Ok true) → IsAt rows b
at-next rows a b h m = record {
  given = h.given ++ b.row ∷ [];
  parts = h.parts ∙ ap (λ (l : List Row). h.given ++ l) m.0 ∙ sym (append_assoc h.given (b.row ∷ []) b.coming);
  number = omega (arith, m.2, h.number, length-append h.given (b.row ∷ []));
  texts = rw (list_all-append is_text h.given (b.row ∷ []), h.texts, m.1) refl;
}

-- past the last row
pub at-past : (rows : List Row) (a b : Stand) → IsAt rows a → Moves a b (Ok false) → IsAt rows b
at-past rows a b h m = rw m.1 (record { given = h.given; parts = rw m.0 at h.parts; number = h.number; texts = h.texts })

-- all rows were given
pub at-end : (rows : List Row) (a : Stand) → IsAt rows a → a.coming ≡ [] → bad_text rows ≡ None
at-end rows a h none = no-bad-text rows (rw (h.parts, none, append-nil h.given) h.texts)

-- the next row is no text
pub at-stops : (rows : List Row) (a b : Stand) (e : TableFault) → IsAt rows a → Moves a b (Err e) → FindsBadText rows (Err e)
at-stops rows a b (fault.BadText n) h m = rw h.parts (next-bad-text h.given a.coming h.texts m.0) ∙ ap Some (sym (m.1 ∙ h.number))
at-stops rows a b fault.NoMemory h m = tt
