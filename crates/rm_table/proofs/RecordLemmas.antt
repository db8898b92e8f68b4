-- The records of a text, one read after another.
use Rattle.std.proofs.Common.{◌≡◌, ◌+◌, ◌<◌, ◌≤◌, ◌⊎◌, ◌∙◌, ℕ, zero, suc, true, List, [], ◌∷◌, ◌++◌, length, Option, Some, None, inl, inr, refl, ap, sym, arith, add-one, Bor, filter, map}
use Rattle.std.proofs.lemmas.Bool.{cases_Bool}
use Rattle.std.proofs.lemmas.List.Elements.{filter-append}
use Rattle.csv.specs.Machine.{Read, next_record, step, is_end, fields_after, field_after, ends_at_end}
use Rattle.csv.specs.Reading.{default_config, records_from, records_next, Reached, ReadRecord, source_of}
use Rattle.csv.specs.Records.{AllText}
use Rattle.csv.specs.declared.parser.Config.{Config}
use Rattle.csv.specs.declared.parser.State.{State}
use Rattle.csv.specs.declared.parser.State.TheVariants as st
use Rattle.csv.specs.declared.reader.Reader.{Reader}
use Rattle.csv.proofs.ReadFacts.{rows-more}
use Rattle.rm_table.specs.Rows.{Row, has_cell, row_of, rows_from}

-- the records that are read from a state on
abbrev pub records_after : State → List ℕ → List (List (List ℕ))
records_after s bytes = records_from default_config (length bytes + 1) s bytes

-- a read takes a byte, or is the last
abbrev Advances : List ℕ → Read → Type 0
Advances xs q = (length q.2 < length xs) ⊎ ((q.1 ≡ st.StartRecord) × (q.2 ≡ []))

some-is : {X : Type 0} (x y : X) → Some x ≡ Some y → y ≡ x
some-is x y e = cc

advances : (cfg : Config) (s : State) (f : List (List ℕ)) (p xs : List ℕ) (q : Read) → next_record cfg s f p xs ≡ Some q → Advances xs q
unfolding next_record
advances cfg s f p [] q e =
    elim (cases_Bool (ends_at_end s)) [
      | inl ends ↦ let is = some-is _ q (rw ends at e) in inr (rw is refl, rw is refl)
      | inr goes ↦ cc (rw goes at e)
    ]
advances cfg s f p (c ∷ rest) q e =
    elim (cases_Bool (is_end (step cfg s c).1)) [
      | inl ends ↦ let is = some-is _ q (rw ends at e) in inl (rw is (omega arith))
      | inr goes ↦
          elim (advances cfg (step cfg s c).0 (fields_after (step cfg s c).1 f p) (field_after (step cfg s c).1 c p) rest q (rw goes at e)) [
            | inl less ↦ inl (omega (arith, less))
            | inr last ↦ inr last
          ]
    ]

-- no record is left at the end of a text
none-left : (cfg : Config) (n : ℕ) → records_from cfg n st.StartRecord [] ≡ []
unfolding records_from next_record
none-left cfg zero = refl
none-left cfg (suc n) = refl

-- one read, and then the records after it, whichever count of turns there is
enough-after : (cfg : Config) (n m : ℕ) (xs : List ℕ) (o : Option Read) → ((q : Read) → o ≡ Some q → Advances xs q)
    → ((s : State) (ys : List ℕ) → length ys < n → length ys < m → records_from cfg n s ys ≡ records_from cfg m s ys)
    → length xs ≤ n → length xs ≤ m → records_next (records_from cfg n) o ≡ records_next (records_from cfg m) o
enough-after cfg n m xs None takes ih a b = refl
enough-after cfg n m xs (Some q) takes ih a b =
    elim (takes q refl) [
      | inl less ↦ ap (λ (r : List (List (List ℕ))). q.0 ∷ r) (ih q.1 q.2 (omega (arith, less, a)) (omega (arith, less, b)))
      | inr last ↦ rw (last.0, last.1) (ap (λ (r : List (List (List ℕ))). q.0 ∷ r) (none-left cfg n ∙ sym (none-left cfg m)))
    ]

-- a count of turns above the number of bytes is enough
enough : (cfg : Config) (n m : ℕ) (s : State) (xs : List ℕ) → length xs < n → length xs < m → records_from cfg n s xs ≡ records_from cfg m s xs
unfolding records_from
enough cfg zero m s xs a b = absurd (omega (arith, a))
enough cfg (suc n) zero s xs a b = absurd (omega (arith, b))
enough cfg (suc n) (suc m) s xs a b =
    enough-after cfg n m xs (next_record cfg s [] [] xs) (advances cfg s [] [] xs) (λ t ys c d. enough cfg n m t ys c d) (omega (arith, a)) (omega (arith, b))

-- the records from a state on, after one read
records-suc : (s : State) (xs : List ℕ) (n : ℕ) (q : Read) → next_record default_config s [] [] xs ≡ Some q → length xs ≤ n
    → records_from default_config (suc n) s xs ≡ q.0 ∷ records_after q.1 q.2
unfolding records_from
records-suc s xs n q e h =
    rw e (ap (λ (r : List (List (List ℕ))). q.0 ∷ r) (elim (advances default_config s [] [] xs q e) [
      | inl less ↦ enough default_config n (length q.2 + 1) q.1 q.2 (omega (arith, less, h)) (omega arith)
      | inr last ↦ rw (last.0, last.1) (none-left default_config n ∙ sym (none-left default_config (0 + 1)))
    ]))

pub records-more : (s : State) (xs : List ℕ) (q : Read) → next_record default_config s [] [] xs ≡ Some q → records_after s xs ≡ q.0 ∷ records_after q.1 q.2
records-more s xs q e = rw (add-one (length xs)) (records-suc s xs (length xs) q e (omega arith))

pub records-end : (s : State) (xs : List ℕ) → next_record default_config s [] [] xs ≡ None → records_after s xs ≡ []
unfolding records_from
records-end s xs e = rw (add-one (length xs), e) refl

-- the same, with the record, the state and the rest named
one-more : (s t : State) (y z : List ℕ) (f : List (List ℕ)) (q : Read) → next_record default_config s [] [] y ≡ Some q → f ≡ q.0 → q.1 ≡ t → q.2 ≡ z
    → records_after s y ≡ f ∷ records_after t z
one-more s t y z f q e a b c = records-more s y q e ∙ rw (a, ← b, ← c) refl

-- what a reader leaves to read after a record
pub read-more : {R : Type 0} (rem : R → Option (List ℕ)) (a b : Reader R) (f : List (List ℕ)) (y : List ℕ)
    → a.config ≡ default_config → source_of rem a ≡ Some y → ReadRecord rem a b true f
    → (z : List ℕ) × (source_of rem b ≡ Some z) × (records_after a.state y ≡ f ∷ records_after b.state z)
unfolding Reached
read-more rem a b f y config source read =
    let more = rows-more rem a b f default_config a.state y y [] config source (refl, refl) read in
    let one = more.2 in
    (more.0, more.1, one-more a.state b.state y more.0 f one.0 one.1 one.2 one.3.0 one.3.1)

-- the rows of one record, and of those after it
pub rows-front : (f : List (List ℕ)) (rs : List (List (List ℕ))) → rows_from (f ∷ rs) ≡ rows_from (f ∷ []) ++ rows_from rs
rows-front f rs = filter-append has_cell (row_of f ∷ []) (map row_of rs)

-- a row that is no text is kept
pub bad-kept : (row : Row) (rows : List Row) → ¬ (AllText row) → filter has_cell (row ∷ rows) ≡ row ∷ filter has_cell rows
unfolding AllText
bad-kept [] rows h = absurd (h tt)
bad-kept (cell ∷ cells) rows h = refl

-- the bytes that a reader has left
abbrev rest_of : Reader (Bor (List ℕ)) → Option (List ℕ)
rest_of rdr = source_of (λ (s : Bor (List ℕ)). Some s.now) rdr

abbrev count_after : State → Option (List ℕ) → ℕ
count_after s None = 0
count_after s (Some bytes) = length (records_after s bytes)

-- how many records a reader has left
abbrev pub records_left : Reader (Bor (List ℕ)) → ℕ
records_left rdr = count_after rdr.state (rest_of rdr)
