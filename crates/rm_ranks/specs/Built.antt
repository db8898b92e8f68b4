-- Lists of numbers that are built item by item.
use Rattle.std.specs.Prelude.{ℕ, ◌+◌, List, [], ◌++◌, get_or, set, length, Option, Some, None}

-- the lists, the mark of each that was begun, which was begun last, how many items they hold,
-- how many different items there are, and how many the lists may hold
pub record ListsTold : Type 0 where
  pub lists : List (List ℕ)
  pub marks : List (Option ℕ)
  pub at : Option ℕ
  pub held : ℕ
  pub items : ℕ
  pub limit : ℕ

abbrev pub list_at : List (List ℕ) → Option ℕ → List ℕ
list_at lists None = []
list_at lists (Some i) = get_or lists i []

-- the list begun last
abbrev pub last_list : ListsTold → List ℕ
last_list b = list_at b.lists b.at

-- list i is begun
abbrev pub begun : ListsTold → ℕ → ℕ → ListsTold
begun b i mark = record b { marks = set b.marks i (Some mark); at = Some i }

abbrev pub grown : List (List ℕ) → Option ℕ → List ℕ → List (List ℕ)
grown lists None items = lists
grown lists (Some i) items = set lists i (get_or lists i [] ++ items)

-- the list begun last has these items more
abbrev pub with_items : ListsTold → List ℕ → ListsTold
with_items b items = record b { lists = grown b.lists b.at items; held = b.held + length items }
