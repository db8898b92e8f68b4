-- What is written where no command's text is.
use Rattle.std.specs.Prelude.{ℕ, [], ◌∷◌, codes, decimal}
use Rattle.std.specs.List.{concat}
use Rattle.rm_base.specs.Text.{Text}
use Rattle.rm_base.specs.declared.Refusal.{Refusal}

unfoldable pub refusal_text : Refusal → Text
refusal_text r = concat (codes "refused " ∷ decimal r.code ∷ codes " " ∷ decimal r.file ∷ codes " " ∷ decimal r.a ∷ codes " " ∷ decimal r.b ∷ codes "\n" ∷ [])

unfoldable pub read_fault_text : ℕ → Text
read_fault_text file = concat (codes "read fault " ∷ decimal file ∷ codes "\n" ∷ [])

abbrev pub write_fault_text : Text
write_fault_text = codes "write fault\n"

abbrev pub no_memory_text : Text
no_memory_text = codes "no memory\n"
