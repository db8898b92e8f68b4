-- Texts of lines.
use Rattle.std.proofs.Common.{◌≡◌, ◌∙◌, ◌++◌, List, [], ◌∷◌, ap, sym}
use Rattle.std.specs.List.{concat}
use Rattle.std.proofs.lemmas.List.{append-nil}
use Rattle.std.proofs.lemmas.List.Folds.{concat-append}
use Rattle.rm_base.specs.Text.{Text}

-- a text of these lines
pub record IsOf (lines : List Text) (text : Text) : Type 0 where
  pub is : text ≡ concat lines

pub no-line : (text : Text) → text ≡ [] → IsOf [] text
no-line text e = record { is = e }

-- a line more
pub line-more : (lines : List Text) (before after line : Text) → IsOf lines before → after ≡ before ++ line → IsOf (lines ++ line ∷ []) after
line-more lines before after line so_far e =
    record { is = e ∙ ap (λ (t : Text). t ++ line) so_far.is ∙ ap (λ (t : Text). concat lines ++ t) (sym (append-nil line)) ∙ sym (concat-append lines (line ∷ [])) }
