-- What is reported where nothing is put.
use Rattle.std.proofs.Common.{◌≡◌, ℕ, [], Option, inl}
use Rattle.std.proofs.KnownBytes.{Appends-nil}
use Rattle.rm_base.specs.Text.{Text}
use Rattle.rm_top.specs.Answers.{Reports}

pub reports_nothing : (before after : ℕ) (told : Option Text) (text : Text) → text ≡ [] → Reports before after told told text
reports_nothing before after told text e = rw e (inl (Appends-nil told))
